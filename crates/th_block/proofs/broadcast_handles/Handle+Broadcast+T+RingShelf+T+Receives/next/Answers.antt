use Rattle.th_block.proofs.Receipts.{next_received}
use Rattle.th_block.proofs.broadcast_handles.Handle+Broadcast+T+RingShelf+T+Receives.next.Goals as goal

pub returns-clause-told : goal.returns-clause-told
returns-clause-told g c = next_received _ _ _ _ c.next_call.result c.next_call.ensures.next c.next_call.ensures.answered

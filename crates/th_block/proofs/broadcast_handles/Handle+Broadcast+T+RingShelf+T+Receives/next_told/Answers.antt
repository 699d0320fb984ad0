use Rattle.th_block.proofs.Receipts.{received_in_loop}
use Rattle.th_block.proofs.broadcast_handles.Handle+Broadcast+T+RingShelf+T+Receives.next_told.Goals as goal

pub returns-clause-told : goal.returns-clause-told
returns-clause-told g c = received_in_loop _ _ _ _ c.next_call_told.result c.next_call_told.ensures.next c.next_call_told.ensures.answered

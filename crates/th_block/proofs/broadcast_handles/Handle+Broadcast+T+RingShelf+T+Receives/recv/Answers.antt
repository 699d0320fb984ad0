use Rattle.th_block.proofs.Receipts.{received}
use Rattle.th_block.proofs.broadcast_handles.Handle+Broadcast+T+RingShelf+T+Receives.recv.Goals as goal

pub returns-clause-told : goal.returns-clause-told
returns-clause-told g c = received _ _ _ c.call.result c.call.ensures.calls c.call.ensures.answered

use Rattle.th_model.specs.BroadcastPicture.{IsSound}
use Rattle.th_log.proofs.Told.{receives}
use Rattle.th_log.specs.Machines.{broadcast}
use Rattle.th_log.specs.Replies.{IsReceived}
use Rattle.th_block.specs.Rows.{IsAnswerTo}
use Rattle.th_block.proofs.Behind.{behind_are}
use Rattle.th_block.proofs.broadcast_handles.Handle+Broadcast+T+RingShelf+T+Receives.recv_many.Goals as goal

pub returns-clause-told : goal.returns-clause-told
returns-clause-told g c = behind_are (IsAnswerTo broadcast IsSound _) (λ r. IsReceived r.reply) _ _
    (λ r is. (receives _ r _ is.1).0 is.0) c.many.ensures.answered

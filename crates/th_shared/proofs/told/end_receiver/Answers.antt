use Rattle.th_shared.proofs.Doing.{ends-broadcast-rx, ends-watch-rx}
use Rattle.th_shared.proofs.told.end_receiver.Goals as goal

pub returns-in-Ok-clause-event : goal.returns-in-Ok-clause-event
returns-in-Ok-clause-event g c = rw c.in-Broadcast.is (ends-broadcast-rx c.args.topic.0 _ c.in-Ok.ensures.event)

pub returns-in-Ok-end-clause-event : goal.returns-in-Ok-end-clause-event
returns-in-Ok-end-clause-event g c = rw c.in-Watch.is (ends-watch-rx c.args.topic.0 _ c.in-Ok-end.ensures.event)

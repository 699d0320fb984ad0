use Rattle.th_registry.specs.Events.{Own}
use Rattle.th_shared.proofs.Doing.{ends-broadcast-tx, ends-watch-tx}
use Rattle.th_shared.proofs.told.end_sender.Goals as goal

pub returns-in-Ok-clause-event : goal.returns-in-Ok-clause-event
returns-in-Ok-clause-event g c = rw c.in-Broadcast.is (ends-broadcast-tx c.args.topic.0 (Own _) c.in-Ok.ensures.event)

pub returns-in-Ok-end-clause-event : goal.returns-in-Ok-end-clause-event
returns-in-Ok-end-clause-event g c = rw c.in-Watch.is (ends-watch-tx c.args.topic.0 (Own _) c.in-Ok-end.ensures.event)

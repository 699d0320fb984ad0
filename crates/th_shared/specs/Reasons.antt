-- Why there was no event, by what a log or a handle said.
use Rattle.th_log.specs.declared.receipt.Refused.{Refused}
use Rattle.th_log.specs.declared.receipt.Refused.TheVariants as Refuseds
use Rattle.th_registry.specs.declared.outcome.NoEvent.{NoEvent}
use Rattle.th_registry.specs.declared.outcome.NoEvent.TheVariants as NoEvents
use Rattle.std.specs.Prelude.{Result, Ok, Err}

-- a log that says that a handle is foreign does not know it as live
abbrev pub reason : {C : Type 0} → Refused C → NoEvent
reason (Refuseds.Foreign c) = NoEvents.NotLive
reason (Refuseds.Short c) = NoEvents.Short
reason (Refuseds.LogFull c) = NoEvents.LogFull

-- The same through the hub's own sender, which is live until its end. So none is told to have ended before: a channel that does not
-- know it is out of order, and there is no room for the event.
abbrev pub hub_reason : NoEvent → NoEvent
hub_reason NoEvents.NotLive = NoEvents.Short
hub_reason why = why

abbrev pub through_hub : {A : Type 0} → Result A NoEvent → Result A NoEvent
through_hub (Ok came) = Ok came
through_hub (Err why) = Err (hub_reason why)

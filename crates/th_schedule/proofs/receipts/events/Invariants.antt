use Rattle.std.proofs.Common.{◌≡◌, map, take}
use Rattle.std.specs.List.{AllByRecursion}
use Rattle.th_schedule.specs.Schedule.{IsEntry, event_of}
use Rattle.th_schedule.proofs.receipts.events.Given as goal

abbrev pub invariant-loop-told : goal.invariant-loop-told
invariant-loop-told l = record {
  events : l.events.items ≡ map event_of (take l.told-index l.session);
  entries : AllByRecursion (IsEntry l.segments) (take l.told-index l.session);
}

use Rattle.std.proofs.Common.{◌≡◌, ◌≤◌, length, map, take}
use Rattle.th_orders.specs.Rests.{events_of}
use Rattle.th_schedule.specs.Schedule as specs
use Rattle.th_schedule.specs.Schedule.{AreEntries, told_of}
use Rattle.th_schedule.proofs.schedules.all_events.Given as goal

abbrev pub invariant-loop-number : goal.invariant-loop-number
invariant-loop-number l = record {
  events : map events_of l.all.items ≡ specs.events_of (map told_of (take l.number l.sessions));
  entries : AreEntries l.segments (map told_of (take l.number l.sessions));
  within : l.number ≤ length l.sessions;
}

use Rattle.std.proofs.Common.{◌≡◌, ◌≤◌, ◌++◌, length, map, take}
use Rattle.std.specs.List.{AllByRecursion}
use Rattle.th_orders.specs.Rests.{events_of}
use Rattle.th_registry.specs.Legal.{IsLegalSegment}
use Rattle.th_schedule.specs.Hub.{behind, first_of}
use Rattle.th_schedule.specs.Untold.{noted, own}
use Rattle.th_schedule.proofs.schedules.add_untold.Given as goal

abbrev pub invariant-loop-topic : goal.invariant-loop-topic
invariant-loop-topic l = record {
  added : map events_of l.sessions.items ≡ map events_of l.fn.sessions.items
      ++ own (noted l.told) 0 (map first_of (take l.topic l.segments)) (map behind (take l.topic l.segments));
  legal : AllByRecursion IsLegalSegment (take l.topic l.segments);
  within : l.topic ≤ length l.segments;
}

use Rattle.std.proofs.Common.{◌≡◌, ◌+◌, ◌-◌, ◌≤◌, ◌++◌}
use Rattle.th_schedule.specs.Untold.{noted, untold_from}
use Rattle.th_schedule.proofs.gaps.untold.Given as goal

abbrev pub invariant-loop-number : goal.invariant-loop-number
invariant-loop-number l = record {
  within : l.number ≤ l.count;
  events : l.events.items ++ untold_from (noted l.told) l.topic (l.first + l.number) ((l.first + l.count) - (l.first + l.number))
      ≡ untold_from (noted l.told) l.topic l.first l.count;
}

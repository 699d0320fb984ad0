use Rattle.std.proofs.Common.{◌≡◌, ◌++◌, ◌-◌, ◌≤◌, drop, length, take}
use Rattle.th_program.specs.Shown.{shown}
use Rattle.th_program.proofs.shown.plain_end.Given as goal

-- the bytes up to here stand for themselves
abbrev pub invariant-loop-at : goal.invariant-loop-at
invariant-loop-at l = record {
  up : l.from ≤ l.at;
  within : l.at ≤ length l.name;
  is : shown (drop l.from l.name) ≡ take (l.at - l.from) (drop l.from l.name) ++ shown (drop l.at l.name);
}

abbrev pub decreases-loop-at : goal.decreases-loop-at
decreases-loop-at l = length l.name - l.at

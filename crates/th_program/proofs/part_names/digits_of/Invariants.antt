use Rattle.std.proofs.Common.{◌≡◌, ◌≤◌, ◌++◌, drop, length}
use Rattle.th_program.specs.PartNames.{digits_of}
use Rattle.th_program.proofs.part_names.digits_of.Given as goal

-- the digits from here on stand there, and those before are the rest's
abbrev pub invariant-loop-at : goal.invariant-loop-at
invariant-loop-at l = record {
  low : l.at ≤ 20;
  size : length l.digits ≡ 20;
  is : digits_of l.at l.rest ++ drop l.at l.digits ≡ digits_of 20 l.number;
}

abbrev pub decreases-loop-at : goal.decreases-loop-at
decreases-loop-at l = l.at

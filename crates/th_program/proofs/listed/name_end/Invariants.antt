use Rattle.std.proofs.Common.{◌-◌, length}
use Rattle.th_program.proofs.Listing.{IsInName}
use Rattle.th_program.proofs.listed.name_end.Given as goal

-- the bytes up to here belong to the name
abbrev pub invariant-loop-at : goal.invariant-loop-at
invariant-loop-at l = IsInName l.mark l.text l.from l.at

abbrev pub decreases-loop-at : goal.decreases-loop-at
decreases-loop-at l = length l.text - l.at

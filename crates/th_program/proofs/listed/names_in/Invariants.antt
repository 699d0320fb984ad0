use Rattle.std.proofs.Common.{◌≡◌, ◌++◌, ◌-◌, drop, length, map, string_bytes}
use Rattle.th_program.specs.Listed.{names_in}
use Rattle.th_program.proofs.listed.names_in.Given as goal

-- the names up to here, and those of the rest
abbrev pub invariant-loop-at : goal.invariant-loop-at
invariant-loop-at l = map string_bytes l.names.items ++ names_in l.mark (drop l.at l.text) ≡ names_in l.mark l.text

abbrev pub decreases-loop-at : goal.decreases-loop-at
decreases-loop-at l = length l.text - l.at

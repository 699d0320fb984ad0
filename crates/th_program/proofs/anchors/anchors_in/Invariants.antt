use Rattle.std.proofs.Common.{◌≡◌, ◌++◌, ◌-◌, drop, length, map}
use Rattle.std.specs.List.{filter_map}
use Rattle.th_program.specs.Anchors.{anchor_of, told_of}
use Rattle.th_program.specs.Listed.{names_in}
use Rattle.th_program.proofs.anchors.anchors_in.Given as goal

-- what the lines up to here tell, and what the others do
abbrev pub invariant-loop-at : goal.invariant-loop-at
invariant-loop-at l =
    map told_of l.anchors.items ++ filter_map anchor_of (names_in 10 (drop l.at l.text)) ≡ filter_map anchor_of (names_in 10 l.text)

abbrev pub decreases-loop-at : goal.decreases-loop-at
decreases-loop-at l = length l.text - l.at

use Rattle.std.proofs.Common.{drop, map, string_bytes, None, Option}
use Rattle.th_program.specs.Anchors.{LackFrom, summed_of, told_of}
use Rattle.th_program.specs.declared.whole.Lack.{Lack}
use Rattle.th_program.proofs.anchors.lack_by.Given as goal

-- what the files from here on lack is what all of them do
abbrev pub invariant-loop-at : goal.invariant-loop-at
invariant-loop-at g l = (found : Option Lack)
    → LackFrom (g.O.Opens.holds l.files) (map told_of l.anchors) l.at (summed_of l.last) (map string_bytes (drop l.at l.names)) found
    → LackFrom (g.O.Opens.holds l.files) (map told_of l.anchors) 0 None (map string_bytes l.names) found

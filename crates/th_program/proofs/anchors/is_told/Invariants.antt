use Rattle.std.proofs.Common.{◌≡◌, drop, map}
use Rattle.std.specs.List.{list_any}
use Rattle.th_program.specs.Anchors.{is_of, told_of}
use Rattle.th_program.proofs.anchors.is_told.Given as goal

-- the rest of the anchors decides
abbrev pub invariant-loop-anchor : goal.invariant-loop-anchor
invariant-loop-anchor l =
    list_any (is_of l.file.path.now l.digits) (map told_of (drop l.anchor-index l.anchors))
    ≡ list_any (is_of l.file.path.now l.digits) (map told_of l.anchors)

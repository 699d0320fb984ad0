use Rattle.std.proofs.Common.{◌≡◌, drop, map}
use Rattle.th_program.specs.Anchors.{has_later, told_of}
use Rattle.th_program.proofs.anchors.has_later.Given as goal

-- the rest of the anchors decides
abbrev pub invariant-loop-anchor : goal.invariant-loop-anchor
invariant-loop-anchor l =
    has_later (map told_of (drop l.anchor-index l.anchors)) l.path ≡ has_later (map told_of l.anchors) l.path

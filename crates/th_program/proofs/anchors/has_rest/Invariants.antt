use Rattle.std.proofs.Common.{◌≡◌, drop, map}
use Rattle.std.specs.List.{list_any}
use Rattle.std.specs.Prelude.{◌&&◌}
use Rattle.th_program.specs.Anchors.{AnchorLine, has_later, is_of, told_of}
use Rattle.th_program.proofs.anchors.has_rest.Given as goal

-- the rest of the anchors decides
abbrev pub invariant-loop-anchor : goal.invariant-loop-anchor
invariant-loop-anchor l =
    let all = map told_of l.anchors in
    let tells = λ (told : AnchorLine). is_of l.file.path.now l.digits told && has_later all told.0 in
    list_any tells (map told_of (drop l.anchor-index l.anchors)) ≡ list_any tells all

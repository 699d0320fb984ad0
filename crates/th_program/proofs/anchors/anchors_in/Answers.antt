use Rattle.std.proofs.Common.{◌++◌, ◌+◌, ◌-◌, ap, arith, drop, List, map, take, ◌∙◌}
use Rattle.std.specs.List.{filter_map}
use Rattle.th_program.specs.Anchors.{AnchorLine, anchor_of, anchors_in, told_of}
use Rattle.th_program.specs.Listed.{names_in}
use Rattle.th_program.proofs.Anchoring.{line_read, text_read}
use Rattle.th_program.proofs.anchors.anchors_in.Goals as goal

pub loop-at-preserved : goal.loop-at-preserved
loop-at-preserved c =
    let text = c.args.text.now in
    let at = c.loop-at.at in
    let end = c.name_end-end.result in
    let rest = names_in 10 (drop (end + 1) text) in
    ap (λ (l : List AnchorLine). l ++ filter_map anchor_of rest) c.in_ok-add_line.ensures
    ∙ line_read text (take (end - at) (drop at text)) rest at (map told_of c.loop-at.anchors.items) (anchors_in text)
    c.name_end-end.ensures.name c.loop-at.invariant

pub returns : goal.returns
returns c =
    text_read c.args.text.now c.loop-at.at (map told_of c.loop-at.anchors.items) (omega (arith, c.loop-at-test.false))
    c.loop-at.invariant

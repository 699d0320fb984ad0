use Rattle.std.proofs.Common.{◌∙◌, ap, arith, map, string_bytes, ℕ}
use Rattle.th_program.proofs.Listing.{list_read}
use Rattle.th_program.specs.Listed.{names_in}
use Rattle.th_program.proofs.listed.names_in.Goals as goal

pub returns : goal.returns
returns c =
    list_read c.mark_of-mark.result c.args.text.now c.loop-at.at (map string_bytes c.loop-at.names.items)
    (omega (arith, c.loop-at-test.false)) c.loop-at.invariant
    ∙ ap (λ (m : ℕ). names_in m c.args.text.now) c.mark_of-mark.ensures

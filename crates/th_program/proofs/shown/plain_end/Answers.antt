use Rattle.std.proofs.Common.{◌≡◌, ◌∙◌, arith, sym}
use Rattle.th_program.proofs.Showing.{plain_more}
use Rattle.th_program.proofs.shown.plain_end.Goals as goal

pub loop-at-preserved : goal.loop-at-preserved
loop-at-preserved c =
    let so_far = c.loop-at.invariant in
    let none : c.control_at.result ≡ 0 = omega (arith, c.if-control_at-gt0.false) in
    record {
      up = omega (arith, so_far.up);
      within = omega (arith, c.loop-at-test.true);
      is = plain_more c.args.name.now c.args.from c.loop-at.at so_far.up c.loop-at-test.true (sym c.control_at.ensures ∙ none) so_far.is;
    }

use Rattle.std.proofs.Common.{◌∙◌, List, arith, refl, subst, ℕ}
use Rattle.std.specs.Io.KnownBytes.{Appends}
use Rattle.th_program.proofs.Showing.{shown_ends, shown_next}
use Rattle.th_program.proofs.shown.write_shown.Goals as goal

pub loop-at-preserved : goal.loop-at-preserved
loop-at-preserved g c =
    let old = g.W.Write.contents c.args.writer.now.device in
    let now = g.W.Write.contents c.loop-at.writer.device in
    let mid = g.W.Write.contents c.write_text.new.writer.device in
    let new = g.W.Write.contents c.write_text-in-loop-at.new.writer.device in
    record {
      to = shown_next c.args.name.now old now mid new c.loop-at.at c.plain_end-end.result c.control_at-control.result
          c.loop-at.invariant.to c.plain_end-end.ensures.plain (c.if-not-write_text.ensures.whole refl) c.control_at-control.ensures
          (subst (λ (l : List ℕ). Appends mid new l) c.mark.ensures (c.if-not-write_text-2.ensures.whole refl));
      same = c.if-not-write_text-2.ensures.taken refl ∙ c.if-not-write_text.ensures.taken refl ∙ c.loop-at.invariant.same;
    }

pub returns-clause-whole : goal.returns-clause-whole
returns-clause-whole g c = λ all.
    shown_ends c.args.name.now (g.W.Write.contents c.args.writer.now.device) (g.W.Write.contents c.loop-at.writer.device)
    c.loop-at.at (omega (arith, c.loop-at-test.false)) c.loop-at.invariant.to

use Rattle.std.proofs.Common.{◌∙◌, subst, sym, ℕ, List}
use Rattle.std.proofs.lemmas.List.{take_more}
use Rattle.th_program.proofs.Hearing.{hears_more}
use Rattle.th_program.specs.Advice.{Hears}
use Rattle.th_program.proofs.advising.Advising.advise.Goals as goal

pub loop-byte-preserved : goal.loop-byte-preserved
loop-byte-preserved g c = record {
  output = c.hear.ensures.output ∙ c.loop-byte.invariant.output;
  heard = subst (λ (bytes : List ℕ). Hears g.E.Write.contents c.args.self.now c.hear.new.self bytes)
      (sym (take_more c.args.replies.now c.loop-byte.byte-index 0 c.loop-byte-test.true))
      (hears_more g.E.Write.contents c.args.self.now c.loop-byte.self c.hear.new.self _ _
      c.loop-byte.invariant.heard c.hear.ensures.heard c.hear.ensures.said c.hear.ensures.still c.hear.ensures.people);
}

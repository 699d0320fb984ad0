use Rattle.std.proofs.Common.{ap, arith, refl, subst, sym, ◌∙◌}
use Rattle.th_lines.specs.Feeding.{Feeding, Underway}
use Rattle.th_lines.proofs.FeedingLemmas.{starts}
use Rattle.th_lines.proofs.feeder.Feeder.feed.Goals as goal

pub loop-made-init : goal.loop-made-init
loop-made-init g c =
    let from : g.row.T.Denot × g.row.D.Denot × g.row.W.Denot = (c.args.taker.now, c.args.desk.now, c.args.writer.now) in
    let r = g.R.Read.remaining c.args.reader.now.device in
    record {
      under = λ t. subst (λ (f : Feeding). Underway g.T.TakesLines.took g.T.TakesLines.halts r r from 0 f from) (sym c.requires)
          (starts g.T.TakesLines.took g.T.TakesLines.halts r c.args.self.now.limit from t);
      looked_at = ap (λ (f : Feeding). f.came.ahead) c.requires;
      limit = refl;
      calls = omega arith;
      reads = omega arith;
      failures = refl;
    }

pub loop-made-preserved : goal.loop-made-preserved
loop-made-preserved g c =
    let old = c.loop-made.invariant in
    record {
      under = λ t. c.in-None.ensures.read _ c.loop-made.made (c.args.taker.now, c.args.desk.now, c.args.writer.now) (old.under t);
      looked_at = c.in-None.ensures.looked_at refl;
      limit = c.in-None.ensures.limit ∙ old.limit;
      calls = omega (arith, c.in-None.ensures.call refl, old.calls);
      reads = omega (arith, c.in-None.ensures.calls, old.reads);
      failures = c.in-None.ensures.failures ∙ old.failures;
    }

use Rattle.std.proofs.Common.{subst}
use Rattle.th_lines.specs.Tally.{Tally}
use Rattle.th_session.specs.Ending.{devices}
use Rattle.th_session.specs.Run.{Served, Strictness, strictness}
use Rattle.th_shared.specs.Saying.{Says}
use Rattle.th_sockets.proofs.attended.attend.Goals as goal

pub returns : goal.returns
returns g c =
    let run = c.run_session-session in
    let terms = c.args.terms.now in
    let gate : Strictness =
    strictness g.G.Gate.holds_back g.G.Gate.lets g.G.Gate.gives_up (terms.gate.now, terms.number) in
    let remaining = g.I.Read.remaining in
    let contents = g.W.Write.contents in
    let after = devices remaining run.new.reader contents run.new.writer in
    record {
      new = after;
      after = run.new.desk;
      kept = run.result.0;
      served =
          subst (λ (r : Tally g.row.I.Denot). Served terms.keeping Says gate terms.bounds.lines terms.bounds.reads
          (devices remaining r contents (record { device = c.args.output; calls = 0; failures = 0 })) after
          c.args.desk run.new.desk run.result.0 run.result.1) c.new-reader.ensures
          (subst (λ (w : Tally g.row.W.Denot). Served terms.keeping Says gate terms.bounds.lines terms.bounds.reads
          (devices remaining c.new-reader.result contents w) after
          c.args.desk run.new.desk run.result.0 run.result.1) c.new-writer.ensures run.ensures.served);
      receipts = c.parts-receipts.ensures.receipts;
      segments = c.parts-receipts.ensures.segments;
    }

use Rattle.std.proofs.Common.{refl, subst}
use Rattle.th_lines.specs.Feeding as feeding
use Rattle.th_lines.specs.Intake.{line_given}
use Rattle.th_session.specs.Run.{Progress, IsOver, Took, strictness}
use Rattle.th_session.proofs.Running.{takes_on}
use Rattle.th_session.proofs.run.RunTakesLinesCounted.take.Goals as goal

pub returns : goal.returns
returns g c =
    let i = c.self.inside in
    let strict = strictness g.G.Gate.holds_back g.G.Gate.lets g.G.Gate.gives_up in
    let took = Took g.D.Desk.says strict g.W.Write.contents in
    let over = IsOver g.D.Desk.says strict g.W.Write.contents in
    let Run : Type 0 = Progress g.row.G.Denot in
    let old : Run = record {
      kept = i.session;
      waiting = i.replies.text;
      gate = i.replies.gate;
      keeping = i.keeping;
      owes = g.D.Desk.owes i.owed;
    } in
    let left = c.serve.new.replies in
    let new : Run = record {
      kept = c.serve.new.session;
      waiting = left.text;
      gate = left.gate;
      keeping = i.keeping;
      owes = g.D.Desk.owes c.serve.new.owed;
    } in
    let line = line_given c.args.line in
    subst (λ (k : Run). feeding.Takes took over c.args.taken line (k, c.args.desk.now, c.args.writer.now) c.serve.result
    (new, c.serve.new.desk, c.serve.new.writer)) c.self.view_is
    (takes_on g.D.Desk.says strict g.W.Write.contents c.args.taken line (old, c.args.desk.now, c.args.writer.now)
    (new, c.serve.new.desk, c.serve.new.writer) c.serve.result refl c.serve.ensures.gate c.serve.ensures.serves)

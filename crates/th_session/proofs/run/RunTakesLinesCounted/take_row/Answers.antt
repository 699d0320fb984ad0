use Rattle.std.proofs.Common.{refl, subst}
use Rattle.th_lines.specs.Feeding as feeding
use Rattle.th_session.specs.Run.{Progress, IsOver, Took, strictness}
use Rattle.th_session.proofs.RowTaken.{row_taken}
use Rattle.th_session.proofs.run.RunTakesLinesCounted.take_row.Goals as goal

pub returns : goal.returns
returns g c =
    let i = c.self.inside in
    let strict = strictness g.G.Gate.holds_back g.G.Gate.lets g.G.Gate.gives_up in
    let took = Took g.D.Desk.says strict g.W.Write.contents in
    let over = IsOver g.D.Desk.says strict g.W.Write.contents in
    let Run : Type 0 = Progress g.row.G.Denot in
    let old : Run = record {
      kept = i.session;
      waiting = i.replies.text;
      gate = i.replies.gate;
      keeping = i.keeping;
      owes = g.D.Desk.owes i.owed;
    } in
    let left = c.serve_row.new.replies in
    let new : Run = record {
      kept = c.serve_row.new.session;
      waiting = left.text;
      gate = left.gate;
      keeping = i.keeping;
      owes = g.D.Desk.owes c.serve_row.new.owed;
    } in
    subst (λ (k : Run). feeding.TakesRow took over c.args.taken c.args.most c.args.intake.now (k, c.args.desk.now, c.args.writer.now)
    c.serve_row.result.count c.serve_row.result.end (new, c.serve_row.new.desk, c.serve_row.new.writer)) c.self.view_is
    (row_taken g.D.Desk.says strict g.W.Write.contents c.args.taken c.args.most c.args.intake.now (old, c.args.desk.now, c.args.writer.now)
    (new, c.serve_row.new.desk, c.serve_row.new.writer) c.serve_row.result.count c.serve_row.result.end refl c.serve_row.ensures.gate
    c.serve_row.ensures.let_through c.serve_row.ensures.serves)

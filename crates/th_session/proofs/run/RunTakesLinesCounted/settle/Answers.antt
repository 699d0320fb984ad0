use Rattle.std.proofs.Common.{◌≡◌, refl, subst, sym}
use Rattle.std.specs.Prelude.{Result}
use Rattle.th_lines.specs.Feeding as feeding
use Rattle.th_session.specs.declared.fault.Stop.{Stop}
use Rattle.th_session.specs.Run.{Progress, IsOver, IsSettled, Took, strictness}
use Rattle.th_session.proofs.Running.{settles_broken, settles_on}
use Rattle.th_session.proofs.run.RunTakesLinesCounted.settle.Goals.{in-Ok, in-Err}
use Rattle.th_session.proofs.run.RunTakesLinesCounted.settle.Goals as goal

pub returns : goal.returns
returns g c =
    let i = c.self.inside in
    let strict = strictness g.G.Gate.holds_back g.G.Gate.lets g.G.Gate.gives_up in
    let took = Took g.D.Desk.says strict g.W.Write.contents in
    let over = IsOver g.D.Desk.says strict g.W.Write.contents in
    let Run : Type 0 = Progress g.row.G.Denot in
    let old : Run = record {
      kept = i.session;
      waiting = i.replies.text;
      gate = i.replies.gate;
      keeping = i.keeping;
      owes = g.D.Desk.owes i.owed;
    } in
    let left = c.settle.new.self in
    let new : Run = record {
      kept = i.session;
      waiting = left.text;
      gate = left.gate;
      keeping = i.keeping;
      owes = g.D.Desk.owes c.settle.new.owed;
    } in
    let P : Run → Result (Unit {0}) Stop → Type 0 =
    λ k r. feeding.Settles took over IsSettled
    (k, c.args.desk.now, c.args.writer.now) r (new, c.settle.new.desk, c.settle.new.writer) in
    subst (λ (k : Run). P k c.match-settle.result) c.self.view_is
    (elim c.match-settle.branch [
      | in-Ok w ↦ subst (λ (r : Result (Unit {0}) Stop). P old r) (sym w.result-is)
          (settles_on g.D.Desk.says strict g.W.Write.contents (old, c.args.desk.now, c.args.writer.now)
          (new, c.settle.new.desk, c.settle.new.writer) refl w.in-Ok.ensures.gate refl w.in-Ok.ensures.desk w.in-Ok.ensures.wrote
          w.in-Ok.ensures.paid)
      | in-Err w ↦ subst (λ (r : Result (Unit {0}) Stop). P old r) (sym w.result-is)
          (settles_broken g.D.Desk.says strict g.W.Write.contents (old, c.args.desk.now, c.args.writer.now)
          (new, c.settle.new.desk, c.settle.new.writer) refl w.in-Err.ensures.desk w.in-Err.ensures.wrote)
    ])

use Rattle.std.proofs.Common.{◌∙◌, ℕ, subst, sym}
use Rattle.th_registry.specs.Events.{Receives}
use Rattle.th_registry.specs.Rows.{times}
use Rattle.th_session.specs.Kept.{Kept}
use Rattle.th_session.specs.Held.{handles_at, held}
use Rattle.th_session.specs.Rows.{CarriesFirst}
use Rattle.th_session.proofs.Turns.{AskEach, receives_ask, row_carries}
use Rattle.th_session.proofs.session.Session.receive_row.Goals as goal

pub returns : goal.returns
returns g c = λ lines many p.
    let i = c.self.inside in
    let had : Kept = record {
      handles = held g.D.Desk.tx g.D.Desk.rx i.handles.entries;
      receipts = i.receipts.items;
      segments = i.segments.items;
    } in
    let h = held g.D.Desk.tx g.D.Desk.rx c.receive_row.new.handles.entries in
    let has : Kept = record had { handles = h; receipts = c.receive_row.new.receipts.items } in
    let fits = sym c.receives.ensures ∙ c.if-not-receives.false in
    let own = handles_at had.handles c.in-Some.found.topic.0 in
    subst (λ (k : Kept). CarriesFirst g.D.Desk.says lines (k, c.args.desk.now) c.receive_row.result (has, c.receive_row.new.desk))
    c.self.view_is
    (row_carries g.D.Desk.says c.in-Some.found c.args.name.now had h c.receive_row.new.receipts.items c.args.desk.now
    c.receive_row.new.desk c.in-Some.ensures c.receive_row.result lines own.receiver (λ r. times c.args.most (Receives r c.args.verb))
    (λ r holds. subst (λ (k : ℕ). AskEach c.in-Some.found.kind own c.args.name.now lines (times k (Receives r c.args.verb))) many
    (receives_ask c.in-Some.found.kind own r c.args.verb c.args.name.now lines fits holds p))
    c.receive_row.ensures)

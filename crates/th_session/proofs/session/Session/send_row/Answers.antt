use Rattle.std.proofs.Common.{List, subst, sym}
use Rattle.th_model.specs.declared.kind.Kind.{Kind}
use Rattle.th_registry.specs.Rows.{sends_of}
use Rattle.th_session.specs.Kept.{Kept}
use Rattle.th_session.specs.Held.{handles_at, held}
use Rattle.th_session.specs.Rows.{CarriesFirst}
use Rattle.th_session.proofs.Turns.{AskEach, row_carries, sends_ask}
use Rattle.th_session.proofs.session.Session.send_row.Goals as goal

pub returns-in-Broadcast : goal.returns-in-Broadcast
returns-in-Broadcast g c = λ lines p.
    let i = c.self.inside in
    let had : Kept = record {
      handles = held g.D.Desk.tx g.D.Desk.rx i.handles.entries;
      receipts = i.receipts.items;
      segments = i.segments.items;
    } in
    let h = held g.D.Desk.tx g.D.Desk.rx c.send_row.new.handles.entries in
    let has : Kept = record had { handles = h; receipts = c.send_row.new.receipts.items } in
    let own = handles_at had.handles c.in-Some.found.topic.0 in
    subst (λ (k : Kept). CarriesFirst g.D.Desk.says lines (k, c.args.desk.now) c.send_row.result (has, c.send_row.new.desk)) c.self.view_is
    (row_carries g.D.Desk.says c.in-Some.found c.args.name.now had h c.send_row.new.receipts.items c.args.desk.now c.send_row.new.desk
    c.in-Some.ensures c.send_row.result lines own.sender (λ t. sends_of t c.args.values.now.items)
    (λ t holds. subst (λ (k : Kind). AskEach k own c.args.name.now lines (sends_of t c.args.values.now.items)) (sym c.in-Broadcast.is)
    (sends_ask own t c.args.name.now lines c.args.values.now.items holds p))
    c.send_row.ensures)

use Rattle.std.proofs.Common.{◌∙◌, None, ap, sym}
use Rattle.std.specs.Option.{option_map}
use Rattle.th_session.specs.Held.{handles_at}
use Rattle.th_session.specs.declared.handles.Handles.{Handles}
use Rattle.th_session.specs.Kept.{Kept}
use Rattle.th_session.proofs.HoldLemmas.{at-in, at-out}
use Rattle.th_session.proofs.Playing.{receiver-there}
use Rattle.th_session.proofs.session.Session.receiver_of.Goals as goal

pub returns-in-Some : goal.returns-in-Some
returns-in-Some g c =
    let entries = c.self.inside.handles.entries in
    let own = c.in-Some.own.now in
    let at =
    ap (λ (both : Handles g.row.D-Tx.Denot g.row.D-Rx.Denot). both.receiver)
    (at-in entries c.args.topic.0 own (sym c.in-Some.ensures)) in
    ap (option_map g.D.Desk.rx) c.as_ref.ensures.value
    ∙ sym (receiver-there g.D.Desk.tx g.D.Desk.rx entries c.args.topic.0 own.receiver at)
    ∙ ap (λ (k : Kept). (handles_at k.handles c.args.topic.0).receiver) c.self.view_is

pub returns-in-None : goal.returns-in-None
returns-in-None g c =
    let entries = c.self.inside.handles.entries in
    let at =
    ap (λ (both : Handles g.row.D-Tx.Denot g.row.D-Rx.Denot). both.receiver) (at-out entries c.args.topic.0 (sym c.in-None.ensures)) in
    sym (receiver-there g.D.Desk.tx g.D.Desk.rx entries c.args.topic.0 None at)
    ∙ ap (λ (k : Kept). (handles_at k.handles c.args.topic.0).receiver) c.self.view_is

use Rattle.std.proofs.Common.{Option, refl, sym, ap, ◌∙◌}
use Rattle.std.specs.Ordering.{nat_cmp}
use Rattle.std.specs.Map.{set_value}
use Rattle.std.specs.BTreeMap.{is_at}
use Rattle.std.proofs.lemmas.Map.Steps.{set_value_same}
use Rattle.th_model.specs.declared.handles.TxId.{TxId}
use Rattle.th_registry.specs.Events.{Event, Subscribes, any_sender}
use Rattle.th_session.proofs.HoldLemmas.{at-in, held-set, sender-seen, sender-still-none}
use Rattle.th_session.proofs.Playing.{sender-there, said-by}
use Rattle.th_session.proofs.action.subscribe_by.Goals as goal

pub returns-clause-event : goal.returns-clause-event
returns-clause-event g c =
    let event : Option TxId → Event = λ (sender : Option TxId). Subscribes c.args.start (any_sender sender) in
    let at = at-in c.args.handles.now.entries c.args.topic.0 _ (sym c.in-Some.ensures.value) in
    let has = sender-there g.D.Desk.tx g.D.Desk.rx c.args.handles.now.entries c.args.topic.0 _ (ap (λ s. s.sender) at) in
    said-by g.D.Desk.says event c.args.topic.0 _ _ _ _ _ has c.subscribe.ensures.event

pub returns-clause-held : goal.returns-clause-held
returns-clause-held g c =
    let kept = sender-seen g.D.Desk.tx g.D.Desk.rx c.in-Some.own.now c.subscribe.new.sender c.subscribe.ensures.sender in
    held-set g.D.Desk.tx g.D.Desk.rx c.args.handles.now.entries _ c.args.topic.0 c.in-Some.own.now _ (sym c.in-Some.ensures.value)
    refl kept

pub returns-clause-same : goal.returns-clause-same
returns-clause-same g c = λ lacks.
    let at = at-in c.args.handles.now.entries c.args.topic.0 _ (sym c.in-Some.ensures.value) in
    let none = sym (ap (λ s. s.sender) at) ∙ lacks in
    let still = sender-still-none g.D.Desk.tx g.D.Desk.rx c.in-Some.own.now c.subscribe.new.sender c.subscribe.ensures.sender none in
    ap (set_value (is_at (nat_cmp c.args.topic.0)) c.args.handles.now.entries) still
    ∙ set_value_same _ c.args.handles.now.entries c.in-Some.own.now (sym c.in-Some.ensures.value)

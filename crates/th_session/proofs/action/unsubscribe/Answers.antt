use Rattle.std.proofs.Common.{◌≡◌, Some, None, Ok, Err, refl, sym, ap, ◌∙◌}
use Rattle.std.specs.Option.{option_map}
use Rattle.th_model.specs.declared.handles.RxId.{RxId}
use Rattle.th_lines.specs.declared.command.Action.TheVariants.{Unsubscribe}
use Rattle.th_registry.specs.Events.{Event, DropsRx, Ended}
use Rattle.th_session.specs.Script as answers
use Rattle.th_session.specs.Held.{held}
use Rattle.th_session.proofs.HoldLemmas.{held-set, receiver-kept, receiver-gone, with_numbers}
use Rattle.th_session.proofs.Playing.{receiver-out, receiver-lacks, receiver-own, plays-by, plays-not}
use Rattle.th_session.proofs.action.unsubscribe.Goals as goal

pub returns-in_default : goal.returns-in_default
returns-in_default g c =
    let event : RxId → Event = λ (r : RxId). DropsRx r in
    plays-not g.D.Desk.says Unsubscribe c.args.topic.0 _ _ _
    (receiver-out g.D.Desk.tx g.D.Desk.rx event c.args.handles.now.entries c.args.topic.0 (sym c.in_default.ensures.value))
    refl

pub returns-in_default-take : goal.returns-in_default-take
returns-in_default-take g c =
    let event : RxId → Event = λ (r : RxId). DropsRx r in
    let at = sym c.in-Some.ensures.value in
    let lacks : c.in-Some.own.now.receiver ≡ None = sym c.take.ensures.value ∙ c.in_default-take.is in
    let same = ap (λ o. with_numbers (option_map g.D.Desk.tx c.in-Some.own.now.sender) (option_map g.D.Desk.rx o))
    (c.take.ensures.after ∙ sym lacks) in
    plays-not g.D.Desk.says Unsubscribe c.args.topic.0 _ _ _
    (receiver-lacks g.D.Desk.tx g.D.Desk.rx event c.args.handles.now.entries c.args.topic.0 _ at lacks)
    (held-set g.D.Desk.tx g.D.Desk.rx c.args.handles.now.entries _ c.args.topic.0 c.in-Some.own.now _ at refl same)

pub returns-in-Ok : goal.returns-in-Ok
returns-in-Ok g c =
    let event : RxId → Event = λ (r : RxId). DropsRx r in
    let at = sym c.in-Some.ensures.value in
    let holds : c.in-Some.own.now.receiver ≡ Some c.in-Some-take.receiver = sym c.take.ensures.value ∙ c.in-Some-take.is in
    let gone = ap (λ o. with_numbers (option_map g.D.Desk.tx c.in-Some.own.now.sender) (option_map g.D.Desk.rx o)) c.take.ensures.after in
    plays-by g.D.Desk.says Unsubscribe c.args.topic.0 _ _ (Ok Ended, None) _ _
    (receiver-own g.D.Desk.tx g.D.Desk.rx event c.args.handles.now.entries c.args.topic.0 _ _ at holds) c.in-Ok.ensures.event refl
    (receiver-gone g.D.Desk.tx g.D.Desk.rx c.args.handles.now.entries _ c.args.topic.0 c.in-Some.own.now _ c.get_mut.ensures.ordered at
    refl gone)

pub returns-in-Err : goal.returns-in-Err
returns-in-Err g c =
    let event : RxId → Event = λ (r : RxId). DropsRx r in
    let at = sym c.in-Some.ensures.value in
    let holds : c.in-Some.own.now.receiver ≡ Some c.in-Some-take.receiver = sym c.take.ensures.value ∙ c.in-Some-take.is in
    let kept = receiver-kept g.D.Desk.tx g.D.Desk.rx c.in-Some.own.now _ c.in-Err.unspent.handle holds c.in-Err.ensures.back in
    plays-by g.D.Desk.says Unsubscribe c.args.topic.0 _ _ (Err c.in-Err.unspent.why, None) _ _
    (receiver-own g.D.Desk.tx g.D.Desk.rx event c.args.handles.now.entries c.args.topic.0 _ _ at holds) c.in-Err.ensures.event
    (ap (λ reply. answers.Replied reply) c.replied_none.ensures)
    (held-set g.D.Desk.tx g.D.Desk.rx c.args.handles.now.entries _ c.args.topic.0 c.in-Some.own.now _ at
    refl kept)

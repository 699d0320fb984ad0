use Rattle.std.proofs.Common.{◌≡◌, Some, refl, sym, ap, subst, ◌∙◌}
use Rattle.th_model.specs.declared.handles.RxId.{RxId}
use Rattle.th_lines.specs.declared.command.Action.TheVariants.{ByReceiver}
use Rattle.th_registry.specs.Events.{Event, Receives}
use Rattle.th_registry.specs.Hub.{On}
use Rattle.th_registry.specs.Typed.{replied}
use Rattle.th_lines.specs.declared.reply.Code.TheVariants as Codes
use Rattle.th_lines.specs.declared.reply.Reply.TheVariants.{Refused}
use Rattle.th_session.specs.Kept.{with_receipt}
use Rattle.th_session.specs.Script.{Replied, answered}
use Rattle.th_session.proofs.Rooms.{no-room}
use Rattle.th_session.proofs.HoldLemmas.{held-set, receiver-kept}
use Rattle.th_session.proofs.Playing.{receiver-out, receiver-lacks, receiver-own, plays-by, plays-not}
use Rattle.th_session.proofs.action.by_receiver.Goals as goal

pub returns-in_default : goal.returns-in_default
returns-in_default g c =
    let event : RxId → Event = λ (r : RxId). Receives r c.args.verb in (
      Replied (Refused Codes.NotHeld),
      refl,
      (
        plays-not g.D.Desk.says (ByReceiver c.args.verb) c.args.topic.0 _ _ _
            (receiver-out g.D.Desk.tx g.D.Desk.rx event c.args.handles.now.entries c.args.topic.0 (sym c.in_default.ensures.value)) refl,
        refl,
      ),
    )

pub returns-in_default-receiver : goal.returns-in_default-receiver
returns-in_default-receiver g c =
    let event : RxId → Event = λ (r : RxId). Receives r c.args.verb in
    let at = sym c.in-Some.ensures.value in (
      Replied (Refused Codes.NotHeld),
      refl,
      (
        plays-not g.D.Desk.says (ByReceiver c.args.verb) c.args.topic.0 _ _ _
            (receiver-lacks g.D.Desk.tx g.D.Desk.rx event c.args.handles.now.entries c.args.topic.0 _ at c.in_default-receiver.is)
            (held-set g.D.Desk.tx g.D.Desk.rx c.args.handles.now.entries _ c.args.topic.0 c.in-Some.own.now _ at
            refl refl),
        refl,
      ),
    )

pub returns-in_default-reserve : goal.returns-in_default-reserve
returns-in_default-reserve g c =
    let event : RxId → Event = λ (r : RxId). Receives r c.args.verb in
    let at = sym c.in-Some.ensures.value in
    let holds : c.in-Some.own.now.receiver ≡ Some c.in-Some-receiver.receiver = c.in-Some-receiver.is in
    let kept = receiver-kept g.D.Desk.tx g.D.Desk.rx c.in-Some.own.now _ c.in-Some-receiver.receiver holds refl in (
      Replied (Refused Codes.NoMemory),
      refl,
      (
        no-room g.D.Desk.says c.args.topic.0 _ _ _ (ByReceiver c.args.verb) (λ s. refl)
            (receiver-own g.D.Desk.tx g.D.Desk.rx event c.args.handles.now.entries c.args.topic.0 _ _ at holds)
            (held-set g.D.Desk.tx g.D.Desk.rx c.args.handles.now.entries _ c.args.topic.0 c.in-Some.own.now _ at
            refl
            kept),
        c.reserve.ensures.items,
      ),
    )

pub returns : goal.returns
returns g c =
    let event : RxId → Event = λ (r : RxId). Receives r c.args.verb in
    let at = sym c.in-Some.ensures.value in
    let holds : c.in-Some.own.now.receiver ≡ Some c.in-Some-receiver.receiver = c.in-Some-receiver.is in
    let kept = receiver-kept g.D.Desk.tx g.D.Desk.rx c.in-Some.own.now _ c.by_receiver-told.new.receiver holds
    c.by_receiver-told.ensures.receiver in
    let answer = answered c.args.topic.0 (replied c.by_receiver-told.result) in
    let made = subst (λ (d : g.row.D.Denot). g.D.Desk.says d (On c.args.topic.0 (event (g.D.Desk.rx c.in-Some-receiver.receiver)))
    (replied c.by_receiver-told.result) c.by_receiver-told.new.self) c.pay_if.ensures.desk c.by_receiver-told.ensures.event in (
      answer,
      c.note.ensures.0,
      (
        plays-by g.D.Desk.says (ByReceiver c.args.verb) c.args.topic.0 _ _ (replied c.by_receiver-told.result) _ _
            (receiver-own g.D.Desk.tx g.D.Desk.rx event c.args.handles.now.entries c.args.topic.0 _ _ at holds)
            made refl
            (held-set g.D.Desk.tx g.D.Desk.rx c.args.handles.now.entries _ c.args.topic.0 c.in-Some.own.now _ at
            refl
            kept),
        c.note.ensures.1 ∙ ap (λ l. with_receipt l answer) c.reserve.ensures.items,
      ),
    )

use Rattle.std.proofs.Common.{◌≡◌, Some, refl, sym, ap, ◌∙◌}
use Rattle.th_model.specs.declared.handles.RxId.{RxId}
use Rattle.th_lines.specs.declared.command.Action.TheVariants as Actions
use Rattle.th_registry.specs.Events.{Event, Resubscribes}
use Rattle.th_lines.specs.declared.reply.Code.TheVariants as Codes
use Rattle.th_lines.specs.declared.reply.Reply.TheVariants.{Refused}
use Rattle.th_session.specs.Kept.{with_receipt}
use Rattle.th_session.specs.Script.{Replied, answered}
use Rattle.th_registry.specs.Typed.{replied}
use Rattle.th_session.proofs.Rooms.{no-room}
use Rattle.th_session.proofs.HoldLemmas.{held-set, receiver-kept, there-set}
use Rattle.th_session.proofs.Playing.{receiver-out, receiver-lacks, receiver-own, plays-not, plays-resubscribe}
use Rattle.th_session.proofs.action.resubscribe.Goals as goal

abbrev event : RxId → Event
event r = Resubscribes r

pub returns-in_default : goal.returns-in_default
returns-in_default g c = (
  Replied (Refused Codes.NotHeld),
  refl,
  (
    plays-not g.D.Desk.says Actions.Resubscribe c.args.topic.0 _ _ _
        (receiver-out g.D.Desk.tx g.D.Desk.rx event c.args.handles.now.entries c.args.topic.0 (sym c.in_default.ensures.value)) refl,
    refl,
  ),
)

pub returns-in_default-receiver : goal.returns-in_default-receiver
returns-in_default-receiver g c =
    let at = sym c.in-Some.ensures.value in (
      Replied (Refused Codes.NotHeld),
      refl,
      (
        plays-not g.D.Desk.says Actions.Resubscribe c.args.topic.0 _ _ _
            (receiver-lacks g.D.Desk.tx g.D.Desk.rx event c.args.handles.now.entries c.args.topic.0 _ at c.in_default-receiver.is)
            (held-set g.D.Desk.tx g.D.Desk.rx c.args.handles.now.entries _ c.args.topic.0 c.in-Some.own.now _ at
            refl refl),
        refl,
      ),
    )

pub returns-in_default-reserve : goal.returns-in_default-reserve
returns-in_default-reserve g c =
    let at = sym c.in-Some.ensures.value in
    let holds : c.in-Some.own.now.receiver ≡ Some c.in-Some-receiver.receiver = c.in-Some-receiver.is in
    let kept = receiver-kept g.D.Desk.tx g.D.Desk.rx c.in-Some.own.now _ c.in-Some-receiver.receiver holds refl in (
      Replied (Refused Codes.NoMemory),
      refl,
      (
        no-room g.D.Desk.says c.args.topic.0 _ _ _ Actions.Resubscribe (λ s. refl)
            (receiver-own g.D.Desk.tx g.D.Desk.rx event c.args.handles.now.entries c.args.topic.0 _ _ at holds)
            (held-set g.D.Desk.tx g.D.Desk.rx c.args.handles.now.entries _ c.args.topic.0 c.in-Some.own.now _ at
            refl
            kept),
        c.reserve.ensures.items,
      ),
    )

pub returns : goal.returns
returns g c =
    let at = sym c.in-Some.ensures.value in
    let holds : c.in-Some.own.now.receiver ≡ Some c.in-Some-receiver.receiver = c.in-Some-receiver.is in
    let kept = receiver-kept g.D.Desk.tx g.D.Desk.rx c.in-Some.own.now _ c.resubscribe-said.new.receiver holds
    c.resubscribe-said.ensures.receiver in
    let answer = answered c.args.topic.0 (replied c.keep_receiver-told.result) in (
      answer,
      c.note.ensures.0,
      (
        plays-resubscribe g.D.Desk.tx g.D.Desk.rx g.D.Desk.says c.args.topic.0 c.args.handles.now.entries _ _ c.resubscribe-said.result _ _
            (receiver-own g.D.Desk.tx g.D.Desk.rx event c.args.handles.now.entries c.args.topic.0 _ _ at holds)
            c.resubscribe-said.ensures.event (ap (λ told. answered c.args.topic.0 (replied told)) c.keep_receiver-told.ensures.told)
            (c.keep_receiver-told.ensures.kept _ refl)
            (held-set g.D.Desk.tx g.D.Desk.rx c.args.handles.now.entries _ c.args.topic.0 c.in-Some.own.now _ at
            refl
            kept),
        c.note.ensures.1 ∙ ap (λ l. with_receipt l answer) c.reserve.ensures.items,
      ),
    )

pub keep_receiver-told-requires : goal.keep_receiver-told-requires
keep_receiver-told-requires g c =
    let there = sym c.in-Some.ensures.value in
    there-set c.args.handles.now.entries _ c.args.topic.0 c.in-Some.own.now _ there refl

use Rattle.std.proofs.Common.{◌≡◌, Some, refl, sym, ap, ◌∙◌}
use Rattle.th_model.specs.declared.handles.TxId.{TxId}
use Rattle.th_lines.specs.declared.command.Action.TheVariants.{BySender}
use Rattle.th_registry.specs.Events.{Event, Sends}
use Rattle.th_registry.specs.Typed.{replied}
use Rattle.th_lines.specs.declared.reply.Code.TheVariants as Codes
use Rattle.th_lines.specs.declared.reply.Reply.TheVariants.{Refused}
use Rattle.th_session.specs.Kept.{with_receipt}
use Rattle.th_session.specs.Script.{Replied, answered}
use Rattle.th_session.proofs.Rooms.{no-room}
use Rattle.th_session.proofs.HoldLemmas.{held-set, sender-kept}
use Rattle.th_session.proofs.Playing.{sender-out, sender-lacks, sender-own, plays-by, plays-not}
use Rattle.th_session.proofs.action.by_sender.Goals as goal

pub returns-in_default : goal.returns-in_default
returns-in_default g c =
    let event : TxId → Event = λ (t : TxId). Sends t c.args.verb in (
      Replied (Refused Codes.NotHeld),
      refl,
      (
        plays-not g.D.Desk.says (BySender c.args.verb) c.args.topic.0 _ _ _
            (sender-out g.D.Desk.tx g.D.Desk.rx event c.args.handles.now.entries c.args.topic.0 (sym c.in_default.ensures.value)) refl,
        refl,
      ),
    )

pub returns-in_default-sender : goal.returns-in_default-sender
returns-in_default-sender g c =
    let event : TxId → Event = λ (t : TxId). Sends t c.args.verb in
    let at = sym c.in-Some.ensures.value in (
      Replied (Refused Codes.NotHeld),
      refl,
      (
        plays-not g.D.Desk.says (BySender c.args.verb) c.args.topic.0 _ _ _
            (sender-lacks g.D.Desk.tx g.D.Desk.rx event c.args.handles.now.entries c.args.topic.0 _ at c.in_default-sender.is)
            (held-set g.D.Desk.tx g.D.Desk.rx c.args.handles.now.entries _ c.args.topic.0 c.in-Some.own.now _ at
            refl refl),
        refl,
      ),
    )

pub returns-in_default-reserve : goal.returns-in_default-reserve
returns-in_default-reserve g c =
    let event : TxId → Event = λ (t : TxId). Sends t c.args.verb in
    let at = sym c.in-Some.ensures.value in
    let holds : c.in-Some.own.now.sender ≡ Some c.in-Some-sender.sender = c.in-Some-sender.is in
    let kept = sender-kept g.D.Desk.tx g.D.Desk.rx c.in-Some.own.now _ c.in-Some-sender.sender holds refl in (
      Replied (Refused Codes.NoMemory),
      refl,
      (
        no-room g.D.Desk.says c.args.topic.0 _ _ _ (BySender c.args.verb) (λ s. refl)
            (sender-own g.D.Desk.tx g.D.Desk.rx event c.args.handles.now.entries c.args.topic.0 _ _ at holds)
            (held-set g.D.Desk.tx g.D.Desk.rx c.args.handles.now.entries _ c.args.topic.0 c.in-Some.own.now _ at
            refl kept),
        c.reserve.ensures.items,
      ),
    )

pub returns : goal.returns
returns g c =
    let event : TxId → Event = λ (t : TxId). Sends t c.args.verb in
    let at = sym c.in-Some.ensures.value in
    let holds : c.in-Some.own.now.sender ≡ Some c.in-Some-sender.sender = c.in-Some-sender.is in
    let kept = sender-kept g.D.Desk.tx g.D.Desk.rx c.in-Some.own.now _ c.by_sender-told.new.sender holds c.by_sender-told.ensures.sender in
    let answer = answered c.args.topic.0 (replied c.by_sender-told.result) in (
      answer,
      c.note.ensures.0,
      (
        plays-by g.D.Desk.says (BySender c.args.verb) c.args.topic.0 _ _ (replied c.by_sender-told.result) _ _
            (sender-own g.D.Desk.tx g.D.Desk.rx event c.args.handles.now.entries c.args.topic.0 _ _ at holds) c.by_sender-told.ensures.event
            refl
            (held-set g.D.Desk.tx g.D.Desk.rx c.args.handles.now.entries _ c.args.topic.0 c.in-Some.own.now _ at
            refl
            kept),
        c.note.ensures.1 ∙ ap (λ l. with_receipt l answer) c.reserve.ensures.items,
      ),
    )

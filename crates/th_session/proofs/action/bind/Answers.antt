use Rattle.std.proofs.Common.{true, false, refl, ap, ◌∙◌}
use Rattle.th_lines.specs.declared.command.Action.TheVariants as Actions
use Rattle.th_registry.specs.Events.{Binds}
use Rattle.th_registry.specs.Typed.{replied}
use Rattle.th_lines.specs.declared.reply.Code.TheVariants as Codes
use Rattle.th_lines.specs.declared.reply.Reply.TheVariants.{Refused}
use Rattle.th_session.specs.Kept.{with_receipt}
use Rattle.th_session.specs.Script.{Replied, answered}
use Rattle.th_session.proofs.Playing.{has-sender, held-some, held-none, plays-not, plays-bind}
use Rattle.th_session.specs.Held.{held}
use Rattle.th_session.proofs.Rooms.{no-room}
use Rattle.th_session.proofs.action.bind.Goals as goal

pub returns-then-has_sender : goal.returns-then-has_sender
returns-then-has_sender g c =
    let has = has-sender g.D.Desk.tx g.D.Desk.rx c.args.handles.now.entries c.args.topic.0 c.has_sender.result true c.has_sender.ensures
    c.if-has_sender.true in
    (Replied (Refused Codes.Held), refl, (plays-not g.D.Desk.says Actions.Bind c.args.topic.0 _ _ _ (held-some _ Binds has) refl, refl))

pub returns : goal.returns
returns g c =
    let lacks = has-sender g.D.Desk.tx g.D.Desk.rx c.args.handles.now.entries c.args.topic.0 c.has_sender.result false c.has_sender.ensures
    c.if-has_sender.false in
    let answer = answered c.args.topic.0 (replied c.keep_sender-told.result) in (
      answer,
      c.note.ensures.0,
      (
        plays-bind g.D.Desk.tx g.D.Desk.rx g.D.Desk.says c.args.topic.0 c.args.handles.now.entries c.args.handles.now.entries _
            c.bind-said.result _ _
            (held-none _ Binds lacks) c.bind-said.ensures (ap (λ told. answered c.args.topic.0 (replied told))
            c.keep_sender-told.ensures.told)
            (c.keep_sender-told.ensures.kept c.args.handles.now.entries c.in-Ok-make_ready.ensures.ready) refl,
        c.note.ensures.1 ∙ ap (λ l. with_receipt l answer) c.reserve.ensures.items,
      ),
    )

pub returns-in_default : goal.returns-in_default
returns-in_default g c =
    let lacks = has-sender g.D.Desk.tx g.D.Desk.rx c.args.handles.now.entries c.args.topic.0 c.has_sender.result false c.has_sender.ensures
    c.if-has_sender.false in (
      Replied (Refused Codes.NoMemory),
      refl,
      (no-room g.D.Desk.says c.args.topic.0 _ _ _ Actions.Bind (λ s. refl) (held-none _ Binds lacks) refl, c.reserve.ensures.items),
    )

pub returns-in_default-make_ready : goal.returns-in_default-make_ready
returns-in_default-make_ready g c =
    let lacks = has-sender g.D.Desk.tx g.D.Desk.rx c.args.handles.now.entries c.args.topic.0 c.has_sender.result false c.has_sender.ensures
    c.if-has_sender.false in (
      Replied (Refused Codes.NoMemory),
      refl,
      (
        no-room g.D.Desk.says c.args.topic.0 _ _ _ Actions.Bind (λ s. refl) (held-none _ Binds lacks)
            (ap (held g.D.Desk.tx g.D.Desk.rx) c.in_default-make_ready.ensures.refused),
        c.reserve.ensures.items,
      ),
    )

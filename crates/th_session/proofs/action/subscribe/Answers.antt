use Rattle.std.proofs.Common.{true, false, Option, refl, sym, ap, ◌∙◌}
use Rattle.th_model.specs.declared.handles.TxId.{TxId}
use Rattle.th_lines.specs.declared.command.Action.TheVariants as Actions
use Rattle.th_registry.specs.Events.{Event, Subscribes, any_sender}
use Rattle.th_lines.specs.declared.reply.Code.TheVariants as Codes
use Rattle.th_lines.specs.declared.reply.Reply.TheVariants.{Refused}
use Rattle.th_session.specs.Kept.{with_receipt}
use Rattle.th_session.specs.Script.{Replied, answered}
use Rattle.th_registry.specs.Typed.{replied}
use Rattle.th_session.specs.Held.{held, numbers}
use Rattle.th_session.proofs.HoldLemmas.{at-held, own-ready, there-still, ready-still}
use Rattle.th_session.proofs.Playing.{has-receiver, held-some, held-none, plays-not, plays-subscribe, said-by}
use Rattle.th_session.proofs.Rooms.{no-room}
use Rattle.th_session.proofs.action.subscribe.Goals as goal

pub returns-then-has_receiver : goal.returns-then-has_receiver
returns-then-has_receiver g c =
    let has = has-receiver g.D.Desk.tx g.D.Desk.rx c.args.handles.now.entries c.args.topic.0 c.has_receiver.result true
    c.has_receiver.ensures c.if-has_receiver.true in (
      Replied (Refused Codes.Held),
      refl,
      (
        plays-not g.D.Desk.says (Actions.Subscribe c.args.start) c.args.topic.0 _ _ _ (held-some _ _
            has) refl,
        refl,
      ),
    )

pub keep_receiver-told-requires : goal.keep_receiver-told-requires
keep_receiver-told-requires g c =
    there-still g.D.Desk.tx g.D.Desk.rx _ _ c.args.topic.0 c.subscribe_by-said.ensures.held c.in-Ok-make_ready.ensures.there

pub returns : goal.returns
returns g c =
    let event : Option TxId → Event = λ (sender : Option TxId). Subscribes c.args.start (any_sender sender) in
    let lacks = has-receiver g.D.Desk.tx g.D.Desk.rx c.args.handles.now.entries c.args.topic.0 c.has_receiver.result false
    c.has_receiver.ensures c.if-has_receiver.false in
    let own = at-held g.D.Desk.tx g.D.Desk.rx c.args.handles.now.entries c.args.topic.0
    ∙ ap (numbers g.D.Desk.tx g.D.Desk.rx) (sym (own-ready c.in-Ok-make_ready.are_new c.args.handles.now.entries _ c.args.topic.0
    c.in-Ok-make_ready.ensures.ready))
    ∙ sym (at-held g.D.Desk.tx g.D.Desk.rx c.make_ready.new.handles.entries c.args.topic.0) in
    let said = said-by g.D.Desk.says event c.args.topic.0 _ _ _ _ _ (ap (λ s. s.sender) own) c.subscribe_by-said.ensures.event in
    let still = ready-still g.D.Desk.tx g.D.Desk.rx c.in-Ok-make_ready.are_new c.args.handles.now.entries c.make_ready.new.handles.entries
    c.subscribe_by-said.new.handles.entries c.args.topic.0 c.in-Ok-make_ready.ensures.ready c.subscribe_by-said.ensures.held
    c.subscribe_by-said.ensures.same in
    let answer = answered c.args.topic.0 (replied c.keep_receiver-told.result) in (
      answer,
      c.note.ensures.0,
      (
        plays-subscribe g.D.Desk.tx g.D.Desk.rx g.D.Desk.says c.args.topic.0 c.args.handles.now.entries _ _ c.args.start
            c.subscribe_by-said.result _ _
            (held-none _ _ lacks) said (ap (λ told. answered c.args.topic.0 (replied told)) c.keep_receiver-told.ensures.told)
            (c.keep_receiver-told.ensures.kept still.0 still.1) still.2,
        c.note.ensures.1 ∙ ap (λ l. with_receipt l answer) c.reserve.ensures.items,
      ),
    )

pub returns-in_default : goal.returns-in_default
returns-in_default g c =
    let lacks = has-receiver g.D.Desk.tx g.D.Desk.rx c.args.handles.now.entries c.args.topic.0 c.has_receiver.result false
    c.has_receiver.ensures c.if-has_receiver.false in (
      Replied (Refused Codes.NoMemory),
      refl,
      (
        no-room g.D.Desk.says c.args.topic.0 _ _ _ (Actions.Subscribe c.args.start) (λ s.
            refl) (held-none _ _ lacks) refl,
        c.reserve.ensures.items,
      ),
    )

pub returns-in_default-make_ready : goal.returns-in_default-make_ready
returns-in_default-make_ready g c =
    let lacks = has-receiver g.D.Desk.tx g.D.Desk.rx c.args.handles.now.entries c.args.topic.0 c.has_receiver.result false
    c.has_receiver.ensures c.if-has_receiver.false in (
      Replied (Refused Codes.NoMemory),
      refl,
      (
        no-room g.D.Desk.says c.args.topic.0 _ _ _ (Actions.Subscribe c.args.start) (λ s. refl) (held-none _ _ lacks)
            (ap (held g.D.Desk.tx g.D.Desk.rx) c.in_default-make_ready.ensures.refused),
        c.reserve.ensures.items,
      ),
    )

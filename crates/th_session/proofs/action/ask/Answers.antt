use Rattle.std.proofs.Common.{Option, None, refl, sym, ap, ◌∙◌}
use Rattle.th_model.specs.declared.handles.TxId.{TxId}
use Rattle.th_lines.specs.declared.command.Action.TheVariants as Actions
use Rattle.th_registry.specs.Events.{Event, Asks, any_sender}
use Rattle.th_registry.specs.Typed.{replied}
use Rattle.th_lines.specs.declared.reply.Code.TheVariants as Codes
use Rattle.th_lines.specs.declared.reply.Reply.TheVariants.{Refused}
use Rattle.th_session.specs.Kept.{with_receipt}
use Rattle.th_session.specs.Script.{Replied, answered}
use Rattle.th_session.proofs.HoldLemmas.{at-in, at-out, held-set, sender-seen}
use Rattle.th_session.proofs.Playing.{plays-by, sender-there, said-by}
use Rattle.th_session.proofs.Rooms.{no-room}
use Rattle.th_session.proofs.action.ask.Goals as goal

pub returns-in_default : goal.returns-in_default
returns-in_default g c = (
  Replied (Refused Codes.NoMemory),
  refl,
  (no-room g.D.Desk.says c.args.topic.0 _ _ _ (Actions.Ask c.args.question) (λ s. refl) refl refl, c.reserve.ensures.items),
)

pub returns-in-Some : goal.returns-in-Some
returns-in-Some g c =
    let event : Option TxId → Event = λ (sender : Option TxId). Asks (any_sender sender) c.args.question in
    let at = at-in c.args.handles.now.entries c.args.topic.0 _ (sym c.in-Some.ensures.value) in
    let has = sender-there g.D.Desk.tx g.D.Desk.rx c.args.handles.now.entries c.args.topic.0 _ (ap (λ s. s.sender) at) in
    let kept = sender-seen g.D.Desk.tx g.D.Desk.rx c.in-Some.own.now c.ask.new.sender c.ask.ensures.sender in
    let same = held-set g.D.Desk.tx g.D.Desk.rx c.args.handles.now.entries _ c.args.topic.0 c.in-Some.own.now _
    (sym c.in-Some.ensures.value)
    refl kept in
    let answer = answered c.args.topic.0 (replied c.ask.result) in (
      answer,
      c.note.ensures.0,
      (
        plays-by g.D.Desk.says (Actions.Ask c.args.question) c.args.topic.0 _ _ (replied c.ask.result) _ _ refl
            (said-by g.D.Desk.says event c.args.topic.0 _ _ _ _ _ has c.ask.ensures.event) refl same,
        c.note.ensures.1 ∙ ap (λ l. with_receipt l answer) c.reserve.ensures.items,
      ),
    )

pub returns-in-None : goal.returns-in-None
returns-in-None g c =
    let event : Option TxId → Event = λ (sender : Option TxId). Asks (any_sender sender) c.args.question in
    let lacks = sender-there g.D.Desk.tx g.D.Desk.rx c.args.handles.now.entries c.args.topic.0 None
    (ap (λ s. s.sender) (at-out c.args.handles.now.entries c.args.topic.0 (sym c.in-None.ensures.value))) in
    let answer = answered c.args.topic.0 (replied c.ask-in-None.result) in (
      answer,
      c.note-in-None.ensures.0,
      (
        plays-by g.D.Desk.says (Actions.Ask c.args.question) c.args.topic.0 _ _ (replied c.ask-in-None.result) _ _ refl
            (said-by g.D.Desk.says event c.args.topic.0 _ _ _ _ _ lacks c.ask-in-None.ensures.event) refl refl,
        c.note-in-None.ensures.1 ∙ ap (λ l. with_receipt l answer) c.reserve.ensures.items,
      ),
    )

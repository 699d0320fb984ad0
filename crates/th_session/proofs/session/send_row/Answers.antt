use Rattle.std.proofs.Common.{◌≡◌, ◌∙◌, inl, inr, List, Some, refl, sym, ap, subst}
use Rattle.th_registry.specs.Receipts.{ChannelReceipt}
use Rattle.th_registry.specs.Rows.{MadeInRow, sends_of}
use Rattle.th_registry.specs.declared.opening.TopicId.{TopicId}
use Rattle.th_session.proofs.HoldLemmas.{at-in, held-set, sender-kept}
use Rattle.th_session.proofs.Playing.{sender-there}
use Rattle.th_session.proofs.session.send_row.Goals as goal

pub returns-in_default-sender : goal.returns-in_default-sender
returns-in_default-sender g c = (
  held-set g.D.Desk.tx g.D.Desk.rx c.args.handles.now.entries _ c.args.topic.0 c.in-Some.own.now _ (sym c.in-Some.ensures.value) refl refl,
  inl (refl, refl, refl),
)

pub returns-in_default-reserve : goal.returns-in_default-reserve
returns-in_default-reserve g c =
    let holds : c.in-Some.own.now.sender ≡ Some c.in-Some-sender.sender = c.in-Some-sender.is in
    let kept = sender-kept g.D.Desk.tx g.D.Desk.rx c.in-Some.own.now _ c.in-Some-sender.sender holds refl in (
      held-set g.D.Desk.tx g.D.Desk.rx c.args.handles.now.entries _ c.args.topic.0 c.in-Some.own.now _ (sym c.in-Some.ensures.value) refl
          kept,
      inl (refl, c.reserve.ensures.items, refl),
    )

pub returns : goal.returns
returns g c =
    let holds : c.in-Some.own.now.sender ≡ Some c.in-Some-sender.sender = c.in-Some-sender.is in
    let kept = sender-kept g.D.Desk.tx g.D.Desk.rx c.in-Some.own.now _ c.send_row.new.sender holds c.send_row.ensures.sender in
    let at = sym c.in-Some.ensures.value in
    let there = sender-there g.D.Desk.tx g.D.Desk.rx c.args.handles.now.entries c.args.topic.0 (Some c.in-Some-sender.sender)
    (ap (λ x. x.sender) (at-in c.args.handles.now.entries c.args.topic.0 _ at) ∙ holds) in
    let made = subst (λ (l : List (TopicId × ChannelReceipt)). MadeInRow g.D.Desk.says c.args.topic.0
    (sends_of (g.D.Desk.tx c.in-Some-sender.sender) c.args.values.now.items) l c.send_row.new.receipts.items
    c.args.desk.now c.send_row.new.self c.send_row.result) c.reserve.ensures.items c.send_row.ensures.row in (
      held-set g.D.Desk.tx g.D.Desk.rx c.args.handles.now.entries _ c.args.topic.0 c.in-Some.own.now _ at refl kept,
      inr (_, there, made),
    )

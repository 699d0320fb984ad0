use Rattle.std.proofs.Common.{◌≡◌, ◌∙◌, inl, inr, List, Some, refl, sym, ap, subst}
use Rattle.th_registry.specs.Events.{Receives}
use Rattle.th_registry.specs.Receipts.{ChannelReceipt}
use Rattle.th_registry.specs.Rows.{MadeInRow, times}
use Rattle.th_registry.specs.declared.opening.TopicId.{TopicId}
use Rattle.th_session.proofs.HoldLemmas.{at-in, held-set, receiver-kept}
use Rattle.th_session.proofs.Playing.{receiver-there}
use Rattle.th_session.proofs.session.receive_row.Goals as goal

pub returns-in_default-receiver : goal.returns-in_default-receiver
returns-in_default-receiver g c = (
  held-set g.D.Desk.tx g.D.Desk.rx c.args.handles.now.entries _ c.args.topic.0 c.in-Some.own.now _ (sym c.in-Some.ensures.value) refl refl,
  inl (refl, refl, refl),
)

pub returns-in_default-reserve : goal.returns-in_default-reserve
returns-in_default-reserve g c =
    let holds : c.in-Some.own.now.receiver ≡ Some c.in-Some-receiver.receiver = c.in-Some-receiver.is in
    let kept = receiver-kept g.D.Desk.tx g.D.Desk.rx c.in-Some.own.now _ c.in-Some-receiver.receiver holds refl in (
      held-set g.D.Desk.tx g.D.Desk.rx c.args.handles.now.entries _ c.args.topic.0 c.in-Some.own.now _ (sym c.in-Some.ensures.value) refl
          kept,
      inl (refl, c.reserve.ensures.items, refl),
    )

pub returns : goal.returns
returns g c =
    let holds : c.in-Some.own.now.receiver ≡ Some c.in-Some-receiver.receiver = c.in-Some-receiver.is in
    let kept = receiver-kept g.D.Desk.tx g.D.Desk.rx c.in-Some.own.now _ c.by_receiver_row.new.receiver holds
    c.by_receiver_row.ensures.receiver in
    let at = sym c.in-Some.ensures.value in
    let there = receiver-there g.D.Desk.tx g.D.Desk.rx c.args.handles.now.entries c.args.topic.0 (Some c.in-Some-receiver.receiver)
    (ap (λ x. x.receiver) (at-in c.args.handles.now.entries c.args.topic.0 _ at) ∙ holds) in
    let made = subst (λ (l : List (TopicId × ChannelReceipt)). MadeInRow g.D.Desk.says c.args.topic.0
    (times c.args.most (Receives (g.D.Desk.rx c.in-Some-receiver.receiver) c.args.verb)) l c.by_receiver_row.new.receipts.items
    c.args.desk.now c.by_receiver_row.new.self c.by_receiver_row.result) c.reserve.ensures.items c.by_receiver_row.ensures.row in (
      held-set g.D.Desk.tx g.D.Desk.rx c.args.handles.now.entries _ c.args.topic.0 c.in-Some.own.now _ at refl kept,
      inr (_, there, made),
    )

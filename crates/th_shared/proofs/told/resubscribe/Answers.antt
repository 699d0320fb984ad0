use Rattle.std.proofs.Common.{◌≡◌, IfSome, Ok, Some, ap, sym, subst, ◌∙◌}
use Rattle.th_registry.specs.declared.channel.Channel.TheVariants.{Broadcast}
use Rattle.th_registry.specs.Receipts.{ChannelReceipt}
use Rattle.th_shared.specs.declared.handles.TopicReceiver.{TopicReceiver}
use Rattle.th_shared.specs.declared.handles.TopicReceiver.TheVariants.{Spent}
use Rattle.th_shared.specs.Doing.{IsNewReceiver, ReceiverMoves}
use Rattle.th_shared.specs.Numbers.{TopicHandle, rolls_of}
use Rattle.th_shared.proofs.Doing.{left_of, moved}
use Rattle.th_shared.proofs.NewHandles.{new_in_place}
use Rattle.th_shared.proofs.told.resubscribe.Goals.{in-Some, in-None}
use Rattle.th_shared.proofs.told.resubscribe.Goals as goal

pub returns-in-Ok-clause-moves : goal.returns-in-Ok-clause-moves
returns-in-Ok-clause-moves g c =
    let number = c.in-Broadcast.old.number in
    let left : c.match-left.left ≡ left_of number c.resubscribe-left.result.0 = elim c.match-left.branch [
      | in-Some w ↦ w.left-is ∙ ap (left_of number) (sym w.in-Some.is)
      | in-None w ↦ w.left-is ∙ ap (λ n. Spent n) c.number-number.ensures ∙ ap (left_of number) (sym w.in-None.is)
    ] in
    let moves = rw c.in-Ok.is at c.resubscribe-left.ensures.moves in
    let base = moved c.args.topic.0 _ c.in-Broadcast.old c.resubscribe-left.result.0 c.in-Ok.new c.in-Ok.share c.broadcast_receiver.result
    moves in
    let seen : c.broadcast_receiver.result.receipt ≡ Broadcast c.in-Ok.new.0 = c.broadcast_receiver.ensures.receipt in
    let said = Ok (c.broadcast_receiver.result, c.in-Ok.share) in
    let by_left = subst (λ (l : TopicReceiver). ReceiverMoves (Broadcast c.in-Broadcast.old) l said (Some (Broadcast c.in-Ok.new.0)))
    (sym left) base in
    let by_receipt = subst (λ (r : ChannelReceipt). ReceiverMoves (Broadcast c.in-Broadcast.old) c.match-left.left said (Some r))
    (sym seen) by_left in
    subst (λ (o : TopicHandle). ReceiverMoves o c.match-left.left said (Some c.broadcast_receiver.result.receipt))
    (sym c.in-Broadcast.is) by_receipt

pub returns-in-Ok-clause-new : goal.returns-in-Ok-clause-new
returns-in-Ok-clause-new g c =
    let made = c.broadcast_receiver.result in
    subst (λ (h : TopicHandle). IfSome made.handle (IsNewReceiver c.args.topic.0 (rolls_of h) made.receipt)) (sym c.in-Broadcast.is)
    (new_in_place c.args.topic.0 c.in-Broadcast.old.rolls c.in-Ok.new.0 c.in-Ok.new.1 made.receipt made.handle
    c.broadcast_receiver.ensures.receipt (rw c.in-Ok.is at c.resubscribe-left.ensures.fresh) c.broadcast_receiver.ensures.handle)

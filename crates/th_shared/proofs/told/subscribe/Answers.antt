use Rattle.std.proofs.Common.{IfOk, IfSome, refl, sym, subst}
use Rattle.th_registry.specs.declared.channel.Channel.TheVariants.{Broadcast, Watch}
use Rattle.th_registry.specs.Events.{Own, Subscribes}
use Rattle.th_registry.specs.Typed.{made_rx}
use Rattle.th_shared.specs.Saying.{first}
use Rattle.th_shared.specs.Doing.{Does, IsNewReceiver}
use Rattle.th_shared.specs.Numbers.{TopicHandle, receiver, rolls_of, sender}
use Rattle.th_shared.proofs.Doing.{broadcast-does, watch-does}
use Rattle.th_shared.proofs.NewHandles.{new_broadcast_receiver, new_watch_receiver}
use Rattle.th_shared.proofs.told.subscribe.Goals as goal

pub returns-in-Broadcast-clause-does : goal.returns-in-Broadcast-clause-does
returns-in-Broadcast-clause-does g c =
    let own = c.in-Broadcast.handle in
    subst (λ (h : TopicHandle). Does c.args.topic.0 (Subscribes c.args.start (Own (sender h))) h (Broadcast c.subscribe.new.sender)
    (made_rx receiver c.broadcast_receivers.result))
    (sym c.in-Broadcast.is)
    (broadcast-does c.args.topic.0 (Subscribes c.args.start (Own (record { 0 = own.number }))) refl refl own c.subscribe.new.sender
    c.subscribe.ensures.number (first c.subscribe.result) _ c.broadcast_receivers.ensures.said c.subscribe.ensures.enters)

pub returns-in-Watch-clause-does : goal.returns-in-Watch-clause-does
returns-in-Watch-clause-does g c =
    let own = c.in-Watch.handle in
    subst (λ (h : TopicHandle). Does c.args.topic.0 (Subscribes c.args.start (Own (sender h))) h (Watch c.subscribe-in-Watch.new.sender)
    (made_rx receiver c.watch_receivers.result))
    (sym c.in-Watch.is)
    (watch-does c.args.topic.0 (Subscribes c.args.start (Own (record { 0 = own.number }))) refl refl own c.subscribe-in-Watch.new.sender
    c.subscribe-in-Watch.ensures.number (first c.subscribe-in-Watch.result) _ c.watch_receivers.ensures.said
    c.subscribe-in-Watch.ensures.enters)

pub returns-in-Broadcast-clause-new : goal.returns-in-Broadcast-clause-new
returns-in-Broadcast-clause-new g c =
    subst (λ (h : TopicHandle). IfOk c.broadcast_receivers.result (λ made. IfSome made.handle (IsNewReceiver c.args.topic.0
    (rolls_of h) made.receipt)))
    (sym c.in-Broadcast.is)
    (new_broadcast_receiver c.args.topic.0 c.in-Broadcast.handle.rolls c.subscribe.result c.broadcast_receivers.result
    c.subscribe.ensures.fresh
    c.broadcast_receivers.ensures.new)

pub returns-in-Watch-clause-new : goal.returns-in-Watch-clause-new
returns-in-Watch-clause-new g c =
    subst (λ (h : TopicHandle). IfOk c.watch_receivers.result (λ made. IfSome made.handle (IsNewReceiver c.args.topic.0
    (rolls_of h) made.receipt)))
    (sym c.in-Watch.is)
    (new_watch_receiver c.args.topic.0 c.in-Watch.handle.rolls c.subscribe-in-Watch.result c.watch_receivers.result
    c.subscribe-in-Watch.ensures.fresh
    c.watch_receivers.ensures.new)

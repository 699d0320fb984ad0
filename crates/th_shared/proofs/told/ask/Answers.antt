use Rattle.std.proofs.Common.{refl, sym, subst}
use Rattle.th_registry.specs.declared.channel.Channel.TheVariants.{Broadcast, Watch}
use Rattle.th_registry.specs.Events.{Asks, Own}
use Rattle.th_registry.specs.Typed.{replied}
use Rattle.th_shared.specs.Doing.{Does}
use Rattle.th_shared.specs.Numbers.{TopicHandle, sender}
use Rattle.th_shared.proofs.Doing.{broadcast-does, watch-does}
use Rattle.th_shared.proofs.told.ask.Goals as goal

pub returns-in-Broadcast : goal.returns-in-Broadcast
returns-in-Broadcast g c =
    let own = c.in-Broadcast.handle in
    subst (λ (h : TopicHandle). Does c.args.topic.0 (Asks (Own (sender h)) c.args.question) h (Broadcast c.ask.new.sender)
    (replied c.broadcast_told.result))
    (sym c.in-Broadcast.is)
    (broadcast-does c.args.topic.0 (Asks (Own (record { 0 = own.number })) c.args.question) refl refl own c.ask.new.sender
    c.ask.ensures.number c.ask.result _ c.broadcast_told.ensures c.ask.ensures.enters)

pub returns-in-Watch : goal.returns-in-Watch
returns-in-Watch g c =
    let own = c.in-Watch.handle in
    subst (λ (h : TopicHandle). Does c.args.topic.0 (Asks (Own (sender h)) c.args.question) h (Watch c.ask-in-Watch.new.sender)
    (replied c.watch_told.result))
    (sym c.in-Watch.is)
    (watch-does c.args.topic.0 (Asks (Own (record { 0 = own.number })) c.args.question) refl refl own c.ask-in-Watch.new.sender
    c.ask-in-Watch.ensures.number (c.ask-in-Watch.result) _ c.watch_told.ensures c.ask-in-Watch.ensures.enters)

use Rattle.std.proofs.Common.{refl, sym, subst}
use Rattle.th_registry.specs.declared.channel.Channel.TheVariants.{Broadcast, Watch}
use Rattle.th_registry.specs.Events.{Sends}
use Rattle.th_registry.specs.Typed.{replied}
use Rattle.th_shared.specs.Doing.{Does}
use Rattle.th_shared.specs.Numbers.{TopicHandle, sender}
use Rattle.th_shared.proofs.Doing.{broadcast-does, watch-does}
use Rattle.th_shared.proofs.told.send.Goals as goal

pub returns-in-Broadcast : goal.returns-in-Broadcast
returns-in-Broadcast g c =
    let own = c.in-Broadcast.handle in
    subst (λ (h : TopicHandle). Does c.args.topic.0 (Sends (sender h) c.args.verb) h (Broadcast c.send.new.sender)
    (replied c.broadcast_told.result))
    (sym c.in-Broadcast.is)
    (broadcast-does c.args.topic.0 (Sends (record { 0 = own.number }) c.args.verb) refl refl own c.send.new.sender
    c.send.ensures.number c.send.result _ c.broadcast_told.ensures c.send.ensures.enters)

pub returns-in-Watch : goal.returns-in-Watch
returns-in-Watch g c =
    let own = c.in-Watch.handle in
    subst (λ (h : TopicHandle). Does c.args.topic.0 (Sends (sender h) c.args.verb) h (Watch c.send-in-Watch.new.sender)
    (replied c.watch_told.result))
    (sym c.in-Watch.is)
    (watch-does c.args.topic.0 (Sends (record { 0 = own.number }) c.args.verb) refl refl own c.send-in-Watch.new.sender
    c.send-in-Watch.ensures.number (c.send-in-Watch.result) _ c.watch_told.ensures c.send-in-Watch.ensures.enters)

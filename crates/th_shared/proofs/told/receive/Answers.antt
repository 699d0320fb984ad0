use Rattle.std.proofs.Common.{refl, sym, subst}
use Rattle.th_registry.specs.declared.channel.Channel.TheVariants.{Broadcast, Watch}
use Rattle.th_registry.specs.Events.{Receives}
use Rattle.th_registry.specs.Typed.{replied}
use Rattle.th_shared.specs.Doing.{Does}
use Rattle.th_shared.specs.Numbers.{TopicHandle, number_of}
use Rattle.th_shared.proofs.Doing.{broadcast-does, watch-does}
use Rattle.th_shared.proofs.told.receive.Goals as goal

pub returns-in-Broadcast : goal.returns-in-Broadcast
returns-in-Broadcast g c =
    let own = c.in-Broadcast.handle in
    subst (λ (h : TopicHandle). Does c.args.topic.0 (Receives (record { 0 = number_of h }) c.args.verb) h
    (Broadcast c.receive.new.receiver) (replied c.broadcast_told.result))
    (sym c.in-Broadcast.is)
    (broadcast-does c.args.topic.0 (Receives (record { 0 = own.number }) c.args.verb) refl refl own c.receive.new.receiver
    c.receive.ensures.number c.receive.result _ c.broadcast_told.ensures c.receive.ensures.enters)

pub returns-in-Watch : goal.returns-in-Watch
returns-in-Watch g c =
    let own = c.in-Watch.handle in
    subst (λ (h : TopicHandle). Does c.args.topic.0 (Receives (record { 0 = number_of h }) c.args.verb) h
    (Watch c.receive-in-Watch.new.receiver) (replied c.watch_told.result))
    (sym c.in-Watch.is)
    (watch-does c.args.topic.0 (Receives (record { 0 = own.number }) c.args.verb) refl refl own c.receive-in-Watch.new.receiver
    c.receive-in-Watch.ensures.number (c.receive-in-Watch.result) _ c.watch_told.ensures c.receive-in-Watch.ensures.enters)

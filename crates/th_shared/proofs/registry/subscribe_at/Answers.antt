use Rattle.std.proofs.Common.{IfOk, IfSome, sym, subst}
use Rattle.th_registry.specs.declared.channel.Channel.{Channel}
use Rattle.th_shared.specs.Doing.{IsNewReceiver}
use Rattle.th_shared.specs.OwnSender.{OwnSender, own_rolls}
use Rattle.th_shared.proofs.NewHandles.{new_broadcast_receiver, new_watch_receiver}
use Rattle.th_shared.proofs.registry.subscribe_at.Goals as goal

pub returns-in-Broadcast-clause-new : goal.returns-in-Broadcast-clause-new
returns-in-Broadcast-clause-new g c =
    subst (λ (t : Channel OwnSender OwnSender). IfOk c.broadcast_receivers.result (λ made. IfSome made.handle
    (IsNewReceiver c.args.topic.0 (own_rolls t) made.receipt)))
    (sym c.in-Broadcast.is)
    (new_broadcast_receiver c.args.topic.0 c.in-Broadcast.at.rolls c.subscribe.result c.broadcast_receivers.result
    c.subscribe.ensures.fresh c.broadcast_receivers.ensures.new)

pub returns-in-Watch-clause-new : goal.returns-in-Watch-clause-new
returns-in-Watch-clause-new g c =
    subst (λ (t : Channel OwnSender OwnSender). IfOk c.watch_receivers.result (λ made. IfSome made.handle (IsNewReceiver c.args.topic.0
    (own_rolls t) made.receipt)))
    (sym c.in-Watch.is)
    (new_watch_receiver c.args.topic.0 c.in-Watch.at.rolls c.subscribe-in-Watch.result c.watch_receivers.result
    c.subscribe-in-Watch.ensures.fresh c.watch_receivers.ensures.new)

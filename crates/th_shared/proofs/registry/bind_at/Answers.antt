use Rattle.std.proofs.Common.{IfOk, IfSome, sym, subst}
use Rattle.th_registry.specs.declared.channel.Channel.{Channel}
use Rattle.th_shared.specs.Doing.{IsNewHandle}
use Rattle.th_shared.specs.OwnSender.{OwnSender, own_rolls}
use Rattle.th_shared.proofs.NewHandles.{new_broadcast, new_watch}
use Rattle.th_shared.proofs.registry.bind_at.Goals as goal

pub returns-in-Broadcast-clause-new : goal.returns-in-Broadcast-clause-new
returns-in-Broadcast-clause-new g c =
    subst (λ (t : Channel OwnSender OwnSender). IfOk c.broadcast_senders.result (λ made. IfSome made.handle (IsNewHandle c.args.topic.0
    (own_rolls t) made.receipt)))
    (sym c.in-Broadcast.is)
    (new_broadcast c.args.topic.0 c.in-Broadcast.at.rolls c.bind.result c.broadcast_senders.result c.bind.ensures.fresh
    c.broadcast_senders.ensures.new)

pub returns-in-Watch-clause-new : goal.returns-in-Watch-clause-new
returns-in-Watch-clause-new g c =
    subst (λ (t : Channel OwnSender OwnSender). IfOk c.watch_senders.result (λ made. IfSome made.handle (IsNewHandle c.args.topic.0
    (own_rolls t) made.receipt)))
    (sym c.in-Watch.is)
    (new_watch c.args.topic.0 c.in-Watch.at.rolls c.bind-in-Watch.result c.watch_senders.result c.bind-in-Watch.ensures.fresh
    c.watch_senders.ensures.new)

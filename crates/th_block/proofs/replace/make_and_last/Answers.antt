use Rattle.th_log.specs.Replies.{made_by}
use Rattle.th_block.proofs.Follows.{ready, spendable}
use Rattle.th_block.proofs.replace.make_and_last.Goals as goal

pub surely_last-requires-clause-ready : goal.surely_last-requires-clause-ready
surely_last-requires-clause-ready g c =
    ready g.O.Object.machine g.O.Kind.done (λ p. g.O.Kind.has_receiver p c.args.rx) _ _ c.last_of_receiver.ensures
    (g.met.O.Kind.receiver_ends_ok c.args.rx) _

pub surely_last-requires-clause-spends : goal.surely_last-requires-clause-spends
surely_last-requires-clause-spends g c =
    spendable g.O.Object.machine g.O.Kind.done (λ p. g.O.Kind.has_receiver p c.args.rx) _ _ c.last_of_receiver.ensures
    (g.met.O.Kind.receiver_ends_ok c.args.rx)
    (made_by g.O.Kind.made_tx g.O.Kind.made_rx) c.args.make _ _ _ c.in-Ok.receipt _ c.in-Some.seat
    c.requires.make (g.met.O.Kind.stays_ok c.args.rx) c.in-Ok.ensures.step c.in-Some.is c.in-Ok.ensures.told.1

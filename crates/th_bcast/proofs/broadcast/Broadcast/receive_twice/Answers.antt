use Rattle.th_bcast.proofs.Receiving.{received-sound, received-answer}
use Rattle.th_bcast.proofs.broadcast.Broadcast.receive_twice.Goals as goal

pub invariant_of-self-2 : goal.invariant_of-self-2
invariant_of-self-2 g c = received-sound _ c.self.invariant c.args.rx _ _ c.in-Ok.ensures.ok

pub returns-clause-step : goal.returns-clause-step
returns-clause-step g c =
    let told = c.told.ensures c.self.inside.senders.keys c.is_empty-closed.ensures in
    rw (← c.self.view_is, told) (received-answer _ c.self.invariant c.args.rx _ _ c.in-Ok.ensures.ok)

pub returns-clause-waited : goal.returns-clause-waited
returns-clause-waited g c =
    let told = c.told.ensures c.self.inside.senders.keys c.is_empty-closed.ensures in
    rw (← c.self.view_is, told) (received-answer _ c.self.invariant c.args.rx _ _ c.in-Ok.ensures.ok)

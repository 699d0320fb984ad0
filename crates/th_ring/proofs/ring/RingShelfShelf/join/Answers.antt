use Rattle.std.proofs.Common.{refl, arith}
use Rattle.th_model.proofs.PlaceLemmas.{low_of-le}
use Rattle.th_ring.proofs.Calls.{ring_joined, window_joined}
use Rattle.th_ring.proofs.ring.RingShelfShelf.join.Goals as goal

pub invariant_of-self-2 : goal.invariant_of-self-2
invariant_of-self-2 g c =
    let absent = rw (← c.self.view_is) at c.requires in
    rw c.in-Ok.ensures.entries
    (ring_joined c.self.inside.capacity c.self.inside.tail c.self.inside.slots.items c.self.inside.places.entries c.self.invariant
    c.args.rx.0 c.self.inside.tail absent (low_of-le _ _ _) (omega arith) c.self.inside.slots.items c.self.invariant.size
    (λ j from lt. absurd (omega arith)) (λ j _ _ _. refl))

pub returns-clause-ok : goal.returns-clause-ok
returns-clause-ok g c =
    let absent = rw (← c.self.view_is) at c.requires in
    rw (← c.self.view_is, c.in-Ok.ensures.entries)
    (window_joined c.self.inside.capacity c.self.inside.tail c.self.inside.slots.items c.self.inside.places.entries c.self.invariant
    c.args.rx.0 c.self.inside.tail absent (low_of-le _ _ _) (omega arith) c.self.inside.slots.items c.self.invariant.size
    (λ j from lt. absurd (omega arith)) (λ j _ _ _. refl))

use Rattle.th_ring.proofs.Calls.{ring_is_window}
use Rattle.th_ring.proofs.ring.RingShelfShelf.low.Goals as goal

pub returns-clause-sound : goal.returns-clause-sound
returns-clause-sound g c = rw (← c.self.view_is) (ring_is_window _ _ _ _ c.self.invariant)

use Rattle.std.proofs.Common.{ap, ◌∙◌, arith}
use Rattle.th_model.specs.Window.{placed}
use Rattle.th_ring.specs.Ring.{ring_window}
use Rattle.th_model.proofs.PlaceLemmas.{low_of-le}
use Rattle.th_ring.proofs.Counts.{low_of-ge}
use Rattle.th_ring.proofs.Calls.{ring_joined, window_joined, count-le}
use Rattle.th_ring.proofs.ring.RingShelfShelf.join_oldest.Goals as goal

pub wait_from-requires-clause-fits : goal.wait_from-requires-clause-fits
wait_from-requires-clause-fits g c = λ i from lt.
    let low = low_of-ge c.self.inside.tail c.self.inside.capacity c.self.inside.places.entries in
    omega (
      arith,
      c.least_awaited-low.ensures,
      low,
      count-le c.self.inside.capacity c.self.inside.tail c.self.inside.slots.items c.self.inside.places.entries c.self.invariant i
          (omega (arith, c.least_awaited-low.ensures, low)) lt,
      c.len.ensures.len,
      c.len.ensures.small,
    )

pub wait_from-requires-clause-window : goal.wait_from-requires-clause-window
wait_from-requires-clause-window g c =
    omega (arith, c.least_awaited-low.ensures, low_of-ge c.self.inside.tail c.self.inside.capacity c.self.inside.places.entries)

pub wait_from-requires-clause-ends : goal.wait_from-requires-clause-ends
wait_from-requires-clause-ends g c =
    omega (arith, c.least_awaited-low.ensures, low_of-le c.self.inside.tail c.self.inside.capacity c.self.inside.places.entries)

pub invariant_of-self-2 : goal.invariant_of-self-2
invariant_of-self-2 g c =
    let absent = rw (← c.self.view_is) at c.requires in
    let low = c.least_awaited-low.ensures in
    rw c.in-Ok.ensures.entries
    (ring_joined c.self.inside.capacity c.self.inside.tail c.self.inside.slots.items c.self.inside.places.entries c.self.invariant
    c.args.rx.0 c.least_awaited-low.result absent (omega (arith, low))
    (omega (arith, low, low_of-le c.self.inside.tail c.self.inside.capacity c.self.inside.places.entries)) c.wait_from.new.slots.items
    c.wait_from.ensures.size c.wait_from.ensures.waited c.wait_from.ensures.others)

pub returns-clause-ok : goal.returns-clause-ok
returns-clause-ok g c =
    let absent = rw (← c.self.view_is) at c.requires in
    let low = c.least_awaited-low.ensures in
    let w =
    window_joined c.self.inside.capacity c.self.inside.tail c.self.inside.slots.items c.self.inside.places.entries c.self.invariant
    c.args.rx.0 c.least_awaited-low.result absent (omega (arith, low))
    (omega (arith, low, low_of-le c.self.inside.tail c.self.inside.capacity c.self.inside.places.entries)) c.wait_from.new.slots.items
    c.wait_from.ensures.size c.wait_from.ensures.waited c.wait_from.ensures.others in
    rw (← c.self.view_is, c.in-Ok.ensures.entries)
    (w ∙ ap
    (placed
    (ring_window c.self.inside.capacity c.self.inside.tail c.self.inside.slots.items c.self.inside.places.entries) c.args.rx.0) low)

use Rattle.std.proofs.Common.{◌≡◌, ◌<◌, ◌-◌, Some, sym, ap, unwrap_or, arith}
use Rattle.th_model.specs.Places.{Places, place_of, place_at}
use Rattle.th_shelf.proofs.Written.{rising_from_sorted, set_value-with}
use Rattle.th_ring.proofs.Calls.{ring_jumped, window_jumped}
use Rattle.th_ring.proofs.ring.RingShelfShelf.jump.Goals as goal

pub invariant_of-self : goal.invariant_of-self
invariant_of-self g c =
    let ps : Places = c.self.inside.places.entries in
    let here : place_of ps c.args.rx.0 ≡ Some c.in-Some.place.now = sym c.in-Some.ensures.value in
    let at : place_at ps c.args.rx.0 ≡ c.in-Some.place.now = ap (λ o. unwrap_or o 0) here in
    let behind : place_at ps c.args.rx.0 < c.self.inside.tail - c.self.inside.capacity = rw (← c.self.view_is) at c.requires.behind in
    let rising = rising_from_sorted _ c.get_mut.ensures.ordered in
    let moved = set_value-with ps c.args.rx.0 _ c.skip_to.new.place rising here in
    rw (moved, c.skip_to.ensures.moved)
    (ring_jumped c.self.inside.capacity c.self.inside.tail c.self.inside.slots.items c.self.inside.places.entries c.self.invariant
    c.args.rx.0 _ rising here (omega (arith, at, behind)))

pub returns-clause-moved : goal.returns-clause-moved
returns-clause-moved g c =
    let ps : Places = c.self.inside.places.entries in
    let here : place_of ps c.args.rx.0 ≡ Some c.in-Some.place.now = sym c.in-Some.ensures.value in
    let at : place_at ps c.args.rx.0 ≡ c.in-Some.place.now = ap (λ o. unwrap_or o 0) here in
    let behind : place_at ps c.args.rx.0 < c.self.inside.tail - c.self.inside.capacity = rw (← c.self.view_is) at c.requires.behind in
    let rising = rising_from_sorted _ c.get_mut.ensures.ordered in
    let moved = set_value-with ps c.args.rx.0 _ c.skip_to.new.place rising here in
    rw (← c.self.view_is, moved, c.skip_to.ensures.moved)
    (window_jumped c.self.inside.capacity c.self.inside.tail c.self.inside.slots.items c.self.inside.places.entries c.self.invariant
    c.args.rx.0 _ rising here (omega (arith, at, behind)))

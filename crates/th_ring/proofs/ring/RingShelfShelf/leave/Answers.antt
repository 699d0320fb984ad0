use Rattle.std.proofs.Common.{◌≡◌, Some, rules, arith}
use Rattle.th_model.specs.Places.{place_of}
use Rattle.th_ring.proofs.Calls.{ring_left, window_left, waited, place_le}
use Rattle.th_ring.proofs.ring.RingShelfShelf.leave.Goals as goal

pub pass_from-requires-clause-waits : goal.pass_from-requires-clause-waits
pass_from-requires-clause-waits g c =
    let here : place_of c.self.inside.places.entries c.args.rx.0 ≡ Some c.in-Some.place = search rules in
    λ i le lt.
    waited c.self.inside.capacity c.self.inside.tail c.self.inside.slots.items c.self.inside.places.entries c.self.invariant c.args.rx.0
    c.in-Some.place i here (omega (arith, c.max-first.ensures, c.saturating_sub.ensures)) lt

pub invariant_of-self : goal.invariant_of-self
invariant_of-self g c =
    let here : place_of c.self.inside.places.entries c.args.rx.0 ≡ Some c.in-Some.place = search rules in
    rw c.remove.ensures.entries
    (ring_left c.self.inside.capacity c.self.inside.tail c.self.inside.slots.items c.self.inside.places.entries c.self.invariant
    c.args.rx.0 c.in-Some.place c.max-first.result here
    (omega (arith, c.max-first.ensures, c.saturating_sub.ensures)) c.pass_from.new.slots.items c.pass_from.ensures.size
    c.pass_from.ensures.passed c.pass_from.ensures.others)

pub returns : goal.returns
returns g c =
    let here : place_of c.self.inside.places.entries c.args.rx.0 ≡ Some c.in-Some.place = search rules in
    rw (← c.self.view_is, c.remove.ensures.entries)
    (window_left c.self.inside.capacity c.self.inside.tail c.self.inside.slots.items c.self.inside.places.entries c.self.invariant
    c.args.rx.0 c.in-Some.place c.max-first.result here
    (omega (arith, c.max-first.ensures, c.saturating_sub.ensures)) c.pass_from.new.slots.items c.pass_from.ensures.size
    c.pass_from.ensures.passed c.pass_from.ensures.others)

pub pass_from-requires-clause-ends : goal.pass_from-requires-clause-ends
pass_from-requires-clause-ends g c =
    let here : place_of c.self.inside.places.entries c.args.rx.0 ≡ Some c.in-Some.place = search rules in
    omega (arith, c.max-first.ensures, c.saturating_sub.ensures, place_le _ _ _ _ c.self.invariant c.args.rx.0 c.in-Some.place here)

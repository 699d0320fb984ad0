use Rattle.std.proofs.Common.{◌≡◌, ◌+◌, ◌-◌, ◌<◌, ◌≤◌, set, Some, refl, sym, ap, ◌∙◌, arith}
use Rattle.std.specs.Ordering.{nat_cmp}
use Rattle.std.specs.BTreeMap.{is_at}
use Rattle.std.proofs.lemmas.List.{set-get_or}
use Rattle.std.proofs.lemmas.Map.Steps.{set_value_same}
use Rattle.th_model.specs.Places.{Places, place_of}
use Rattle.th_model.proofs.PlaceLemmas.{all-at}
use Rattle.th_shelf.proofs.Written.{rising_from_sorted, set_value-with}
use Rattle.th_ring.proofs.Calls.{ring_jumped, window_jumped, ring_taken, window_taken, value_taken, value_there, count_at, slot_is, slots_are, waited}
use Rattle.th_ring.proofs.ring.RingShelfShelf.receive_with_copy.Goals as goal

pub invariant_of-self-then-at-self : goal.invariant_of-self-then-at-self
invariant_of-self-then-at-self g c =
    let ps : Places = c.self.inside.places.entries in
    let here : place_of ps c.args.rx.0 ≡ Some c.in-Some.place.now = sym c.in-Some.ensures.value in
    let same = set_value_same (is_at (nat_cmp c.args.rx.0)) ps c.in-Some.place.now here in
    rw same c.self.invariant

pub returns-then-at-self-clause-ok : goal.returns-then-at-self-clause-ok
returns-then-at-self-clause-ok g c =
    let ps : Places = c.self.inside.places.entries in
    let here : place_of ps c.args.rx.0 ≡ Some c.in-Some.place.now = sym c.in-Some.ensures.value in
    let same = set_value_same (is_at (nat_cmp c.args.rx.0)) ps c.in-Some.place.now here in
    rw (← c.self.view_is, same) (here ∙ ap (λ k. Some k) c.if-at-self.true, refl)

pub invariant_of-self-then-at-first : goal.invariant_of-self-then-at-first
invariant_of-self-then-at-first g c =
    let ps : Places = c.self.inside.places.entries in
    let here : place_of ps c.args.rx.0 ≡ Some c.in-Some.place.now = sym c.in-Some.ensures.value in
    let rising = rising_from_sorted _ c.get_mut.ensures.ordered in
    let moved = set_value-with ps c.args.rx.0 _ c.skip_to.new.place rising here in
    let first = c.skip_to.ensures.moved ∙ c.saturating_sub-first.ensures in
    let behind : c.in-Some.place.now < c.self.inside.tail - c.self.inside.capacity =
    omega (arith, c.if-at-first.true, c.saturating_sub-first.ensures) in
    rw (moved, first)
    (ring_jumped c.self.inside.capacity c.self.inside.tail c.self.inside.slots.items c.self.inside.places.entries c.self.invariant
    c.args.rx.0 _ rising here behind)

pub returns-then-at-first-clause-ok : goal.returns-then-at-first-clause-ok
returns-then-at-first-clause-ok g c =
    let ps : Places = c.self.inside.places.entries in
    let here : place_of ps c.args.rx.0 ≡ Some c.in-Some.place.now = sym c.in-Some.ensures.value in
    let rising = rising_from_sorted _ c.get_mut.ensures.ordered in
    let moved = set_value-with ps c.args.rx.0 _ c.skip_to.new.place rising here in
    let first = c.skip_to.ensures.moved ∙ c.saturating_sub-first.ensures in
    let behind : c.in-Some.place.now < c.self.inside.tail - c.self.inside.capacity =
    omega (arith, c.if-at-first.true, c.saturating_sub-first.ensures) in
    rw (← c.self.view_is, moved, first) (record {
      from = c.in-Some.place.now;
      place = here;
      behind = behind;
      count = omega (arith, c.skip_to.ensures.missed, c.saturating_sub-first.ensures);
      moved =
          window_jumped c.self.inside.capacity c.self.inside.tail c.self.inside.slots.items c.self.inside.places.entries c.self.invariant
          c.args.rx.0 _ rising here behind;
    })

pub read-requires-clause-waits : goal.read-requires-clause-waits
read-requires-clause-waits g c =
    let ps : Places = c.self.inside.places.entries in
    let here : place_of ps c.args.rx.0 ≡ Some c.in-Some.place.now = sym c.in-Some.ensures.value in
    let le : c.in-Some.place.now ≤ c.self.inside.tail =
    all-at (λ i. i ≤ c.self.inside.tail) ps c.args.rx.0 _ c.self.invariant.places_in here in
    let before : c.in-Some.place.now < c.self.inside.tail = omega (arith, le, c.if-at-self.false) in
    let inside : c.self.inside.tail - c.self.inside.capacity ≤ c.in-Some.place.now =
    omega (arith, c.if-at-first.false, c.saturating_sub-first.ensures) in
    let item =
    slot_is c.self.inside.capacity c.self.inside.slots.items c.self.invariant.size c.self.invariant.is_capacity.1 c.in-Some.place.now
    c.low_bits-index.result c.low_bits-index.ensures c.index_mut.result.now c.index_mut.ensures.value in
    rw item
    (waited c.self.inside.capacity c.self.inside.tail c.self.inside.slots.items c.self.inside.places.entries c.self.invariant c.args.rx.0
    c.in-Some.place.now c.in-Some.place.now here (omega arith) before)

pub read-requires-clause-there : goal.read-requires-clause-there
read-requires-clause-there g c =
    let ps : Places = c.self.inside.places.entries in
    let here : place_of ps c.args.rx.0 ≡ Some c.in-Some.place.now = sym c.in-Some.ensures.value in
    let le : c.in-Some.place.now ≤ c.self.inside.tail =
    all-at (λ i. i ≤ c.self.inside.tail) ps c.args.rx.0 _ c.self.invariant.places_in here in
    let before : c.in-Some.place.now < c.self.inside.tail = omega (arith, le, c.if-at-self.false) in
    let inside : c.self.inside.tail - c.self.inside.capacity ≤ c.in-Some.place.now =
    omega (arith, c.if-at-first.false, c.saturating_sub-first.ensures) in
    let item =
    slot_is c.self.inside.capacity c.self.inside.slots.items c.self.invariant.size c.self.invariant.is_capacity.1 c.in-Some.place.now
    c.low_bits-index.result c.low_bits-index.ensures c.index_mut.result.now c.index_mut.ensures.value in
    rw item
    (value_there c.self.inside.capacity c.self.inside.tail c.self.inside.slots.items c.self.inside.places.entries c.self.invariant
    c.args.rx.0 c.in-Some.place.now here inside before)

pub invariant_of-self-in_default-read : goal.invariant_of-self-in_default-read
invariant_of-self-in_default-read g c =
    let ps : Places = c.self.inside.places.entries in
    let here : place_of ps c.args.rx.0 ≡ Some c.in-Some.place.now = sym c.in-Some.ensures.value in
    let same = set_value_same (is_at (nat_cmp c.args.rx.0)) ps c.in-Some.place.now here in
    let slots : set c.self.inside.slots.items c.low_bits-index.result c.read.new.slot ≡ c.self.inside.slots.items =
    ap (set c.self.inside.slots.items c.low_bits-index.result) (c.in_default-read.ensures.short ∙ c.index_mut.ensures.value)
    ∙ set-get_or c.self.inside.slots.items c.low_bits-index.result c.index_mut.result.now in
    rw (same, slots) c.self.invariant

pub returns-in_default-read-clause-short : goal.returns-in_default-read-clause-short
returns-in_default-read-clause-short g c =
    let ps : Places = c.self.inside.places.entries in
    let here : place_of ps c.args.rx.0 ≡ Some c.in-Some.place.now = sym c.in-Some.ensures.value in
    let same = set_value_same (is_at (nat_cmp c.args.rx.0)) ps c.in-Some.place.now here in
    let slots : set c.self.inside.slots.items c.low_bits-index.result c.read.new.slot ≡ c.self.inside.slots.items =
    ap (set c.self.inside.slots.items c.low_bits-index.result) (c.in_default-read.ensures.short ∙ c.index_mut.ensures.value)
    ∙ set-get_or c.self.inside.slots.items c.low_bits-index.result c.index_mut.result.now in
    (refl, rw (← c.self.view_is, same, slots) refl)

pub returns-in_default-read-clause-asked : goal.returns-in_default-read-clause-asked
returns-in_default-read-clause-asked g c =
    let ps : Places = c.self.inside.places.entries in
    let here : place_of ps c.args.rx.0 ≡ Some c.in-Some.place.now = sym c.in-Some.ensures.value in
    let le : c.in-Some.place.now ≤ c.self.inside.tail =
    all-at (λ i. i ≤ c.self.inside.tail) ps c.args.rx.0 _ c.self.invariant.places_in here in
    let before : c.in-Some.place.now < c.self.inside.tail = omega (arith, le, c.if-at-self.false) in
    let inside : c.self.inside.tail - c.self.inside.capacity ≤ c.in-Some.place.now =
    omega (arith, c.if-at-first.false, c.saturating_sub-first.ensures) in
    rw (← c.self.view_is) (c.in-Some.place.now, record { place = here; in_window = inside; sent = before })

pub invariant_of-self-2 : goal.invariant_of-self-2
invariant_of-self-2 g c =
    let ps : Places = c.self.inside.places.entries in
    let here : place_of ps c.args.rx.0 ≡ Some c.in-Some.place.now = sym c.in-Some.ensures.value in
    let le : c.in-Some.place.now ≤ c.self.inside.tail =
    all-at (λ i. i ≤ c.self.inside.tail) ps c.args.rx.0 _ c.self.invariant.places_in here in
    let before : c.in-Some.place.now < c.self.inside.tail = omega (arith, le, c.if-at-self.false) in
    let inside : c.self.inside.tail - c.self.inside.capacity ≤ c.in-Some.place.now =
    omega (arith, c.if-at-first.false, c.saturating_sub-first.ensures) in
    let rising = rising_from_sorted _ c.get_mut.ensures.ordered in
    let moved = set_value-with ps c.args.rx.0 _ (c.in-Some.place.now + 1) rising here in
    let slots =
    slots_are c.self.inside.capacity c.self.inside.slots.items c.self.invariant.size c.self.invariant.is_capacity.1 c.in-Some.place.now
    c.low_bits-index.result c.low_bits-index.ensures c.index_mut.result.now c.read.new.slot c.index_mut.ensures.value c.in-Ok.ensures.ok in
    rw moved
    (ring_taken c.self.inside.capacity c.self.inside.tail c.self.inside.slots.items c.self.inside.places.entries c.self.invariant
    c.args.rx.0 c.in-Some.place.now rising here inside before _ slots)

pub returns-clause-ok : goal.returns-clause-ok
returns-clause-ok g c =
    let ps : Places = c.self.inside.places.entries in
    let here : place_of ps c.args.rx.0 ≡ Some c.in-Some.place.now = sym c.in-Some.ensures.value in
    let le : c.in-Some.place.now ≤ c.self.inside.tail =
    all-at (λ i. i ≤ c.self.inside.tail) ps c.args.rx.0 _ c.self.invariant.places_in here in
    let before : c.in-Some.place.now < c.self.inside.tail = omega (arith, le, c.if-at-self.false) in
    let inside : c.self.inside.tail - c.self.inside.capacity ≤ c.in-Some.place.now =
    omega (arith, c.if-at-first.false, c.saturating_sub-first.ensures) in
    let item =
    slot_is c.self.inside.capacity c.self.inside.slots.items c.self.invariant.size c.self.invariant.is_capacity.1 c.in-Some.place.now
    c.low_bits-index.result c.low_bits-index.ensures c.index_mut.result.now c.index_mut.ensures.value in
    let rising = rising_from_sorted _ c.get_mut.ensures.ordered in
    let moved = set_value-with ps c.args.rx.0 _ (c.in-Some.place.now + 1) rising here in
    let slots =
    slots_are c.self.inside.capacity c.self.inside.slots.items c.self.invariant.size c.self.invariant.is_capacity.1 c.in-Some.place.now
    c.low_bits-index.result c.low_bits-index.ensures c.index_mut.result.now c.read.new.slot c.index_mut.ensures.value c.in-Ok.ensures.ok in
    rw (← c.self.view_is, moved) (record {
      at = c.in-Some.place.now;
      stands = record { place = here; in_window = inside; sent = before };
      here =
          value_taken c.self.inside.capacity c.self.inside.tail c.self.inside.slots.items c.self.inside.places.entries c.self.invariant
          c.args.rx.0 c.in-Some.place.now here inside before ∙ ap (λ (s : _). s.value) (sym item) ∙ c.in-Ok.ensures.value;
      moved =
          window_taken c.self.inside.capacity c.self.inside.tail c.self.inside.slots.items c.self.inside.places.entries c.self.invariant
          c.args.rx.0 c.in-Some.place.now rising here inside before _ slots;
    })

pub overflow_add-place : goal.overflow_add-place
overflow_add-place g c =
    let ps : Places = c.self.inside.places.entries in
    let here : place_of ps c.args.rx.0 ≡ Some c.in-Some.place.now = sym c.in-Some.ensures.value in
    let le : c.in-Some.place.now ≤ c.self.inside.tail =
    all-at (λ i. i ≤ c.self.inside.tail) ps c.args.rx.0 _ c.self.invariant.places_in here in
    let before : c.in-Some.place.now < c.self.inside.tail = omega (arith, le, c.if-at-self.false) in
    omega (arith, before, c.self.ranges)

pub returns-in_default-read-clause-last : goal.returns-in_default-read-clause-last
returns-in_default-read-clause-last g c = λ alone sure last.
    let ps : Places = c.self.inside.places.entries in
    let here : place_of ps c.args.rx.0 ≡ Some c.in-Some.place.now = sym c.in-Some.ensures.value in
    let le : c.in-Some.place.now ≤ c.self.inside.tail =
    all-at (λ i. i ≤ c.self.inside.tail) ps c.args.rx.0 _ c.self.invariant.places_in here in
    let before : c.in-Some.place.now < c.self.inside.tail = omega (arith, le, c.if-at-self.false) in
    let inside : c.self.inside.tail - c.self.inside.capacity ≤ c.in-Some.place.now =
    omega (arith, c.if-at-first.false, c.saturating_sub-first.ensures) in
    let only = rw (← c.self.view_is) at last in
    let one = only c.in-Some.place.now (record { place = here; in_window = inside; sent = before }) in
    let count =
    count_at c.self.inside.capacity c.self.inside.tail c.self.inside.slots.items c.self.inside.places.entries c.self.invariant
    c.in-Some.place.now c.low_bits-index.result c.index_mut.result.now c.low_bits-index.ensures c.index_mut.ensures.value
    (omega arith) before in
    let ok = c.read.ensures.last alone (count ∙ one) in
    rw c.in_default-read.is at ok

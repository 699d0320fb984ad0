use Rattle.std.proofs.Common.{◌≡◌, ◌-◌, ◌<◌, ◌≤◌, Some, refl, sym, ap, ◌∙◌, arith}
use Rattle.std.specs.Ordering.{nat_cmp}
use Rattle.std.specs.BTreeMap.{is_at}
use Rattle.std.proofs.lemmas.Map.Steps.{set_value_same}
use Rattle.th_model.specs.Places.{Places, place_of}
use Rattle.th_model.proofs.PlaceLemmas.{all-at}
use Rattle.th_shelf.proofs.Trimming.{low_at, read_trim, read_window, jumped_trim, jumped_window}
use Rattle.th_shelf.proofs.Written.{rising_from_sorted, set_value-with}
use Rattle.th_shelf.proofs.plain.PlainShelfShelf.receive_with_copy.Goals as goal

pub invariant_of-self-then-at-self : goal.invariant_of-self-then-at-self
invariant_of-self-then-at-self g c =
    let ps : Places = c.self.inside.places.entries in
    let here : place_of ps c.args.rx.0 ≡ Some c.in-Some.place.now = sym c.in-Some.ensures.value in
    let same = (c.get_mut.follows.holds c.in-Some.place.now).0 ∙ set_value_same (is_at (nat_cmp c.args.rx.0)) ps c.in-Some.place.now here in
    rw same c.self.invariant

pub returns-then-at-self-clause-ok : goal.returns-then-at-self-clause-ok
returns-then-at-self-clause-ok g c =
    let ps : Places = c.self.inside.places.entries in
    let here : place_of ps c.args.rx.0 ≡ Some c.in-Some.place.now = sym c.in-Some.ensures.value in
    let same = (c.get_mut.follows.holds c.in-Some.place.now).0 ∙ set_value_same (is_at (nat_cmp c.args.rx.0)) ps c.in-Some.place.now here in
    rw (← c.self.view_is, same) (here ∙ ap (λ k. Some k) c.if-at-self.true, refl)

pub invariant_of-self-then-at-first : goal.invariant_of-self-then-at-first
invariant_of-self-then-at-first g c =
    let ps : Places = c.self.inside.places.entries in
    let here : place_of ps c.args.rx.0 ≡ Some c.in-Some.place.now = sym c.in-Some.ensures.value in
    let moved =
    (c.get_mut.follows.holds c.skip_to.new.place).0
    ∙ set_value-with ps c.args.rx.0 _ c.skip_to.new.place (rising_from_sorted _ c.get_mut.ensures.ordered) here in
    let first = c.skip_to.ensures.moved ∙ c.saturating_sub-first.ensures in
    rw (moved, first)
    (jumped_trim _ _ _ _ c.self.invariant c.args.rx.0 _ here (omega (arith, c.if-at-first.true, c.saturating_sub-first.ensures)))

pub returns-then-at-first-clause-ok : goal.returns-then-at-first-clause-ok
returns-then-at-first-clause-ok g c =
    let ps : Places = c.self.inside.places.entries in
    let here : place_of ps c.args.rx.0 ≡ Some c.in-Some.place.now = sym c.in-Some.ensures.value in
    let moved =
    (c.get_mut.follows.holds c.skip_to.new.place).0
    ∙ set_value-with ps c.args.rx.0 _ c.skip_to.new.place (rising_from_sorted _ c.get_mut.ensures.ordered) here in
    let first = c.skip_to.ensures.moved ∙ c.saturating_sub-first.ensures in
    let behind : c.in-Some.place.now < c.self.inside.tail - c.self.inside.capacity =
    omega (arith, c.if-at-first.true, c.saturating_sub-first.ensures) in
    rw (← c.self.view_is, moved, first) (record {
      from = c.in-Some.place.now;
      place = here;
      behind = behind;
      count = omega (arith, c.skip_to.ensures.missed, c.saturating_sub-first.ensures);
      moved = jumped_window _ _ _ _ c.self.invariant c.args.rx.0 _ here behind;
    })

pub read_at-requires-clause-from : goal.read_at-requires-clause-from
read_at-requires-clause-from g c =
    let ps : Places = c.self.inside.places.entries in
    let here : place_of ps c.args.rx.0 ≡ Some c.in-Some.place.now = sym c.in-Some.ensures.value in
    let low = low_at _ _ _ _ c.self.invariant c.args.rx.0 _ here (omega (arith, c.if-at-first.false, c.saturating_sub-first.ensures)) in
    omega (arith, low, c.first_position-low.ensures)

pub read_at-requires-clause-to : goal.read_at-requires-clause-to
read_at-requires-clause-to g c =
    let ps : Places = c.self.inside.places.entries in
    let here : place_of ps c.args.rx.0 ≡ Some c.in-Some.place.now = sym c.in-Some.ensures.value in
    let le : c.in-Some.place.now ≤ c.self.inside.tail =
    all-at (λ i. i ≤ c.self.inside.tail) ps c.args.rx.0 _ c.self.invariant.places here in
    omega (arith, le, c.if-at-self.false, c.first_position-low.ensures, c.self.invariant.kept)

pub invariant_of-self-in_default-read_at : goal.invariant_of-self-in_default-read_at
invariant_of-self-in_default-read_at g c =
    let ps : Places = c.self.inside.places.entries in
    let here : place_of ps c.args.rx.0 ≡ Some c.in-Some.place.now = sym c.in-Some.ensures.value in
    let same = (c.get_mut.follows.holds c.in-Some.place.now).0 ∙ set_value_same (is_at (nat_cmp c.args.rx.0)) ps c.in-Some.place.now here in
    rw (c.in_default-read_at.ensures.short, same) c.self.invariant

pub returns-in_default-read_at-clause-short : goal.returns-in_default-read_at-clause-short
returns-in_default-read_at-clause-short g c =
    let ps : Places = c.self.inside.places.entries in
    let here : place_of ps c.args.rx.0 ≡ Some c.in-Some.place.now = sym c.in-Some.ensures.value in
    let same = (c.get_mut.follows.holds c.in-Some.place.now).0 ∙ set_value_same (is_at (nat_cmp c.args.rx.0)) ps c.in-Some.place.now here in
    rw (← c.self.view_is, c.in_default-read_at.ensures.short, same) (refl, refl)

pub returns-in_default-read_at-clause-asked : goal.returns-in_default-read_at-clause-asked
returns-in_default-read_at-clause-asked g c =
    let ps : Places = c.self.inside.places.entries in
    let here : place_of ps c.args.rx.0 ≡ Some c.in-Some.place.now = sym c.in-Some.ensures.value in
    let le : c.in-Some.place.now ≤ c.self.inside.tail =
    all-at (λ i. i ≤ c.self.inside.tail) ps c.args.rx.0 _ c.self.invariant.places here in
    rw (← c.self.view_is) (
      c.in-Some.place.now,
      record {
        place = here;
        in_window = omega (arith, c.if-at-first.false, c.saturating_sub-first.ensures);
        sent = omega (arith, le, c.if-at-self.false);
      },
    )

pub invariant_of-self-2 : goal.invariant_of-self-2
invariant_of-self-2 g c =
    let ps : Places = c.self.inside.places.entries in
    let here : place_of ps c.args.rx.0 ≡ Some c.in-Some.place.now = sym c.in-Some.ensures.value in
    let le : c.in-Some.place.now ≤ c.self.inside.tail =
    all-at (λ i. i ≤ c.self.inside.tail) ps c.args.rx.0 _ c.self.invariant.places here in
    let moved =
    (c.get_mut.follows.holds c.read_at.new.place).0
    ∙ set_value-with ps c.args.rx.0 _ c.read_at.new.place (rising_from_sorted _ c.get_mut.ensures.ordered) here in
    let low = c.first_position-low.ensures in
    let next = c.in-Ok.ensures.moved in
    rw (moved, next)
    (read_trim _ _ _ _ c.self.invariant c.args.rx.0 _ here c.trim.new.kept.items (rw low at c.trim.ensures.ahead)
    (omega (arith, le, c.if-at-self.false)) (rw (low, moved, next) at c.trim.ensures.first))

pub returns-clause-ok : goal.returns-clause-ok
returns-clause-ok g c =
    let ps : Places = c.self.inside.places.entries in
    let here : place_of ps c.args.rx.0 ≡ Some c.in-Some.place.now = sym c.in-Some.ensures.value in
    let le : c.in-Some.place.now ≤ c.self.inside.tail =
    all-at (λ i. i ≤ c.self.inside.tail) ps c.args.rx.0 _ c.self.invariant.places here in
    let moved =
    (c.get_mut.follows.holds c.read_at.new.place).0
    ∙ set_value-with ps c.args.rx.0 _ c.read_at.new.place (rising_from_sorted _ c.get_mut.ensures.ordered) here in
    let low = c.first_position-low.ensures in
    let next = c.in-Ok.ensures.moved in
    let before : c.in-Some.place.now < c.self.inside.tail = omega (arith, le, c.if-at-self.false) in
    rw (← c.self.view_is, moved, next) (record {
      at = c.in-Some.place.now;
      stands = record {
        place = here;
        in_window = omega (arith, c.if-at-first.false, c.saturating_sub-first.ensures);
        sent = before;
      };
      here = rw low at c.in-Ok.ensures.value;
      moved = read_window _ _ _ _ c.self.invariant c.args.rx.0 _ here c.trim.new.kept.items (rw low at c.trim.ensures.ahead) before
          (rw (low, moved, next) at c.trim.ensures.first);
    })

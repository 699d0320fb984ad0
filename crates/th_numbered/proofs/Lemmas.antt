-- What is found, put and taken out among slots whose numbers rise.
use Rattle.std.proofs.Common.{◌≡◌, ℕ, zero, suc, ◌+◌, ◌<◌, ◌≤◌, Bool, true, false, cond, List, [], ◌∷◌, length, take, drop, get_or, set, map, Option, Some, None, refl, sym, ap, subst, ◌∙◌, inl, inr, arith}
use Rattle.std.specs.List.{AllByRecursion, insert, filter}
use Rattle.std.specs.Option.{is_some}
use Rattle.std.specs.List.Sorted.{IsStrictlySortedBy}
use Rattle.std.specs.Ordering.{nat_cmp}
use Rattle.std.specs.declared.cmp.Ordering.TheVariants.{Less, Equal, Greater}
use Rattle.std.specs.Cmp.{nat_cmp_is}
use Rattle.std.specs.Map.{keys_of, lookup, remove_entry, set_value}
use Rattle.std.specs.BTreeMap.{insert_entry, is_at}
use Rattle.std.proofs.lemmas.Cmp.{ranked}
use Rattle.std.proofs.lemmas.Map.Keys.{sorted_head, sorted_tail, below_from_sorted}
use Rattle.std.proofs.lemmas.Bool.{false≢true, cases_lt}
use Rattle.std.specs.Prelude.{nat_lt}
use Rattle.std.proofs.lemmas.Bool.Decides.{nat_tests}
use Rattle.th_numbered.specs.Slots.{with_slot, present, AreRising, StartsWithGaps, IsSlotOf, IsRoomFor, put_slot, slot_at}

-- numbers all above

abbrev pub AreAbove : ℕ → List ℕ → Type 0
AreAbove n ks = AllByRecursion (λ k. n < k) ks

pub above_head : (k : ℕ) (ks : List ℕ) → IsStrictlySortedBy nat_cmp (k ∷ ks) → AreAbove k ks
above_head k ks r = go ks (sorted_head nat_cmp k ks r)
  where
    go : (xs : List ℕ) → AllByRecursion (λ y. nat_cmp k y ≡ Less) xs → AreAbove k xs
    go [] h = tt
    go (x ∷ xs) h = (ranked k x Less (sym h.0), go xs h.1)

pub sorted_cons : (k : ℕ) (ks : List ℕ) → AreAbove k ks → IsStrictlySortedBy nat_cmp ks → IsStrictlySortedBy nat_cmp (k ∷ ks)
unfolding IsStrictlySortedBy
sorted_cons k ks a r = (go ks a, r)
  where
    go : (xs : List ℕ) → AreAbove k xs → AllByRecursion (λ y. nat_cmp k y ≡ Less) xs
    go [] h = tt
    go (x ∷ xs) h = (sym (nat_cmp_is k x Less h.0), go xs h.1)

pub above_more : (n k : ℕ) (ks : List ℕ) → n < k → AreAbove k ks → AreAbove n ks
above_more n k [] lt h = tt
above_more n k (x ∷ xs) lt h = (omega (arith, lt, h.0), above_more n k xs lt h.1)

same : (n : ℕ) → nat_cmp n n ≡ Equal
same n = sym (nat_cmp_is n n Equal refl)

all_above : (n : ℕ) (ks : List ℕ) → ((j : ℕ) → j < length ks → n < get_or ks j 0) → AreAbove n ks
all_above n [] h = tt
all_above n (k ∷ ks) h = (h 0 (omega arith), all_above n ks (λ j lt. h (suc j) (omega arith)))

module _ {V : Type 0} where
  -- one slot before entries, for a number below it and for one above it

  lookup-before : (n k : ℕ) (o : Option V) (es : List (ℕ × V)) → n < k →
      lookup (is_at (nat_cmp n)) (with_slot k o es) ≡ lookup (is_at (nat_cmp n)) es
  lookup-before n k None es lt = refl
  lookup-before n k (Some v) es lt = rw (sym (nat_cmp_is n k Less lt)) refl

  lookup-behind : (n k : ℕ) (o : Option V) (es : List (ℕ × V)) → k < n →
      lookup (is_at (nat_cmp n)) (with_slot k o es) ≡ lookup (is_at (nat_cmp n)) es
  lookup-behind n k None es lt = refl
  lookup-behind n k (Some v) es lt = rw (sym (nat_cmp_is n k Greater lt)) refl

  remove-before : (n k : ℕ) (o : Option V) (es : List (ℕ × V)) → n < k →
      remove_entry (is_at (nat_cmp n)) (with_slot k o es) ≡ with_slot k o (remove_entry (is_at (nat_cmp n)) es)
  remove-before n k None es lt = refl
  remove-before n k (Some v) es lt = rw (sym (nat_cmp_is n k Less lt)) refl

  remove-behind : (n k : ℕ) (o : Option V) (es : List (ℕ × V)) → k < n →
      remove_entry (is_at (nat_cmp n)) (with_slot k o es) ≡ with_slot k o (remove_entry (is_at (nat_cmp n)) es)
  remove-behind n k None es lt = refl
  remove-behind n k (Some v) es lt = rw (sym (nat_cmp_is n k Greater lt)) refl

  set-behind : (n k : ℕ) (o : Option V) (es : List (ℕ × V)) (w : V) → k < n →
      set_value (is_at (nat_cmp n)) (with_slot k o es) w ≡ with_slot k o (set_value (is_at (nat_cmp n)) es w)
  set-behind n k None es w lt = refl
  set-behind n k (Some v) es w lt = rw (sym (nat_cmp_is n k Greater lt)) refl

  insert-before : (n k : ℕ) (o : Option V) (es : List (ℕ × V)) (v : V) → n < k → insert_entry nat_cmp es n v ≡ (n, v) ∷ es →
      insert_entry nat_cmp (with_slot k o es) n v ≡ (n, v) ∷ with_slot k o es
  insert-before n k None es v lt e = e
  insert-before n k (Some w) es v lt e = rw (sym (nat_cmp_is n k Less lt)) refl

  insert-behind : (n k : ℕ) (o : Option V) (es : List (ℕ × V)) (v : V) → k < n →
      insert_entry nat_cmp (with_slot k o es) n v ≡ with_slot k o (insert_entry nat_cmp es n v)
  insert-behind n k None es v lt = refl
  insert-behind n k (Some w) es v lt = rw (sym (nat_cmp_is n k Greater lt)) refl

  -- a number below all slots

  lookup-below : (n : ℕ) (ss : List (ℕ × Option V)) → AreAbove n (keys_of ss) → lookup (is_at (nat_cmp n)) (present ss) ≡ None
  lookup-below n [] h = refl
  lookup-below n (s ∷ ss) h = lookup-before n s.0 s.1 (present ss) h.0 ∙ lookup-below n ss h.1

  remove-below : (n : ℕ) (ss : List (ℕ × Option V)) → AreAbove n (keys_of ss) → remove_entry (is_at (nat_cmp n)) (present ss) ≡ present ss
  remove-below n [] h = refl
  remove-below n (s ∷ ss) h = remove-before n s.0 s.1 (present ss) h.0 ∙ ap (with_slot s.0 s.1) (remove-below n ss h.1)

  insert-below : (n : ℕ) (ss : List (ℕ × Option V)) (v : V) → AreAbove n (keys_of ss) →
      insert_entry nat_cmp (present ss) n v ≡ (n, v) ∷ present ss
  insert-below n [] v h = refl
  insert-below n (s ∷ ss) v h = insert-before n s.0 s.1 (present ss) v h.0 (insert-below n ss v h.1)

  -- the slot of a number, or the room for one

  lookup-here : (n : ℕ) (o : Option V) (es : List (ℕ × V)) → lookup (is_at (nat_cmp n)) es ≡ None →
      lookup (is_at (nat_cmp n)) (with_slot n o es) ≡ o
  lookup-here n None es e = e
  lookup-here n (Some v) es e = rw (same n) refl

  remove-here : (n : ℕ) (o : Option V) (es : List (ℕ × V)) → remove_entry (is_at (nat_cmp n)) es ≡ es →
      remove_entry (is_at (nat_cmp n)) (with_slot n o es) ≡ es
  remove-here n None es e = e
  remove-here n (Some v) es e = rw (same n) refl

  insert-here : (n : ℕ) (o : Option V) (es : List (ℕ × V)) (v : V) → insert_entry nat_cmp es n v ≡ (n, v) ∷ es →
      insert_entry nat_cmp (with_slot n o es) n v ≡ (n, v) ∷ es
  insert-here n None es v e = e
  insert-here n (Some w) es v e = rw (same n) refl

  set-here : (n : ℕ) (o : Option V) (es : List (ℕ × V)) (w : V) → is_some o ≡ true →
      set_value (is_at (nat_cmp n)) (with_slot n o es) w ≡ (n, w) ∷ es
  set-here n None es w e = absurd (false≢true e)
  set-here n (Some v) es w e = rw (same n) refl

  pub lookup-found : (n : ℕ) (ss : List (ℕ × Option V)) (i : ℕ) → IsSlotOf n ss i → AreRising ss →
      lookup (is_at (nat_cmp n)) (present ss) ≡ slot_at ss i
  lookup-found n [] i h r = absurd h
  lookup-found n (s ∷ ss) zero h r = subst (λ (k : ℕ). lookup (is_at (nat_cmp k)) (present (s ∷ ss)) ≡ s.1) h
      (lookup-here s.0 s.1 (present ss) (lookup-below s.0 ss (above_head s.0 (keys_of ss) r)))
  lookup-found n (s ∷ ss) (suc i) h r = lookup-behind n s.0 s.1 (present ss) h.0
      ∙ lookup-found n ss i h.1 (sorted_tail nat_cmp s.0 (keys_of ss) r)

  pub lookup-absent : (n : ℕ) (ss : List (ℕ × Option V)) (i : ℕ) → IsRoomFor n ss i → lookup (is_at (nat_cmp n)) (present ss) ≡ None
  lookup-absent n ss zero h = lookup-below n ss h
  lookup-absent n [] (suc i) h = absurd h
  lookup-absent n (s ∷ ss) (suc i) h = lookup-behind n s.0 s.1 (present ss) h.0 ∙ lookup-absent n ss i h.1

  pub remove-found : (n : ℕ) (ss : List (ℕ × Option V)) (i : ℕ) → IsSlotOf n ss i → AreRising ss →
      present (put_slot ss i None) ≡ remove_entry (is_at (nat_cmp n)) (present ss)
  remove-found n [] i h r = absurd h
  remove-found n (s ∷ ss) zero h r = subst (λ (k : ℕ). present ss ≡ remove_entry (is_at (nat_cmp k)) (present (s ∷ ss))) h
      (sym (remove-here s.0 s.1 (present ss) (remove-below s.0 ss (above_head s.0 (keys_of ss) r))))
  remove-found n (s ∷ ss) (suc i) h r = ap (with_slot s.0 s.1) (remove-found n ss i h.1 (sorted_tail nat_cmp s.0 (keys_of ss) r))
      ∙ sym (remove-behind n s.0 s.1 (present ss) h.0)

  pub remove-absent : (n : ℕ) (ss : List (ℕ × Option V)) (i : ℕ) → IsRoomFor n ss i →
      remove_entry (is_at (nat_cmp n)) (present ss) ≡ present ss
  remove-absent n ss zero h = remove-below n ss h
  remove-absent n [] (suc i) h = absurd h
  remove-absent n (s ∷ ss) (suc i) h = remove-behind n s.0 s.1 (present ss) h.0 ∙ ap (with_slot s.0 s.1) (remove-absent n ss i h.1)

  pub insert-found : (n : ℕ) (ss : List (ℕ × Option V)) (i : ℕ) (v : V) → IsSlotOf n ss i → AreRising ss →
      present (put_slot ss i (Some v)) ≡ insert_entry nat_cmp (present ss) n v
  insert-found n [] i v h r = absurd h
  insert-found n (s ∷ ss) zero v h r = subst (λ (k : ℕ). (s.0, v) ∷ present ss ≡ insert_entry nat_cmp (present (s ∷ ss)) k v) h
      (sym (insert-here s.0 s.1 (present ss) v (insert-below s.0 ss v (above_head s.0 (keys_of ss) r))))
  insert-found n (s ∷ ss) (suc i) v h r = ap (with_slot s.0 s.1) (insert-found n ss i v h.1 (sorted_tail nat_cmp s.0 (keys_of ss) r))
      ∙ sym (insert-behind n s.0 s.1 (present ss) v h.0)

  pub insert-absent : (n : ℕ) (ss : List (ℕ × Option V)) (i : ℕ) (v : V) → IsRoomFor n ss i →
      present (insert ss i (n, Some v)) ≡ insert_entry nat_cmp (present ss) n v
  insert-absent n ss zero v h = sym (insert-below n ss v h)
  insert-absent n [] (suc i) v h = absurd h
  insert-absent n (s ∷ ss) (suc i) v h = ap (with_slot s.0 s.1) (insert-absent n ss i v h.1)
      ∙ sym (insert-behind n s.0 s.1 (present ss) v h.0)

  pub set-found : (n : ℕ) (ss : List (ℕ × Option V)) (i : ℕ) (w : V) → IsSlotOf n ss i → is_some (slot_at ss i) ≡ true →
      present (put_slot ss i (Some w)) ≡ set_value (is_at (nat_cmp n)) (present ss) w
  set-found n [] i w h t = absurd h
  set-found n (s ∷ ss) zero w h t = subst (λ (k : ℕ). (s.0, w) ∷ present ss ≡ set_value (is_at (nat_cmp k)) (present (s ∷ ss)) w) h
      (sym (set-here s.0 s.1 (present ss) w t))
  set-found n (s ∷ ss) (suc i) w h t = ap (with_slot s.0 s.1) (set-found n ss i w h.1 t) ∙ sym (set-behind n s.0 s.1 (present ss) w h.0)

  -- the slots' numbers

  pub keys-put : (ss : List (ℕ × Option V)) (i : ℕ) (o : Option V) → keys_of (put_slot ss i o) ≡ keys_of ss
  keys-put [] i o = refl
  keys-put (s ∷ ss) zero o = refl
  keys-put (s ∷ ss) (suc i) o = ap (λ (ks : List ℕ). s.0 ∷ ks) (keys-put ss i o)

  pub rising-put : (ss : List (ℕ × Option V)) (i : ℕ) (o : Option V) → AreRising ss → AreRising (put_slot ss i o)
  rising-put ss i o r = subst (IsStrictlySortedBy nat_cmp) (sym (keys-put ss i o)) r

  above-insert : (m n : ℕ) (ss : List (ℕ × Option V)) (i : ℕ) (o : Option V) → m < n → AreAbove m (keys_of ss) →
      AreAbove m (keys_of (insert ss i (n, o)))
  above-insert m n ss zero o lt h = (lt, h)
  above-insert m n [] (suc i) o lt h = (lt, tt)
  above-insert m n (s ∷ ss) (suc i) o lt h = (h.0, above-insert m n ss i o lt h.1)

  pub rising-insert : (n : ℕ) (ss : List (ℕ × Option V)) (i : ℕ) (o : Option V) → IsRoomFor n ss i → AreRising ss →
      AreRising (insert ss i (n, o))
  rising-insert n ss zero o h r = sorted_cons n (keys_of ss) h r
  rising-insert n [] (suc i) o h r = absurd h
  rising-insert n (s ∷ ss) (suc i) o h r = sorted_cons s.0 (keys_of (insert ss i (n, o)))
      (above-insert s.0 n ss i o h.0 (above_head s.0 (keys_of ss) r)) (rising-insert n ss i o h.1 (sorted_tail nat_cmp s.0 (keys_of ss) r))

  above-slot : (m k : ℕ) (o : Option V) (es : List (ℕ × V)) → m < k → AreAbove m (keys_of es) → AreAbove m (keys_of (with_slot k o es))
  above-slot m k None es lt h = h
  above-slot m k (Some v) es lt h = (lt, h)

  above-present : (m : ℕ) (ss : List (ℕ × Option V)) → AreAbove m (keys_of ss) → AreAbove m (keys_of (present ss))
  above-present m [] h = tt
  above-present m (s ∷ ss) h = above-slot m s.0 s.1 (present ss) h.0 (above-present m ss h.1)

  rising-slot : (k : ℕ) (o : Option V) (es : List (ℕ × V)) → AreAbove k (keys_of es) → IsStrictlySortedBy nat_cmp (keys_of es) →
      IsStrictlySortedBy nat_cmp (keys_of (with_slot k o es))
  rising-slot k None es a r = r
  rising-slot k (Some v) es a r = sorted_cons k (keys_of es) a r

  pub rising-present : (ss : List (ℕ × Option V)) → AreRising ss → IsStrictlySortedBy nat_cmp (keys_of (present ss))
  rising-present [] r = r
  rising-present (s ∷ ss) r = rising-slot s.0 s.1 (present ss) (above-present s.0 ss (above_head s.0 (keys_of ss) r))
      (rising-present ss (sorted_tail nat_cmp s.0 (keys_of ss) r))

  -- how many there are

  abbrev pub one : Option V → ℕ
  one None = 0
  one (Some v) = 1

  length-slot : (k : ℕ) (o : Option V) (es : List (ℕ × V)) → length (with_slot k o es) ≡ length es + one o
  length-slot k None es = omega arith
  length-slot k (Some v) es = omega arith

  pub length-put : (n : ℕ) (ss : List (ℕ × Option V)) (i : ℕ) (o : Option V) → IsSlotOf n ss i →
      length (present (put_slot ss i o)) + one (slot_at ss i) ≡ length (present ss) + one o
  length-put n [] i o h = absurd h
  length-put n (s ∷ ss) zero o h = omega (arith, length-slot s.0 s.1 (present ss), length-slot s.0 o (present ss))
  length-put n (s ∷ ss) (suc i) o h = omega
      (arith, length-slot s.0 s.1 (present ss), length-slot s.0 s.1 (present (put_slot ss i o)), length-put n ss i o h.1)

  pub length-new : (n : ℕ) (ss : List (ℕ × Option V)) (i : ℕ) (v : V) → IsRoomFor n ss i →
      length (present (insert ss i (n, Some v))) ≡ length (present ss) + 1
  length-new n ss zero v h = omega arith
  length-new n [] (suc i) v h = absurd h
  length-new n (s ∷ ss) (suc i) v h = omega
      (arith, length-slot s.0 s.1 (present ss), length-slot s.0 s.1 (present (insert ss i (n, Some v))), length-new n ss i v h.1)

  one_le : (o : Option V) → one o ≤ 1
  one_le None = omega arith
  one_le (Some v) = omega arith

  pub length-le : (ss : List (ℕ × Option V)) → length (present ss) ≤ length ss
  length-le [] = omega arith
  length-le (s ∷ ss) = omega (arith, length-slot s.0 s.1 (present ss), length-le ss, one_le s.1)

  -- a slot that is written in place

  pub within : (n : ℕ) (ss : List (ℕ × Option V)) (i : ℕ) → IsSlotOf n ss i → i < length ss
  within n [] i h = absurd h
  within n (s ∷ ss) zero h = omega arith
  within n (s ∷ ss) (suc i) h = omega (arith, within n ss i h.1)

  pub room_within : (n : ℕ) (ss : List (ℕ × Option V)) (i : ℕ) → IsRoomFor n ss i → i ≤ length ss
  room_within n ss zero h = omega arith
  room_within n [] (suc i) h = absurd h
  room_within n (s ∷ ss) (suc i) h = omega (arith, room_within n ss i h.1)

  pub set-put : (ss : List (ℕ × Option V)) (i : ℕ) (item : ℕ × Option V) (o : Option V) → i < length ss → item ≡ get_or ss i item →
      set ss i (item.0, o) ≡ put_slot ss i o
  set-put [] i item o lt e = absurd (omega arith)
  set-put (s ∷ ss) zero item o lt e = ap (λ (k : ℕ). (k, o) ∷ ss) (ap (λ (x : ℕ × Option V). x.0) e)
  set-put (s ∷ ss) (suc i) item o lt e = ap (λ (l : List (ℕ × Option V)). s ∷ l) (set-put ss i item o (omega arith) e)

  pub slot_is : (ss : List (ℕ × Option V)) (i : ℕ) (item : ℕ × Option V) → i < length ss → item ≡ get_or ss i item → item.1 ≡ slot_at ss i
  slot_is [] i item lt e = absurd (omega arith)
  slot_is (s ∷ ss) zero item lt e = ap (λ (x : ℕ × Option V). x.1) e
  slot_is (s ∷ ss) (suc i) item lt e = slot_is ss i item (omega arith) e

  -- a number that was met at a place, and one that would stand between two

  pub found_at : (n : ℕ) (ss : List (ℕ × Option V)) (i : ℕ) (item : ℕ × Option V) → AreRising ss → i < length ss →
      item ≡ get_or ss i item → item.0 ≡ n → IsSlotOf n ss i
  found_at n [] i item r lt e h = absurd (omega arith)
  found_at n (s ∷ ss) zero item r lt e h = sym (ap (λ (x : ℕ × Option V). x.0) e) ∙ h
  found_at n (s ∷ ss) (suc i) item r lt e h = (below, found_at n ss i item (sorted_tail nat_cmp s.0 (keys_of ss) r) (omega arith) e h)
    where
      rest : (xs : List (ℕ × Option V)) (j : ℕ) → AreAbove s.0 (keys_of xs) → j < length xs → item ≡ get_or xs j item → s.0 < item.0
      rest [] j a l f = absurd (omega arith)
      rest (x ∷ xs) zero a l f = subst (λ (k : ℕ). s.0 < k) (sym (ap (λ (y : ℕ × Option V). y.0) f)) a.0
      rest (x ∷ xs) (suc j) a l f = rest xs j a.1 (omega arith) f

      below : s.0 < n
      below = subst (λ (k : ℕ). s.0 < k) h (rest ss i (above_head s.0 (keys_of ss) r) (omega arith) e)

  -- the number that is met at a place
  pub key_is : (ss : List (ℕ × Option V)) (i : ℕ) (item : ℕ × Option V) → i < length ss → item ≡ get_or ss i item →
      item.0 ≡ get_or (keys_of ss) i 0
  key_is [] i item lt e = absurd (omega arith)
  key_is (s ∷ ss) zero item lt e = ap (λ (x : ℕ × Option V). x.0) e
  key_is (s ∷ ss) (suc i) item lt e = key_is ss i item (omega arith) e

  pub length-keys : (ss : List (ℕ × Option V)) → length (keys_of ss) ≡ length ss
  length-keys [] = refl
  length-keys (s ∷ ss) = ap suc (length-keys ss)

  pub room_at : (n : ℕ) (ss : List (ℕ × Option V)) (i : ℕ) → i ≤ length ss → ((j : ℕ) → j < i → get_or (keys_of ss) j 0 < n) →
      ((j : ℕ) → i ≤ j → j < length ss → n < get_or (keys_of ss) j 0) → IsRoomFor n ss i
  room_at n ss zero le b a = all_above n (keys_of ss) (λ j lt. a j (omega arith) (omega (arith, length-keys ss)))
  room_at n [] (suc i) le b a = absurd (omega arith)
  room_at n (s ∷ ss) (suc i) le b a = (
    b 0 (omega arith),
    room_at n ss i (omega arith) (λ j lt. b (suc j) (omega arith))
        (λ j le2 lt. a (suc j) (omega arith) (omega arith)),
  )

  -- the entries from a place on

  drop-slot : (ss : List (ℕ × Option V)) (i : ℕ) (item : ℕ × Option V) → i < length ss → item ≡ get_or ss i item →
      present (drop i ss) ≡ with_slot item.0 item.1 (present (drop (suc i) ss))
  drop-slot [] i item lt e = absurd (omega arith)
  drop-slot (s ∷ ss) zero item lt e = ap (λ (x : ℕ × Option V). with_slot x.0 x.1 (present ss)) (sym e)
  drop-slot (s ∷ ss) (suc i) item lt e = drop-slot ss i item (omega arith) e

  pub drop-item : (ss : List (ℕ × Option V)) (i : ℕ) (item : ℕ × Option V) → i < length ss → item ≡ get_or ss i item →
      present (drop i ss) ≡ with_slot item.0 item.1 (present (drop (i + 1) ss))
  drop-item ss i item lt e = (let one : suc i ≡ i + 1 = omega arith in drop-slot ss i item lt e
      ∙ ap (λ k. with_slot item.0 item.1 (present (drop k ss))) one)

  pub drop-past : (ss : List (ℕ × Option V)) (i : ℕ) → length ss ≤ i → present (drop i ss) ≡ []
  drop-past [] zero le = refl
  drop-past [] (suc i) le = refl
  drop-past (s ∷ ss) zero le = absurd (omega arith)
  drop-past (s ∷ ss) (suc i) le = drop-past ss i (omega arith)

  -- without gaps

  abbrev pub no_gap : ℕ × Option V → Bool
  no_gap s = is_some s.1

  present-slot : (k : ℕ) (o : Option V) (ss : List (ℕ × Option V)) →
      present (cond (is_some o) ((k, o) ∷ ss) ss) ≡ with_slot k o (present ss)
  present-slot k None ss = refl
  present-slot k (Some v) ss = refl

  pub present-closed : (ss : List (ℕ × Option V)) → present (filter no_gap ss) ≡ present ss
  present-closed [] = refl
  present-closed (s ∷ ss) = present-slot s.0 s.1 (filter no_gap ss) ∙ ap (with_slot s.0 s.1) (present-closed ss)

  above-closed : (m : ℕ) (ss : List (ℕ × Option V)) → AreAbove m (keys_of ss) → AreAbove m (keys_of (filter no_gap ss))
  above-closed m [] h = tt
  above-closed m (s ∷ ss) h = elim (no_gap s) as (λ b. AreAbove m (keys_of (cond b (s ∷ filter no_gap ss) (filter no_gap ss)))) [
    | true ↦ (h.0, above-closed m ss h.1)
    | false ↦ above-closed m ss h.1
  ]

  pub rising-closed : (ss : List (ℕ × Option V)) → AreRising ss → AreRising (filter no_gap ss)
  rising-closed [] r = r
  rising-closed (s ∷ ss) r =
      let rest = rising-closed ss (sorted_tail nat_cmp s.0 (keys_of ss) r) in
      elim (no_gap s) as (λ b. AreRising (cond b (s ∷ filter no_gap ss) (filter no_gap ss))) [
        | true ↦ sorted_cons s.0 (keys_of (filter no_gap ss)) (above-closed s.0 ss (above_head s.0 (keys_of ss) r)) rest
        | false ↦ rest
      ]

  -- the entries above a number

  abbrev pub is_above : ℕ → ℕ × V → Bool
  is_above n e = nat_lt n e.0

  filter-above : (n k : ℕ) (o : Option V) (es : List (ℕ × V)) → n < k →
      filter (is_above n) (with_slot k o es) ≡ with_slot k o (filter (is_above n) es)
  filter-above n k None es lt = refl
  filter-above n k (Some v) es lt = (let yes : nat_lt n k ≡ true = grind (arith, nat_tests) in rw yes refl)

  filter-below : (n k : ℕ) (o : Option V) (es : List (ℕ × V)) → k ≤ n → filter (is_above n) (with_slot k o es) ≡ filter (is_above n) es
  filter-below n k None es le = refl
  filter-below n k (Some v) es le = (let no : nat_lt n k ≡ false = grind (arith, nat_tests) in rw no refl)

  filter-all : (n : ℕ) (ss : List (ℕ × Option V)) → AreAbove n (keys_of ss) → filter (is_above n) (present ss) ≡ present ss
  filter-all n [] h = refl
  filter-all n (s ∷ ss) h = filter-above n s.0 s.1 (present ss) h.0 ∙ ap (with_slot s.0 s.1) (filter-all n ss h.1)

  pub above-found : (n : ℕ) (ss : List (ℕ × Option V)) (i : ℕ) → IsSlotOf n ss i → AreRising ss →
      filter (is_above n) (present ss) ≡ present (drop (suc i) ss)
  above-found n [] i h r = absurd h
  above-found n (s ∷ ss) zero h r = filter-below n s.0 s.1 (present ss) (omega (arith, h))
      ∙ filter-all n ss (subst (λ (k : ℕ). AreAbove k (keys_of ss)) h (above_head s.0 (keys_of ss) r))
  above-found n (s ∷ ss) (suc i) h r = filter-below n s.0 s.1 (present ss) (omega (arith, h.0))
      ∙ above-found n ss i h.1 (sorted_tail nat_cmp s.0 (keys_of ss) r)

  pub above-absent : (n : ℕ) (ss : List (ℕ × Option V)) (i : ℕ) → IsRoomFor n ss i → filter (is_above n) (present ss) ≡ present (drop i ss)
  above-absent n ss zero h = filter-all n ss h
  above-absent n [] (suc i) h = absurd h
  above-absent n (s ∷ ss) (suc i) h = filter-below n s.0 s.1 (present ss) (omega (arith, h.0)) ∙ above-absent n ss i h.1

  -- entries without gaps, as slots

  abbrev pub slots_of : List (ℕ × V) → List (ℕ × Option V)
  slots_of es = map (λ e. (e.0, Some e.1)) es

  pub present-slots : (es : List (ℕ × V)) → present (slots_of es) ≡ es
  present-slots [] = refl
  present-slots (e ∷ es) = ap (λ (l : List (ℕ × V)). e ∷ l) (present-slots es)

  pub keys-slots : (es : List (ℕ × V)) → keys_of (slots_of es) ≡ keys_of es
  keys-slots [] = refl
  keys-slots (e ∷ es) = ap (λ (ks : List ℕ). e.0 ∷ ks) (keys-slots es)

-- numbers by their places

pub at_least : (ks : List ℕ) (j : ℕ) → IsStrictlySortedBy nat_cmp ks → j < length ks → get_or ks 0 0 + j ≤ get_or ks j 0
at_least ks zero r lt = omega arith
at_least ks (suc j) r lt = omega (arith, at_least ks j r (omega arith), below_from_sorted ks j (suc j) 0 r (omega arith) lt)

pub all_below : (ks : List ℕ) (m n : ℕ) → IsStrictlySortedBy nat_cmp ks → m < length ks → get_or ks m 0 < n → (j : ℕ) → j < m + 1 →
    get_or ks j 0 < n
all_below ks m n r lt below j before = elim (cases_lt j m) [
  | inl less ↦ omega (arith, below_from_sorted ks j m 0 r less lt)
  | inr ge ↦ (let here : m ≡ j = omega arith in subst (λ (k : ℕ). get_or ks k 0 < n) here below)
]

pub all_behind : (ks : List ℕ) (m n : ℕ) → IsStrictlySortedBy nat_cmp ks → n < get_or ks m 0 → (j : ℕ) → m ≤ j → j < length ks →
    n < get_or ks j 0
all_behind ks m n r above j from lt = elim (cases_lt m j) [
  | inl less ↦ omega (arith, below_from_sorted ks m j 0 r less lt)
  | inr ge ↦ (let here : m ≡ j = omega arith in subst (λ (k : ℕ). n < get_or ks k 0) here above)
]

pub no_slots : (V : Type 0) → AreRising {V = V} []
unfolding IsStrictlySortedBy
no_slots V = tt

module _ {V : Type 0} where
  pub none-is : (o : Option V) → is_some o ≡ false → o ≡ None
  none-is None e = refl
  none-is (Some v) e = absurd (false≢true (sym e))

  -- what is looked up and taken out at the first entry
  pub lookup-first : (n : ℕ) (v : V) (es : List (ℕ × V)) → lookup (is_at (nat_cmp n)) ((n, v) ∷ es) ≡ Some v
  lookup-first n v es = rw (same n) refl

  pub remove-first : (n : ℕ) (v : V) (es : List (ℕ × V)) → remove_entry (is_at (nat_cmp n)) ((n, v) ∷ es) ≡ es
  remove-first n v es = rw (same n) refl

  -- gaps at the front

  gap_before : (k : ℕ) (o : Option V) (es : List (ℕ × V)) → with_slot k o es ≡ [] → (o ≡ None) × (es ≡ [])
  gap_before k None es h = (refl, h)
  gap_before k (Some v) es h = absurd (omega (arith, ap length h))

  gap_slot : (k : ℕ) (o : Option V) (es : List (ℕ × V)) → o ≡ None → es ≡ [] → with_slot k o es ≡ []
  gap_slot k o es h e = rw (h, e) refl

  none_at : (i : ℕ) → StartsWithGaps {V = V} i []
  none_at zero = refl
  none_at (suc i) = refl

  -- the entries are those behind the gaps
  pub gaps-drop : (ss : List (ℕ × Option V)) (i : ℕ) → StartsWithGaps i ss → present (drop i ss) ≡ present ss
  gaps-drop ss zero h = refl
  gaps-drop [] (suc i) h = refl
  gaps-drop (s ∷ ss) (suc i) h =
      let g = gap_before s.0 s.1 (present (take i ss)) h in
      gaps-drop ss i g.1 ∙ rw g.0 refl

  -- one gap more
  pub gaps-next : (ss : List (ℕ × Option V)) (i : ℕ) → StartsWithGaps i ss → slot_at ss i ≡ None → StartsWithGaps (suc i) ss
  gaps-next [] i h e = refl
  gaps-next (s ∷ ss) zero h e = rw e refl
  gaps-next (s ∷ ss) (suc i) h e =
      let g = gap_before s.0 s.1 (present (take i ss)) h in
      gap_slot s.0 s.1 (present (take (suc i) ss)) g.0 (gaps-next ss i g.1 e)

  -- fewer gaps
  pub gaps-less : (ss : List (ℕ × Option V)) (i j : ℕ) → j ≤ i → StartsWithGaps i ss → StartsWithGaps j ss
  gaps-less ss i zero le h = refl
  gaps-less [] i (suc j) le h = refl
  gaps-less (s ∷ ss) zero (suc j) le h = absurd (omega arith)
  gaps-less (s ∷ ss) (suc i) (suc j) le h =
      let g = gap_before s.0 s.1 (present (take i ss)) h in
      gap_slot s.0 s.1 (present (take j ss)) g.0 (gaps-less ss i j (omega arith) g.1)

  -- a slot behind them is written, made, or emptied
  pub gaps-put : (ss : List (ℕ × Option V)) (i j : ℕ) (o : Option V) → i ≤ j → StartsWithGaps i ss → StartsWithGaps i (put_slot ss j o)
  gaps-put ss zero j o le h = refl
  gaps-put [] (suc i) j o le h = refl
  gaps-put (s ∷ ss) (suc i) zero o le h = absurd (omega arith)
  gaps-put (s ∷ ss) (suc i) (suc j) o le h =
      let g = gap_before s.0 s.1 (present (take i ss)) h in
      gap_slot s.0 s.1 (present (take i (put_slot ss j o))) g.0 (gaps-put ss i j o (omega arith) g.1)

  pub gaps-insert : (ss : List (ℕ × Option V)) (i j : ℕ) (x : ℕ × Option V) → i ≤ j → j ≤ length ss → StartsWithGaps i ss →
      StartsWithGaps i (insert ss j x)
  gaps-insert ss zero j x le in_list h = refl
  gaps-insert ss (suc i) zero x le in_list h = absurd (omega arith)
  gaps-insert [] (suc i) (suc j) x le in_list h = absurd (omega arith)
  gaps-insert (s ∷ ss) (suc i) (suc j) x le in_list h =
      let g = gap_before s.0 s.1 (present (take i ss)) h in
      gap_slot s.0 s.1 (present (take i (insert ss j x))) g.0 (gaps-insert ss i j x (omega arith) (omega arith) g.1)

  -- any slot is emptied
  pub gaps-take : (ss : List (ℕ × Option V)) (i j : ℕ) → StartsWithGaps i ss → StartsWithGaps i (put_slot ss j None)
  gaps-take ss zero j h = refl
  gaps-take [] (suc i) j h = refl
  gaps-take (s ∷ ss) (suc i) zero h = (gap_before s.0 s.1 (present (take i ss)) h).1
  gaps-take (s ∷ ss) (suc i) (suc j) h =
      let g = gap_before s.0 s.1 (present (take i ss)) h in
      gap_slot s.0 s.1 (present (take i (put_slot ss j None))) g.0 (gaps-take ss i j g.1)

  -- a slot with a value is written
  pub gaps-write : (ss : List (ℕ × Option V)) (i j : ℕ) (v w : V) → slot_at ss j ≡ Some v → StartsWithGaps i ss →
      StartsWithGaps i (put_slot ss j (Some w))
  gaps-write ss zero j v w e h = refl
  gaps-write [] (suc i) j v w e h = refl
  gaps-write (s ∷ ss) (suc i) zero v w e h =
      let g = gap_before s.0 s.1 (present (take i ss)) h in
      absurd (omega (arith, ap one (sym e ∙ g.0)))
  gaps-write (s ∷ ss) (suc i) (suc j) v w e h =
      let g = gap_before s.0 s.1 (present (take i ss)) h in
      gap_slot s.0 s.1 (present (take i (put_slot ss j (Some w)))) g.0 (gaps-write ss i j v w e g.1)

  -- the slot behind the gaps is emptied
  pub gaps-pop : (ss : List (ℕ × Option V)) (i : ℕ) → StartsWithGaps i ss → StartsWithGaps (suc i) (put_slot ss i None)
  gaps-pop [] i h = refl
  gaps-pop (s ∷ ss) zero h = refl
  gaps-pop (s ∷ ss) (suc i) h =
      let g = gap_before s.0 s.1 (present (take i ss)) h in
      gap_slot s.0 s.1 (present (take (suc i) (put_slot ss i None))) g.0 (gaps-pop ss i g.1)

  pub present-pop : (ss : List (ℕ × Option V)) (i : ℕ) → StartsWithGaps i ss → present (put_slot ss i None) ≡ present (drop (suc i) ss)
  present-pop [] i h = refl
  present-pop (s ∷ ss) zero h = refl
  present-pop (s ∷ ss) (suc i) h =
      let g = gap_before s.0 s.1 (present (take i ss)) h in
      rw g.0 (present-pop ss i g.1)

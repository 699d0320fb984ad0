-- What each call makes of a ring.
use Rattle.std.proofs.Common.{◌≡◌, ◌≢◌, ℕ, zero, suc, ◌+◌, ◌-◌, ◌%◌, ◌<◌, ◌≤◌, Bool, true, false, cond, List, [], ◌∷◌, ◌++◌, length, drop, get_or, set, max, replicate, Option, Some, None, slice_get, IsSome, refl, sym, ap, subst, ◌∙◌, inl, inr, arith}
use Rattle.std.specs.Prelude.{nat_eq, nat_lt}
use Rattle.std.specs.Map.{keys_of}
use Rattle.std.proofs.lemmas.Bool.{cases_lt}
use Rattle.std.proofs.lemmas.Bool.Decides.{nat_tests}
use Rattle.std.proofs.lemmas.List.{get_or-set_other, get_or-set_same, drop-append-le, length-set}
use Rattle.std.proofs.lemmas.Nat.{mod_below}
use Rattle.std.proofs.lemmas.Option.{slice_get_past}
use Rattle.th_model.specs.Limits.{IsCapacity}
use Rattle.th_model.specs.Handles.{IsRising}
use Rattle.th_model.specs.Places.{Places, ArePlaces, place_of, with_place, without_place, low_of, to_come}
use Rattle.th_model.specs.Window.{Window, IsWindow, fresh, trimmed, pushed, placed, left, value_at}
use Rattle.th_model.proofs.PlaceLemmas.{low_of-le, low_of-with, low_of-without, low_of-push, low_of-at, places-with, places-without, places-more, all-at}
use Rattle.th_model.proofs.WindowLemmas.{slice_get-some}
use Rattle.th_ring.specs.declared.slot.Slot.{Slot}
use Rattle.th_ring.specs.Slot.{vacant, less_one, more_one, IsSlot}
use Rattle.th_ring.specs.Ring.{IsRing, ring_window, slot_at, values_from, filled_slot}
use Rattle.th_ring.proofs.Counts.{one, one_yes, one_no, counted, all_to_come, to_come-moved, to_come-joined, to_come-left, to_come-le, awaited, low-awaited, nobody-before, low_of-ge}
use Rattle.th_ring.proofs.Values.{AreThere, length-values_from, values-same, values-drop, values-snoc, values-get, values-are, apart_bits}

module _ {T : Type 0} where
  -- as many wait, by another name
  pub same-slot : (n m : ℕ) (s s' : Slot T) → n ≡ m → s' ≡ s → IsSlot n s → IsSlot m s'
  same-slot n m s s' e f h = subst (λ k. IsSlot k s') e (subst (IsSlot n) (sym f) h)

  -- one less
  pub less-slot : (n m : ℕ) (s : Slot T) → m + 1 ≡ n → IsSlot n s → IsSlot m (less_one s)
  less-slot n m s e h = split (nat_eq s.to_come 1) refl
    where
      split : (b : Bool) → nat_eq s.to_come 1 ≡ b → IsSlot m (cond b vacant (record { value = s.value; to_come = s.to_come - 1 }))
      split true t = (let last : s.to_come ≡ 1 = grind (arith, nat_tests) in
          record { count = omega (arith, h.count); kept = λ lt. absurd (omega (arith, h.count)); freed = λ _. refl })
      split false t = (let more : s.to_come ≢ 1 = grind (arith, nat_tests) in
          record { count = omega (arith, h.count); kept = λ lt. h.kept (omega arith); freed = λ z. absurd (more (omega (arith, h.count))) })

  -- the value stays where others have still to read it
  pub less-value : (s : Slot T) → 1 < s.to_come → (less_one s).value ≡ s.value
  less-value s lt = (let no : nat_eq s.to_come 1 ≡ false = grind (arith, nat_tests) in rw no refl)

  pub empty_slot : IsSlot {T = T} 0 vacant
  empty_slot = record { count = refl; kept = λ lt. absurd (omega arith); freed = λ _. refl }

  pub get_or-replicate : (n i : ℕ) (d : Slot T) → get_or (replicate n d) i d ≡ d
  get_or-replicate zero i d = refl
  get_or-replicate (suc n) zero d = refl
  get_or-replicate (suc n) (suc i) d = get_or-replicate n i d

  pub length-replicate : (n : ℕ) (d : Slot T) → length (replicate n d) ≡ n
  length-replicate zero d = refl
  length-replicate (suc n) d = ap suc (length-replicate n d)

  -- new slots
  pub new_ring : (c n : ℕ) (slots : List (Slot T)) → IsCapacity c → slots ≡ replicate c vacant → IsRing c n slots []
  new_ring c n slots h e = record {
    is_capacity = h;
    size = ap length e ∙ length-replicate c vacant;
    places_in = tt;
    counted = λ i _ _. subst (IsSlot 0) (sym (ap (λ xs. get_or xs (i % c) vacant) e ∙ get_or-replicate c (i % c) vacant)) empty_slot;
    unused = λ i _ _. subst (IsSlot 0) (sym (ap (λ xs. get_or xs (i % c) vacant) e ∙ get_or-replicate c (i % c) vacant)) empty_slot;
  }

  pub new_window : (c c' n : ℕ) (slots : List (Slot T)) → c ≡ c' → ring_window c n slots [] ≡ fresh c' n
  unfolding low_of values_from
  new_window c c' n slots e =
      let low : max (n - c') n ≡ n = omega arith in
      let none : n - max (n - c') n ≡ 0 = omega arith in
      let kept = ap (values_from slots c' (max (n - c') n)) none in
      ap (λ k. ring_window k n slots []) e ∙ (λ i. record { capacity = c'; tail = n; low = low i; kept = kept i; places = [] })

  get_or-default : (xs : List (Slot T)) (i : ℕ) (d e : Slot T) → i < length xs → get_or xs i d ≡ get_or xs i e
  get_or-default [] i d e lt = absurd (omega arith)
  get_or-default (x ∷ xs) zero d e lt = refl
  get_or-default (x ∷ xs) (suc i) d e lt = get_or-default xs i d e (omega arith)

  module _ (c : ℕ) (slots : List (Slot T)) (size : length slots ≡ c) (some : 0 < c) (i at : ℕ)
      (e : at ≡ i % c) where
    -- the slot that code reads at the low bits of a position
    pub slot_is : (item : Slot T) → item ≡ get_or slots at item → item ≡ slot_at slots c i
    slot_is item h = h ∙ get_or-default slots at item vacant (omega (arith, e, size, mod_below i c some))
        ∙ ap (λ k. get_or slots k vacant) e

    -- the slots after a write there
    pub slots_are : (item new : Slot T) → item ≡ get_or slots at item → new ≡ less_one item
        → set slots at new ≡ set slots (i % c) (less_one (slot_at slots c i))
    slots_are item new h l = ap (λ k. set slots k new) e ∙ ap (set slots (i % c)) (l ∙ ap less_one (slot_is item h))

    written : (new : Slot T) → slot_at (set slots at new) c i ≡ new
    written new = ap (λ k. get_or (set slots k new) (i % c) vacant) e
        ∙ get_or-set_same slots (i % c) new vacant (omega (arith, size, mod_below i c some))

    not_written : (new : Slot T) (j : ℕ) → j % c ≢ i % c
        → slot_at (set slots at new) c j ≡ slot_at slots c j
    not_written new j apart = ap (λ k. get_or (set slots k new) (j % c) vacant) e
        ∙ get_or-set_other slots (i % c) (j % c) new vacant apart

  -- A loop writes the slots of one position after the other: that of i is `new i`. It has come to i.
  module _ (c first tail i at : ℕ) (slots old : List (Slot T)) (size : length slots ≡ c) (some : 0 < c)
      (from : first ≤ i) (to : i < tail) (window : tail ≤ first + c) (e : at ≡ i % c)
      (new : ℕ → Slot T) (done : (k : ℕ) → first ≤ k → k < i → slot_at slots c k ≡ new k)
      (rest : (k : ℕ) → tail ≤ k + c → k < first + c → (first ≤ k → i ≤ k)
      → slot_at slots c k ≡ slot_at old c k) where
    -- what stands there yet
    pub slot_yet : (item : Slot T) → item ≡ get_or slots at item → item ≡ slot_at old c i
    slot_yet item h = slot_is c slots size some i at e item h ∙ rest i (omega arith) (omega arith) (λ _. omega arith)

    module _ (written_now : Slot T) (is : written_now ≡ new i) where
      pub done_more : (k : ℕ) → first ≤ k → k < i + 1
          → slot_at (set slots at written_now) c k ≡ new k
      done_more k le lt = elim (cases_lt k i) [
        | inl before ↦
            not_written c slots size some i at e written_now k (apart_bits k i c before (omega arith))
            ∙ done k le before
        | inr here ↦
            (let same : k ≡ i = omega arith in
            subst (λ (j : ℕ). slot_at (set slots at written_now) c j ≡ new j) (sym same)
            (written c slots size some i at e written_now ∙ is))
      ]

      pub rest_less : (k : ℕ) → tail ≤ k + c → k < first + c → (first ≤ k → i + 1 ≤ k)
          → slot_at (set slots at written_now) c k ≡ slot_at old c k
      rest_less k a b out = elim (cases_lt k i) [
        | inl before ↦
            not_written c slots size some i at e written_now k (apart_bits k i c before (omega arith))
            ∙ rest k a b (λ le. omega (arith, out le))
        | inr after ↦ elim (cases_lt i k) [
          | inl later ↦
              not_written c slots size some i at e written_now k (λ x. apart_bits i k c later (omega arith) (sym x))
              ∙ rest k a b (λ le. omega (arith, out le))
          | inr same ↦ absurd (omega (arith, out (omega arith)))
        ]
      ]

  module _ (c n : ℕ) (slots : List (Slot T)) (ps : Places) (r : IsRing c n slots ps) where
    -- no place is past the tail
    pub place_le : (rx i : ℕ) → place_of ps rx ≡ Some i → i ≤ n
    place_le rx i here = all-at (λ k. k ≤ n) ps rx i r.places_in here

    -- each kept position has its value
    pub there : AreThere slots c (low_of n c ps) (n - low_of n c ps)
    there j le lt = (r.counted j (omega (arith, low_of-ge n c ps)) (omega (arith, low_of-le n c ps))).kept
        (awaited n c ps j le (omega (arith, low_of-le n c ps)))

    -- where no value is added, and none is lost that is still kept
    trimmed_values : (slots' : List (Slot T)) (ps' : Places) → low_of n c ps ≤ low_of n c ps' →
        ((j : ℕ) → low_of n c ps' ≤ j → j < n → (slot_at slots' c j).value ≡ (slot_at slots c j).value)
        → values_from slots' c (low_of n c ps') (n - low_of n c ps')
        ≡ drop (low_of n c ps' - low_of n c ps) (values_from slots c (low_of n c ps) (n - low_of n c ps))
    trimmed_values slots' ps' rises same =
        let low : ℕ = low_of n c ps in
        let low' : ℕ = low_of n c ps' in
        let a : low + (low' - low) ≡ low' = omega arith in
        let b : n - low - (low' - low) ≡ n - low' = omega arith in
        values-same slots' slots c low' (n - low') (λ j le lt. same j le (omega (arith, low_of-le n c ps')))
        ∙ sym (values-drop slots c low (n - low) (low' - low) there (omega (arith, low_of-le n c ps'))
        ∙ ap (λ x. values_from slots c x (n - low - (low' - low))) a ∙ ap (values_from slots c low') b)

    -- the count that code reads at the low bits of a position of the window
    pub count_at : (i at : ℕ) (item : Slot T) → at ≡ i % c → item ≡ get_or slots at item → n ≤ i + c → i < n → item.to_come ≡ to_come ps i
    count_at i at item e h a lt =
        ap (λ (s : Slot T). s.to_come) (slot_is c slots r.size r.is_capacity.1 i at e item h) ∙ (r.counted i a lt).count

    -- the value at a kept position
    pub value_kept : (i : ℕ) → low_of n c ps ≤ i → i < n →
        slice_get (values_from slots c (low_of n c ps) (n - low_of n c ps)) (i - low_of n c ps) ≡ (slot_at slots c i).value
    value_kept i le lt =
        let e : low_of n c ps + (i - low_of n c ps) ≡ i = omega arith in
        values-get slots c (low_of n c ps) (n - low_of n c ps) (i - low_of n c ps) there (omega arith)
        ∙ ap (λ k. (slot_at slots c k).value) e

    nobody_left : (i : ℕ) → n - c ≤ i → i < low_of n c ps → to_come ps i ≡ 0
    nobody_left i a below = nobody-before n c ps i a below

    -- a position of the window has in its slot what is kept there
    pub value_in : (i : ℕ) → n - c ≤ i → i < n → value_at (ring_window c n slots ps) i ≡ (slot_at slots c i).value
    value_in i a lt = elim (cases_lt i (low_of n c ps)) [
      | inl freed ↦
          (let yes : nat_lt i (low_of n c ps) ≡ true = grind (arith, nat_tests) in
          rw yes (sym ((r.counted i (omega arith) lt).freed (nobody_left i a freed))))
      | inr kept ↦ (let no : nat_lt i (low_of n c ps) ≡ false = grind (arith, nat_tests) in rw no (value_kept i kept lt))
    ]

    past : (i : ℕ) → (i < n → i < n - c) → low_of n c ps ≤ i → n ≤ i
    past i out above = elim (cases_lt i n) [ inl lt ↦ absurd (omega (arith, out lt, low_of-ge n c ps)) | inr ge ↦ ge ]

    pub value_out : (i : ℕ) → (i < n → i < n - c) → value_at (ring_window c n slots ps) i ≡ None
    value_out i out = elim (cases_lt i (low_of n c ps)) [
      | inl below ↦ (let yes : nat_lt i (low_of n c ps) ≡ true = grind (arith, nat_tests) in rw yes refl)
      | inr above ↦
          (let no : nat_lt i (low_of n c ps) ≡ false = grind (arith, nat_tests) in
          rw no (slice_get_past (values_from slots c (low_of n c ps) (n - low_of n c ps)) (i - low_of n c ps)
          (omega (arith, length-values_from slots c (low_of n c ps) (n - low_of n c ps) there, past i out above))))
    ]

    pub value_taken : (rx i : ℕ) → place_of ps rx ≡ Some i → n - c ≤ i → i < n →
        slice_get (values_from slots c (low_of n c ps) (n - low_of n c ps)) (i - low_of n c ps) ≡ (slot_at slots c i).value
    value_taken rx i here in_window sent = value_kept i (omega (arith, low_of-at n c ps rx i here)) sent

    -- a receiver reads what stands at its place
    module _ (rx i : ℕ) (sorted : IsRising (keys_of ps)) (here : place_of ps rx ≡ Some i) (in_window : n - c ≤ i) (sent : i < n)
        (slots' : List (Slot T)) (e : slots' ≡ set slots (i % c) (less_one (slot_at slots c i))) where
      at_place : slot_at slots' c i ≡ less_one (slot_at slots c i)
      at_place = ap (λ xs. get_or xs (i % c) vacant) e
          ∙ get_or-set_same slots (i % c) _ vacant (omega (arith, r.size, mod_below i c r.is_capacity.1))

      elsewhere : (j : ℕ) → i % c ≢ j % c → slot_at slots' c j ≡ slot_at slots c j
      elsewhere j apart = ap (λ xs. get_or xs (j % c) vacant) e ∙ get_or-set_other slots (i % c) (j % c) _ vacant (λ h. apart (sym h))

      apart_from : (j : ℕ) → n ≤ j + c → j < n + c → j ≢ i → i < j + c → j < i + c → i % c ≢ j % c
      apart_from j a b ne x y =
          elim (cases_lt i j) [ inl lt ↦ apart_bits i j c lt y | inr ge ↦ (λ h. apart_bits j i c (omega arith) x (sym h)) ]

      moved : (j : ℕ) → to_come (with_place ps rx (i + 1)) j + one i j ≡ to_come ps j + one (i + 1) j
      moved j = to_come-moved ps rx i (i + 1) j sorted here

      first : 0 < to_come ps i
      first = omega (arith, counted ps rx i i here, one_yes i i (omega arith))

      slot_after : (j : ℕ) → n ≤ j + c → j < n → IsSlot (to_come (with_place ps rx (i + 1)) j) (slot_at slots' c j)
      slot_after j a lt = elim (cases_lt i j) [
        | inl later ↦
            same-slot (to_come ps j) _ (slot_at slots c j) (slot_at slots' c j)
            (omega (arith, moved j, one_yes i j (omega arith), one_yes (i + 1) j (omega arith)))
            (elsewhere j (apart_from j a (omega arith) (omega arith) (omega arith) (omega arith))) (r.counted j a lt)
        | inr ge ↦ elim (cases_lt j i) [
          | inl earlier ↦
              same-slot (to_come ps j) _ (slot_at slots c j) (slot_at slots' c j)
              (omega (arith, moved j, one_no i j earlier, one_no (i + 1) j (omega arith)))
              (elsewhere j (apart_from j a (omega arith) (omega arith) (omega arith) (omega arith))) (r.counted j a lt)
          | inr le ↦
              (let same : j ≡ i = omega arith in
              subst (λ (k : ℕ). IsSlot (to_come (with_place ps rx (i + 1)) k) (slot_at slots' c k)) (sym same)
              (subst (IsSlot (to_come (with_place ps rx (i + 1)) i)) (sym at_place)
              (less-slot (to_come ps i) _ (slot_at slots c i)
              (omega (arith, moved i, one_yes i i (omega arith), one_no (i + 1) i (omega arith))) (r.counted i (omega arith) sent))))
        ]
      ]

      pub ring_taken : IsRing c n slots' (with_place ps rx (i + 1))
      ring_taken = record {
        is_capacity = r.is_capacity;
        size = ap length e ∙ length-set slots (i % c) _ ∙ r.size;
        places_in = places-with n ps rx (i + 1) r.places_in (omega arith);
        counted = slot_after;
        unused = λ j le lt. subst (IsSlot 0) (sym (elsewhere j (apart_bits i j c (omega arith) (omega arith)))) (r.unused j le lt);
      }

      rises : low_of n c ps ≤ low_of n c (with_place ps rx (i + 1))
      rises = low_of-with n c ps rx (i + 1) (omega (arith, low_of-at n c ps rx i here))

      value_after : (j : ℕ) → low_of n c (with_place ps rx (i + 1)) ≤ j → j < n → (slot_at slots' c j).value ≡ (slot_at slots c j).value
      value_after j le lt = elim (cases_lt i j) [
        | inl later ↦
            ap (λ (s : Slot T). s.value)
            (elsewhere j
            (apart_from j (omega (arith, low_of-ge n c (with_place ps rx (i + 1)))) (omega arith) (omega arith) (omega arith)
            (omega arith)))
        | inr ge ↦ elim (cases_lt j i) [
          | inl earlier ↦
              ap (λ (s : Slot T). s.value)
              (elsewhere j
              (apart_from j (omega (arith, low_of-ge n c (with_place ps rx (i + 1)))) (omega arith) (omega arith)
              (omega (arith, low_of-ge n c (with_place ps rx (i + 1)))) (omega arith)))
          | inr eq ↦ (let same : j ≡ i = omega arith in subst (λ (k : ℕ). (slot_at slots' c k).value ≡ (slot_at slots c k).value) (sym same)
              (ap (λ (s : Slot T). s.value) at_place
              ∙ less-value (slot_at slots c i)
              (omega (
                arith,
                (r.counted i (omega arith) sent).count,
                moved i,
                one_yes i i (omega arith),
                one_no (i + 1) i (omega arith),
                awaited n c (with_place ps rx (i + 1)) i (omega arith) sent,
              ))))
        ]
      ]

      pub window_taken : ring_window c n slots' (with_place ps rx (i + 1)) ≡ placed (ring_window c n slots ps) rx (i + 1)
      unfolding placed trimmed
      window_taken = ap (λ (xs : List T). record
          { capacity = c; tail = n; low = low_of n c (with_place ps rx (i + 1)); kept = xs; places = with_place ps rx (i + 1) })
          (trimmed_values slots' (with_place ps rx (i + 1)) rises value_after)

    -- and its value stood there
    pub value_there : (rx i : ℕ) → place_of ps rx ≡ Some i → n - c ≤ i → i < n → IsSome (slot_at slots c i).value
    value_there rx i here in_window sent =
        (r.counted i (omega arith) sent).kept (omega (arith, counted ps rx i i here, one_yes i i (omega arith)))

    -- only a place changes, which no position of the window sees
    module _ (ps' : Places) (all : ArePlaces n ps') (same : (j : ℕ) → n ≤ j + c → j < n → to_come ps' j ≡ to_come ps j) where
      pub ring_same : IsRing c n slots ps'
      ring_same = record {
        is_capacity = r.is_capacity;
        size = r.size;
        places_in = all;
        counted = λ j a lt. subst (λ (k : ℕ). IsSlot k (slot_at slots c j)) (sym (same j a lt)) (r.counted j a lt);
        unused = r.unused;
      }

    -- a receiver jumps to the beginning of the window
    module _ (rx i : ℕ) (sorted : IsRising (keys_of ps)) (here : place_of ps rx ≡ Some i) (behind : i < n - c) where
      pub ring_jumped : IsRing c n slots (with_place ps rx (n - c))
      ring_jumped = ring_same (with_place ps rx (n - c)) (places-with n ps rx (n - c) r.places_in (omega arith))
          (λ j a lt. omega (arith, to_come-moved ps rx i (n - c) j sorted here, one_yes i j (omega arith), one_yes (n - c) j (omega arith)))

      pub window_jumped : ring_window c n slots (with_place ps rx (n - c)) ≡ placed (ring_window c n slots ps) rx (n - c)
      unfolding placed trimmed
      window_jumped = ap (λ (xs : List T). record
          { capacity = c; tail = n; low = low_of n c (with_place ps rx (n - c)); kept = xs; places = with_place ps rx (n - c) })
          (trimmed_values slots (with_place ps rx (n - c)) (low_of-with n c ps rx (n - c) (omega (arith, low_of-at n c ps rx i here)))
          (λ j le lt. refl))

    -- a receiver joins between the least kept position and the tail
    module _ (rx i : ℕ) (absent : place_of ps rx ≡ None) (above : low_of n c ps ≤ i) (le : i ≤ n)
        (slots' : List (Slot T)) (size : length slots' ≡ c)
        (waited : (j : ℕ) → i ≤ j → j < n → slot_at slots' c j ≡ more_one (slot_at slots c j))
        (others : (j : ℕ) → n ≤ j + c → j < i + c → (i ≤ j → n ≤ j)
        → slot_at slots' c j ≡ slot_at slots c j) where
      more-slot : (j : ℕ) → i ≤ j → j < n → IsSlot (to_come ps j + 1) (more_one (slot_at slots c j))
      more-slot j from lt =
          let s = r.counted j (omega (arith, low_of-ge n c ps)) lt in
          record {
            count = omega (arith, s.count);
            kept = λ _. s.kept (awaited n c ps j (omega arith) lt);
            freed = λ z. absurd (omega arith);
          }

      slot_joined : (j : ℕ) → n ≤ j + c → j < n
          → IsSlot (to_come (with_place ps rx i) j) (slot_at slots' c j)
      slot_joined j a lt = elim (cases_lt j i) [
        | inl before ↦
            same-slot (to_come ps j) _ (slot_at slots c j) (slot_at slots' c j)
            (omega (arith, to_come-joined ps rx i j absent, one_no i j before))
            (others j a (omega arith) (λ h. absurd (omega arith))) (r.counted j a lt)
        | inr after ↦
            same-slot (to_come ps j + 1) _ (more_one (slot_at slots c j)) (slot_at slots' c j)
            (omega (arith, to_come-joined ps rx i j absent, one_yes i j (omega arith)))
            (waited j (omega arith) lt) (more-slot j (omega arith) lt)
      ]

      pub ring_joined : IsRing c n slots' (with_place ps rx i)
      ring_joined = record {
        is_capacity = r.is_capacity;
        size = size;
        places_in = places-with n ps rx i r.places_in le;
        counted = slot_joined;
        unused = λ j from lt.
            subst (IsSlot 0) (sym (others j (omega arith) (omega arith) (λ _. from))) (r.unused j from lt);
      }

      value_joined : (j : ℕ) → low_of n c (with_place ps rx i) ≤ j → j < n
          → (slot_at slots' c j).value ≡ (slot_at slots c j).value
      value_joined j from lt = elim (cases_lt j i) [
        | inl before ↦
            ap (λ (s : Slot T). s.value)
            (others j (omega (arith, low_of-ge n c (with_place ps rx i))) (omega arith)
            (λ h. absurd (omega arith)))
        | inr after ↦ ap (λ (s : Slot T). s.value) (waited j (omega arith) lt)
      ]

      pub window_joined : ring_window c n slots' (with_place ps rx i)
          ≡ placed (ring_window c n slots ps) rx i
      unfolding placed trimmed
      window_joined =
          let rises = low_of-with n c ps rx i (omega arith) in
          ap (λ (xs : List T). record
          { capacity = c; tail = n; low = low_of n c (with_place ps rx i); kept = xs; places = with_place ps rx i })
          (trimmed_values slots' (with_place ps rx i) rises value_joined)

    -- the window is a sound one
    pub ring_is_window : IsWindow (ring_window c n slots ps)
    ring_is_window = record {
      capacity = r.is_capacity;
      low = refl;
      kept =
          let low : ℕ = low_of n c ps in
          omega (arith, low_of-le n c ps, length-values_from slots c low (n - low) there);
      places = r.places_in;
    }

    -- no count is larger than the number of receivers
    pub count-le : (i : ℕ) → n ≤ i + c → i < n → (slot_at slots c i).to_come ≤ length ps
    count-le i a lt = omega (arith, (r.counted i a lt).count, to_come-le ps i)

    -- a receiver leaves
    module _ (rx i first : ℕ) (here : place_of ps rx ≡ Some i) (from : first ≡ max i (n - c)) (slots' : List (Slot T))
        (size : length slots' ≡ c) (passed : (j : ℕ) → first ≤ j → j < n → slot_at slots' c j ≡ less_one (slot_at slots c j))
        (others : (j : ℕ) → n ≤ j + c → j < first + c → (first ≤ j → n ≤ j) → slot_at slots' c j ≡ slot_at slots c j) where
      slot_left : (j : ℕ) → n ≤ j + c → j < n → IsSlot (to_come (without_place ps rx) j) (slot_at slots' c j)
      slot_left j a lt = elim (cases_lt j first) [
        | inl before ↦
            same-slot (to_come ps j) _ (slot_at slots c j) (slot_at slots' c j)
            (omega (arith, to_come-left ps rx i j here, one_no i j (omega arith))) (others j a (omega arith) (λ h. absurd (omega arith)))
            (r.counted j a lt)
        | inr after ↦
            subst (IsSlot (to_come (without_place ps rx) j)) (sym (passed j after lt))
            (less-slot (to_come ps j) _ (slot_at slots c j) (omega (arith, to_come-left ps rx i j here, one_yes i j (omega arith)))
            (r.counted j a lt))
      ]

      pub ring_left : IsRing c n slots' (without_place ps rx)
      ring_left = record {
        is_capacity = r.is_capacity;
        size = size;
        places_in = places-without n ps rx r.places_in;
        counted = slot_left;
        unused = λ j le lt. subst (IsSlot 0) (sym (others j (omega arith) (omega arith) (λ _. le))) (r.unused j le lt);
      }

      value_left : (j : ℕ) → low_of n c (without_place ps rx) ≤ j → j < n → (slot_at slots' c j).value ≡ (slot_at slots c j).value
      value_left j le lt = elim (cases_lt j first) [
        | inl before ↦
            ap (λ (s : Slot T). s.value)
            (others j (omega (arith, low_of-ge n c (without_place ps rx))) (omega arith) (λ h. absurd (omega arith)))
        | inr after ↦
            ap (λ (s : Slot T). s.value) (passed j after lt)
            ∙ less-value (slot_at slots c j)
            (omega (
              arith,
              (r.counted j (omega arith) lt).count,
              to_come-left ps rx i j here,
              one_yes i j (omega arith),
              awaited n c (without_place ps rx) j le lt,
            ))
      ]

      pub window_left : ring_window c n slots' (without_place ps rx) ≡ left (ring_window c n slots ps) rx
      unfolding left trimmed
      window_left = ap (λ (xs : List T). record
          { capacity = c; tail = n; low = low_of n c (without_place ps rx); kept = xs; places = without_place ps rx })
          (trimmed_values slots' (without_place ps rx) (low_of-without n c ps rx) value_left)

    -- a receiver that is there waits for each position from its place on
    pub waited : (rx i j : ℕ) → place_of ps rx ≡ Some i → max i (n - c) ≤ j → j < n → 0 < (slot_at slots c j).to_come
    waited rx i j here le lt = omega (arith, (r.counted j (omega arith) lt).count, counted ps rx i j here, one_yes i j (omega arith))

    -- a value is sent
    module _ (v : T) (some : 0 < length ps) (slots' : List (Slot T))
        (e : slots' ≡ set slots (n % c) (record { value = Some v; to_come = length ps })) where
      sent_at : slot_at slots' c n ≡ record { value = Some v; to_come = length ps }
      sent_at = ap (λ xs. get_or xs (n % c) vacant) e
          ∙ get_or-set_same slots (n % c) _ vacant (omega (arith, r.size, mod_below n c r.is_capacity.1))

      sent_else : (j : ℕ) → j % c ≢ n % c → slot_at slots' c j ≡ slot_at slots c j
      sent_else j apart = ap (λ xs. get_or xs (j % c) vacant) e ∙ get_or-set_other slots (n % c) (j % c) _ vacant apart

      slot_sent : (j : ℕ) → n + 1 ≤ j + c → j < n + 1 → IsSlot (to_come ps j) (slot_at slots' c j)
      slot_sent j a lt = elim (cases_lt j n) [
        | inl before ↦
            subst (IsSlot (to_come ps j)) (sym (sent_else j (apart_bits j n c before (omega arith)))) (r.counted j (omega arith) before)
        | inr here ↦ (let same : j ≡ n = omega arith in subst (λ (k : ℕ). IsSlot (to_come ps k) (slot_at slots' c k)) (sym same)
            (subst (IsSlot (to_come ps n)) (sym sent_at)
            (record {
              count = sym (all_to_come n ps r.places_in);
              kept = λ _. refl;
              freed = λ z. absurd (omega (arith, all_to_come n ps r.places_in));
            })))
      ]

      pub ring_sent : IsRing c (n + 1) slots' ps
      ring_sent = record {
        is_capacity = r.is_capacity;
        size = ap length e ∙ length-set slots (n % c) _ ∙ r.size;
        places_in = places-more n (n + 1) ps (omega arith) r.places_in;
        counted = slot_sent;
        unused = λ j le lt.
            subst (IsSlot 0) (sym (sent_else j (λ h. apart_bits n j c (omega arith) (omega arith) (sym h)))) (r.unused j (omega arith) lt);
      }

      -- a receiver waits for the new value, so that it is kept
      low_sent : low_of (n + 1) c ps ≤ n
      low_sent = low-awaited (n + 1) c ps n (omega (arith, r.is_capacity.1)) (omega (arith, all_to_come n ps r.places_in))

      values_sent : values_from slots' c (low_of (n + 1) c ps) (n + 1 - low_of (n + 1) c ps)
          ≡ drop (low_of (n + 1) c ps - low_of n c ps) (values_from slots c (low_of n c ps) (n - low_of n c ps) ++ v ∷ [])
      values_sent =
          let low : ℕ = low_of n c ps in
          let low' : ℕ = low_of (n + 1) c ps in
          let rises : low ≤ low' = low_of-push n c ps in
          let le : low' ≤ n = low_sent in
          let top : low' + (n - low') ≡ n = omega arith in
          let count : n + 1 - low' ≡ n - low' + 1 = omega arith in
          let a : low + (low' - low) ≡ low' = omega arith in
          let b : n - low - (low' - low) ≡ n - low' = omega arith in
          ap (values_from slots' c low') count
          ∙ values-snoc slots' c low' (n - low') v (ap (λ k. (slot_at slots' c k).value) top ∙ ap (λ (s : Slot T). s.value) sent_at)
          ∙ ap (λ (xs : List T). xs ++ v ∷ [])
          (values-same slots' slots c low' (n - low')
          (λ j l lt.
          ap (λ (s : Slot T). s.value) (sent_else j (apart_bits j n c (omega arith) (omega (arith, low_of-ge (n + 1) c ps)))))
          ∙ sym (values-drop slots c low (n - low) (low' - low) there (omega arith)
          ∙ ap (λ x. values_from slots c x (n - low - (low' - low))) a ∙ ap (values_from slots c low') b))
          ∙ sym (drop-append-le (low' - low) (values_from slots c low (n - low)) (v ∷ [])
          (omega (arith, length-values_from slots c low (n - low) there)))

      pub window_sent : ring_window c (n + 1) slots' ps ≡ pushed (ring_window c n slots ps) v
      unfolding pushed trimmed
      window_sent =
          ap (λ (xs : List T). record { capacity = c; tail = n + 1; low = low_of (n + 1) c ps; kept = xs; places = ps }) values_sent

  pub filled-is : (low : ℕ) (kept : List T) (ps : Places) (i : ℕ) (value : Option T) (count : ℕ)
      → value ≡ slice_get kept (i - low) → count ≡ to_come ps i
      → record { value = value; to_come = count } ≡ filled_slot low kept ps i
  filled-is low kept ps i value count v n = λ j. record { value = v j; to_come = n j }

  -- a ring that was filled with the values of a sound window
  module _ (c n low : ℕ) (slots : List (Slot T)) (kept : List T) (ps : Places)
      (w : IsWindow (record { capacity = c; tail = n; low = low; kept = kept; places = ps })) (size : length slots ≡ c)
      (filled : (i : ℕ) → low ≤ i → i < n → slot_at slots c i ≡ filled_slot low kept ps i)
      (others : (i : ℕ) → n ≤ i + c → i < low + c → (low ≤ i → n ≤ i) → slot_at slots c i ≡ vacant) where
    slot_filled : (i : ℕ) → n ≤ i + c → i < n → IsSlot (to_come ps i) (slot_at slots c i)
    slot_filled i a lt = elim (cases_lt i low) [
      | inl before ↦
          same-slot 0 _ vacant (slot_at slots c i) (sym (nobody-before n c ps i (omega arith) (omega (arith, w.low))))
          (others i a (omega arith) (λ h. absurd (omega arith))) empty_slot
      | inr after ↦
          same-slot (to_come ps i) _ (filled_slot low kept ps i) (slot_at slots c i) refl
          (filled i (omega arith) lt) (kept-slot i (omega arith) lt)
    ]
      where
        kept-slot : (j : ℕ) → low ≤ j → j < n → IsSlot (to_come ps j) (filled_slot low kept ps j)
        kept-slot j from before = record {
          count = refl;
          kept = λ _. (let got = slice_get-some kept (j - low) (omega (arith, w.kept)) in rw got.1 refl);
          freed = λ z. absurd (omega (arith, awaited n c ps j (omega (arith, w.low)) before));
        }

    pub ring_filled : IsRing c n slots ps
    ring_filled = record {
      is_capacity = w.capacity;
      size = size;
      places_in = w.places;
      counted = slot_filled;
      unused = λ i le lt.
          subst (IsSlot 0) (sym (others i (omega arith) (omega arith) (λ _. le))) empty_slot;
    }

    pub window_filled : ring_window c n slots ps
        ≡ record { capacity = c; tail = n; low = low; kept = kept; places = ps }
    window_filled =
        let count : n - low ≡ length kept = omega (arith, w.kept) in
        let values : values_from slots c low (n - low) ≡ kept =
        ap (values_from slots c low) count
        ∙ values-are slots c low kept (λ j lt.
        let before : low + j < n = omega (arith, w.kept) in
        let at : low + j - low ≡ j = omega arith in
        ap (λ (s : Slot T). s.value) (filled (low + j) (omega arith) before) ∙ ap (slice_get kept) at)
        in ap (λ l. record { capacity = c; tail = n; low = l; kept = values_from slots c l (n - l); places = ps }) (sym w.low)
        ∙ ap (λ (xs : List T). record { capacity = c; tail = n; low = low; kept = xs; places = ps }) values

  -- and so one that was filled with what a sound window was taken apart into
  module _ (w : Window T) (sound : IsWindow w) (c n low : ℕ) (kept : List T) (ps : Places)
      (c-is : c ≡ w.capacity) (n-is : n ≡ w.tail) (low-is : low ≡ w.low) (kept-is : kept ≡ w.kept)
      (ps-is : ps ≡ w.places) (empty slots : List (Slot T)) (e : empty ≡ replicate c vacant) (size : length slots ≡ c)
      (filled : (i : ℕ) → low ≤ i → i < n → slot_at slots c i ≡ filled_slot low kept ps i)
      (others : (i : ℕ) → n ≤ i + c → i < low + c → (low ≤ i → n ≤ i)
      → slot_at slots c i ≡ slot_at empty c i) where
    same-window : record { capacity = c; tail = n; low = low; kept = kept; places = ps } ≡ w
    same-window = λ i. record {
      capacity = c-is i;
      tail = n-is i;
      low = low-is i;
      kept = kept-is i;
      places = ps-is i;
    }

    still-vacant : (i : ℕ) → n ≤ i + c → i < low + c → (low ≤ i → n ≤ i) → slot_at slots c i ≡ vacant
    still-vacant i a b out = others i a b out ∙ ap (λ l. get_or l (i % c) vacant) e ∙ get_or-replicate c (i % c) vacant

    pub ring_of_parts : IsRing c n slots ps
    ring_of_parts = ring_filled c n low slots kept ps (subst IsWindow (sym same-window) sound) size filled still-vacant

    pub window_of_parts : ring_window c n slots ps ≡ w
    window_of_parts = window_filled c n low slots kept ps (subst IsWindow (sym same-window) sound) size filled
        still-vacant
        ∙ same-window

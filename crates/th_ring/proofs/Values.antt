-- The values of a run of positions.
use Rattle.std.proofs.Common.{◌≡◌, ◌≢◌, ℕ, zero, suc, ◌+◌, ◌-◌, ◌*◌, ◌/◌, ◌%◌, ◌<◌, ◌≤◌, List, [], ◌∷◌, ◌++◌, length, drop, Option, Some, None, slice_get, IsSome, refl, sym, ap, ◌∙◌, inl, inr, arith}
use Rattle.std.proofs.lemmas.Bool.{false≢true, cases_lt}
use Rattle.std.proofs.Math.Nat.{div-add-mod, mul-le-mul_left}
use Rattle.std.specs.Option.{option_to_list}
use Rattle.th_ring.specs.declared.slot.Slot.{Slot}
use Rattle.th_ring.specs.Ring.{slot_at, and_then, values_from}

module _ {T : Type 0} where
  -- as many values as positions, where each has one
  abbrev pub AreThere : List (Slot T) → ℕ → ℕ → ℕ → Type 0
  AreThere slots c i n = (j : ℕ) → i ≤ j → j < i + n → IsSome (slot_at slots c j).value

  length-and_then : (o : Option T) (xs : List T) → IsSome o → length (and_then o xs) ≡ suc (length xs)
  length-and_then None xs h = absurd (false≢true h)
  length-and_then (Some v) xs h = refl

  pub length-values_from : (slots : List (Slot T)) (c i n : ℕ) → AreThere slots c i n → length (values_from slots c i n) ≡ n
  unfolding values_from
  length-values_from slots c i zero h = refl
  length-values_from slots c i (suc n) h = length-and_then _ _ (h i (omega arith) (omega arith))
      ∙ ap suc (length-values_from slots c (i + 1) n (λ j le lt. h j (omega arith) (omega arith)))

  -- only the values at these positions matter
  pub values-same : (a b : List (Slot T)) (c i n : ℕ) → ((j : ℕ) → i ≤ j → j < i + n → (slot_at a c j).value ≡ (slot_at b c j).value) →
      values_from a c i n ≡ values_from b c i n
  unfolding values_from
  values-same a b c i zero h = refl
  values-same a b c i (suc n) h = ap (λ o. and_then o (values_from a c (i + 1) n)) (h i (omega arith) (omega arith))
      ∙ ap (and_then (slot_at b c i).value) (values-same a b c (i + 1) n (λ j le lt. h j (omega arith) (omega arith)))

  drop-and_then : (k : ℕ) (o : Option T) (xs : List T) → IsSome o → drop (suc k) (and_then o xs) ≡ drop k xs
  drop-and_then k None xs h = absurd (false≢true h)
  drop-and_then k (Some v) xs h = refl

  -- the values from a later position on
  pub values-drop : (slots : List (Slot T)) (c i n k : ℕ) → AreThere slots c i n → k ≤ n →
      drop k (values_from slots c i n) ≡ values_from slots c (i + k) (n - k)
  unfolding values_from
  values-drop slots c i n zero h le = (let a : i ≡ i + 0 = omega arith in let b : n ≡ n - 0 = omega arith in
      ap (λ x. values_from slots c x n) a ∙ ap (values_from slots c (i + 0)) b)
  values-drop slots c i zero (suc k) h le = absurd (omega arith)
  values-drop slots c i (suc n) (suc k) h le = drop-and_then k _ _ (h i (omega arith) (omega arith))
      ∙ values-drop slots c (i + 1) n k (λ j le lt. h j (omega arith) (omega arith)) (omega arith)
      ∙ (let a : i + 1 + k ≡ i + suc k = omega arith in let b : n - k ≡ suc n - suc k = omega arith in
      ap (λ x. values_from slots c x (n - k)) a ∙ ap (values_from slots c (i + suc k)) b)

  and_then-append : (o : Option T) (xs ys : List T) → and_then o (xs ++ ys) ≡ and_then o xs ++ ys
  and_then-append None xs ys = refl
  and_then-append (Some v) xs ys = refl

  -- and with the value at one more position
  values-suc : (slots : List (Slot T)) (c i n : ℕ) (v : T) → (slot_at slots c (i + n)).value ≡ Some v →
      values_from slots c i (suc n) ≡ values_from slots c i n ++ v ∷ []
  unfolding values_from
  values-suc slots c i zero v h =
      (let e : i ≡ i + 0 = omega arith in ap (λ x. and_then (slot_at slots c x).value []) e ∙ ap (λ o. and_then o []) h)
  values-suc slots c i (suc n) v h = (let e : i + 1 + n ≡ i + suc n = omega arith in
      ap (and_then (slot_at slots c i).value) (values-suc slots c (i + 1) n v (ap (λ x. (slot_at slots c x).value) e ∙ h))
      ∙ and_then-append (slot_at slots c i).value (values_from slots c (i + 1) n) (v ∷ []))

  pub values-snoc : (slots : List (Slot T)) (c i n : ℕ) (v : T) → (slot_at slots c (i + n)).value ≡ Some v →
      values_from slots c i (n + 1) ≡ values_from slots c i n ++ v ∷ []
  values-snoc slots c i n v h = (let e : n + 1 ≡ suc n = omega arith in ap (values_from slots c i) e) ∙ values-suc slots c i n v h

  slice_get-and_then : (o : Option T) (xs : List T) (j : ℕ) → IsSome o → slice_get (and_then o xs) (suc j) ≡ slice_get xs j
  slice_get-and_then None xs j h = absurd (false≢true h)
  slice_get-and_then (Some v) xs j h = refl

  slice_get-first : (o : Option T) (xs : List T) → IsSome o → slice_get (and_then o xs) 0 ≡ o
  slice_get-first None xs h = absurd (false≢true h)
  slice_get-first (Some v) xs h = refl

  pub values-get : (slots : List (Slot T)) (c i n j : ℕ) → AreThere slots c i n → j < n →
      slice_get (values_from slots c i n) j ≡ (slot_at slots c (i + j)).value
  unfolding values_from
  values-get slots c i zero j h lt = absurd (omega arith)
  values-get slots c i (suc n) zero h lt =
      slice_get-first _ _ (h i (omega arith) (omega arith)) ∙ (let e : i ≡ i + 0 = omega arith in ap (λ x. (slot_at slots c x).value) e)
  values-get slots c i (suc n) (suc j) h lt = slice_get-and_then _ _ j (h i (omega arith) (omega arith))
      ∙ values-get slots c (i + 1) n j (λ k le l. h k (omega arith) (omega arith)) (omega arith)
      ∙ (let e : i + 1 + j ≡ i + suc j = omega arith in ap (λ x. (slot_at slots c x).value) e)

module _ {T : Type 0} where
  -- slots that have these values
  pub values-are : (slots : List (Slot T)) (c i : ℕ) (xs : List T)
      → ((j : ℕ) → j < length xs → (slot_at slots c (i + j)).value ≡ slice_get xs j)
      → values_from slots c i (length xs) ≡ xs
  unfolding values_from
  values-are slots c i [] h = refl
  values-are slots c i (x ∷ xs) h =
      let first : i ≡ i + 0 = omega arith in
      let rest = values-are slots c (i + 1) xs (λ j lt.
      let at : i + 1 + j ≡ i + suc j = omega arith in
      ap (λ k. (slot_at slots c k).value) at ∙ h (suc j) (omega arith)) in
      ap (λ k. and_then (slot_at slots c k).value (values_from slots c (i + 1) (length xs))) first
      ∙ ap (λ o. and_then o (values_from slots c (i + 1) (length xs))) (h 0 (omega arith))
      ∙ ap (λ l. x ∷ l) rest

-- two positions of one window have different slots
pub apart_bits : (i j c : ℕ) → i < j → j < i + c → i % c ≢ j % c
apart_bits i j c lt within same = elim (cases_lt (i / c) (j / c)) [
  | inl up ↦
      (let m : c * (i / c + 1) ≤ c * (j / c) = mul-le-mul_left c (omega arith) in omega (arith, m, same, div-add-mod i c, div-add-mod j c))
  | inr down ↦ (let m : c * (j / c) ≤ c * (i / c) = mul-le-mul_left c down in omega (arith, m, same, div-add-mod i c, div-add-mod j c))
]

-- the first value of a queue, as it is taken out
pub first-popped : {T : Type 0} (first : Option T) (before after : List T) → 0 < length before
    → (0 < length before → IsSome first) → before ≡ option_to_list first ++ after → first ≡ slice_get before 0
first-popped None before after some v e = absurd (false≢true (v some))
first-popped (Some x) before after some v e = sym (ap (λ l. slice_get l 0) e)

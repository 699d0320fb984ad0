-- Counting the receivers of each position at once.
use Rattle.std.proofs.Common.{◌≡◌, ◌≢◌, ℕ, ◌+◌, ◌-◌, ◌<◌, ◌≤◌, cond, List, [], ◌∷◌, length, get_or, set, max, refl, subst, ◌∙◌, inl, inr, arith}
use Rattle.std.specs.Prelude.{nat_eq}
use Rattle.std.proofs.lemmas.Bool.{cases_lt}
use Rattle.std.proofs.lemmas.Bool.Decides.{nat_tests}
use Rattle.std.proofs.lemmas.List.{get_or-set_other, get_or-set_same, get_or_default}
use Rattle.th_model.specs.Places.{Places, to_come}
use Rattle.th_ring.specs.Readers.{first_at}
use Rattle.th_ring.proofs.Counts.{one, to_come-le}

-- 1 where a receiver at place p reads i first of all from `low` on
abbrev pub first : ℕ → ℕ → ℕ → ℕ
first low p i = cond (nat_eq (max p low) i) 1 0

pub first_yes : (low p i : ℕ) → max p low ≡ i → first low p i ≡ 1
first_yes low p i e = grind (arith, nat_tests)

pub first_no : (low p i : ℕ) → max p low ≢ i → first low p i ≡ 0
first_no low p i ne = grind (arith, nat_tests)

-- the first position is awaited by those that read it first
pub first-low : (low : ℕ) (ps : Places) (i : ℕ) → i ≡ low → first_at low ps i ≡ to_come ps i
first-low low [] i e = refl
first-low low (p ∷ ps) i e = omega (arith, first-low low ps i e, same p.1)
  where
    same : (q : ℕ) → first low q i ≡ one q i
    same q = grind (arith, nat_tests)

-- and each further one also by those that await the one before
pub to_come-next : (low : ℕ) (ps : Places) (i j : ℕ) → low ≤ i → j ≡ i + 1 → to_come ps j ≡ to_come ps i + first_at low ps j
to_come-next low [] i j le e = refl
to_come-next low (p ∷ ps) i j le e = omega (arith, to_come-next low ps i j le e, step p.1)
  where
    step : (q : ℕ) → one q j ≡ one q i + first low q j
    step q = grind (arith, nat_tests)

-- no more read a position first than there are
pub first-le : (low : ℕ) (ps : Places) (i : ℕ) → first_at low ps i ≤ length ps
first-le low [] i = omega arith
first-le low (p ∷ ps) i = omega (arith, first-le low ps i, one_le p.1)
  where
    one_le : (q : ℕ) → first low q i ≤ 1
    one_le q = grind (arith, nat_tests)

-- the sum of those before, and those that read this position first
pub sum-is : (low : ℕ) (ps : Places) (at so_far : ℕ) → (at ≡ 0 → so_far ≡ 0) → (0 < at → so_far ≡ to_come ps (low + at - 1)) →
    so_far + first_at low ps (low + at) ≡ to_come ps (low + at)
sum-is low ps at so_far none sum = elim (cases_lt 0 at) [
  | inl some ↦ omega (arith, sum some, to_come-next low ps (low + at - 1) (low + at) (omega arith) (omega arith))
  | inr le ↦ omega (arith, none (omega arith), first-low low ps (low + at) (omega arith))
]

-- One receiver more is counted where it reads first.
module _ (low n at v : ℕ) (p : ℕ × ℕ) (rest all : Places) (xs : List ℕ) (size : length xs ≡ n)
    (each : (k : ℕ) → k < n → get_or xs k 0 + first_at low (p ∷ rest) (low + k) ≡ first_at low all (low + k)) where
  pub counted_less : n + low ≤ max p.1 low → (k : ℕ) → k < n → get_or xs k 0 + first_at low rest (low + k) ≡ first_at low all (low + k)
  counted_less past k lt = omega (arith, each k lt, first_no low p.1 (low + k) (λ e. omega (arith, e)))

  module _ (here : max p.1 low ≡ low + at) (in_it : at < n) (is : v ≡ get_or xs at v) where
    value-is : v ≡ get_or xs at 0
    value-is = is ∙ get_or_default xs at v 0 (omega (arith, size))

    -- the count fits
    pub count-fits : v + 1 ≤ length all
    count-fits = omega (arith, value-is, each at in_it, first_yes low p.1 (low + at) here, first-le low all (low + at))

    pub counted_more : (k : ℕ) → k < n →
        get_or (set xs at (v + 1)) k 0 + first_at low rest (low + k) ≡ first_at low all (low + k)
    counted_more k lt = elim (cases_lt k at) [
      | inl before ↦
          omega (arith, each k lt, get_or-set_other xs at k (v + 1) 0 (λ e. omega (arith, e)), first_no low p.1 (low + k) (λ e. omega (arith, e, here)))
      | inr ge ↦ elim (cases_lt at k) [
        | inl behind ↦
            omega (arith, each k lt, get_or-set_other xs at k (v + 1) 0 (λ e. omega (arith, e)), first_no low p.1 (low + k) (λ e. omega (arith, e, here)))
        | inr le ↦
            (let same : at ≡ k = omega arith in
            subst (λ (j : ℕ). get_or (set xs at (v + 1)) j 0 + first_at low rest (low + j) ≡ first_at low all (low + j)) same
            (omega (arith, each at in_it, value-is, get_or-set_same xs at (v + 1) 0 (omega (arith, size)), first_yes low p.1 (low + at) here)))
      ]
    ]

-- The counts so far are summed up to a position.
module _ (low n at so_far v : ℕ) (ps : Places) (xs : List ℕ) (size : length xs ≡ n) (in_it : at < n)
    (done : (k : ℕ) → k < at → get_or xs k 0 ≡ to_come ps (low + k))
    (rest : (k : ℕ) → at ≤ k → k < n → get_or xs k 0 ≡ first_at low ps (low + k))
    (none : at ≡ 0 → so_far ≡ 0) (sum : 0 < at → so_far ≡ to_come ps (low + at - 1)) (is : v ≡ get_or xs at v) where
  pub summed : so_far + v ≡ to_come ps (low + at)
  summed = omega (arith, is ∙ get_or_default xs at v 0 (omega (arith, size)), rest at (omega arith) in_it, sum-is low ps at so_far none sum)

  pub sum-fits : so_far + v ≤ length ps
  sum-fits = omega (arith, summed, to_come-le ps (low + at))

  pub done-more : (k : ℕ) → k < at + 1 → get_or (set xs at (so_far + v)) k 0 ≡ to_come ps (low + k)
  done-more k lt = elim (cases_lt k at) [
    | inl before ↦ get_or-set_other xs at k (so_far + v) 0 (λ e. omega (arith, e)) ∙ done k before
    | inr ge ↦
        (let same : at ≡ k = omega arith in
        subst (λ (j : ℕ). get_or (set xs at (so_far + v)) j 0 ≡ to_come ps (low + j)) same
        (get_or-set_same xs at (so_far + v) 0 (omega (arith, size)) ∙ summed))
  ]

  pub rest-less : (k : ℕ) → at + 1 ≤ k → k < n → get_or (set xs at (so_far + v)) k 0 ≡ first_at low ps (low + k)
  rest-less k le lt = get_or-set_other xs at k (so_far + v) 0 (λ e. omega (arith, e)) ∙ rest k (omega arith) lt

-- How many receivers have still to read a position.
use Rattle.std.proofs.Common.{◌≡◌, ℕ, zero, suc, ◌+◌, ◌-◌, ◌<◌, ◌≤◌, Bool, true, false, cond, [], ◌∷◌, length, min, Some, None, refl, sym, ◌∙◌, arith}
use Rattle.std.specs.Prelude.{nat_le}
use Rattle.std.specs.Map.{keys_of}
use Rattle.std.specs.Ordering.{nat_cmp, match_ordering, is_eq}
use Rattle.std.specs.declared.cmp.Ordering.TheVariants.{Less, Equal, Greater}
use Rattle.std.specs.BTreeMap.{is_at}
use Rattle.std.proofs.lemmas.Bool.Decides.{nat_tests}
use Rattle.std.proofs.lemmas.Cmp.{ranked}
use Rattle.std.proofs.lemmas.Option.{same_Some, none-some}
use Rattle.th_model.specs.Places.{Places, ArePlaces, place_of, with_place, without_place, least_place, low_of, to_come}
use Rattle.th_model.specs.Handles.{IsRising}
use Rattle.th_model.proofs.PlaceLemmas.{none_below, all_below}

-- 1 where a receiver at place i has still to read k
abbrev pub one : ℕ → ℕ → ℕ
one i k = cond (nat_le i k) 1 0

pub one_yes : (i k : ℕ) → i ≤ k → one i k ≡ 1
one_yes i k le = grind (arith, nat_tests)

pub one_no : (i k : ℕ) → k < i → one i k ≡ 0
one_no i k lt = grind (arith, nat_tests)

-- one receiver is among those at or below its place
pub counted : (ps : Places) (rx i k : ℕ) → place_of ps rx ≡ Some i → one i k ≤ to_come ps k
counted [] rx i k h = absurd (none-some i h)
counted (p ∷ ps) rx i k h =
    elim (is_at (nat_cmp rx) p.0) as (λ b. cond b (Some p.1) (place_of ps rx) ≡ Some i → one i k ≤ one p.1 k + to_come ps k) [
      | true ↦ λ e. let same : p.1 ≡ i = same_Some p.1 i e in rw (← same) (omega arith)
      | false ↦ λ e. omega (arith, counted ps rx i k e)
    ] h

-- later positions wait for as many receivers or more
pub to_come-rises : (ps : Places) (i j : ℕ) → i ≤ j → to_come ps i ≤ to_come ps j
to_come-rises [] i j le = omega arith
to_come-rises (p ∷ ps) i j le = omega (arith, to_come-rises ps i j le, one_rises p.1 i j le)
  where
    one_rises : (p i j : ℕ) → i ≤ j → one p i ≤ one p j
    one_rises p i j le = grind (arith, nat_tests)

-- past each place, all of them have still to come
pub all_to_come : (n : ℕ) (ps : Places) → ArePlaces n ps → to_come ps n ≡ length ps
all_to_come n [] h = refl
all_to_come n (p ∷ ps) h = let o : one p.1 n ≡ 1 = one_yes p.1 n h.0 in rw o (omega (arith, all_to_come n ps h.1))

-- nobody has still to read what stands before the least place
pub nobody : (n : ℕ) (ps : Places) (k : ℕ) → k < n → to_come ps k ≡ 0 → k < least_place n ps
nobody n [] k lt h = omega arith
nobody n (p ∷ ps) k lt h = omega (arith, nobody n ps k lt (omega (arith, h)), apart p.1 k (omega (arith, h)))
  where
    apart : (p k : ℕ) → one p k ≡ 0 → k < p
    apart p k h = grind (arith, nat_tests)

pub somebody : (n : ℕ) (ps : Places) (k : ℕ) → 0 < to_come ps k → least_place n ps ≤ k
somebody n [] k h = absurd (omega arith)
somebody n (p ∷ ps) k h = split (nat_le p.1 k) refl (somebody n ps k)
  where
    split : (b : Bool) → nat_le p.1 k ≡ b → (0 < to_come ps k → least_place n ps ≤ k) → min p.1 (least_place n ps) ≤ k
    split true e rec = (let le : p.1 ≤ k = grind (arith, nat_tests) in omega arith)
    split false e rec = (let rest : 0 < 0 + to_come ps k = rw e at h in omega (arith, rec (omega arith)))

-- a receiver that moves from i to j
pub to_come-moved : (ps : Places) (rx i j k : ℕ) → IsRising (keys_of ps) → place_of ps rx ≡ Some i →
    to_come (with_place ps rx j) k + one i k ≡ to_come ps k + one j k
to_come-moved [] rx i j k r h = absurd (none-some i h)
to_come-moved (p ∷ ps) rx i j k r h = elim (nat_cmp rx p.0) as
    (λ o. o ≡ nat_cmp rx p.0 → cond (is_eq o) (Some p.1) (place_of ps rx) ≡ Some i →
    to_come (match_ordering o ((rx, j) ∷ p ∷ ps) ((p.0, j) ∷ ps) (p ∷ with_place ps rx j)) k + one i k
    ≡ one p.1 k + to_come ps k + one j k) [
      | Less ↦ λ o e. absurd (none-some i (sym (none_below ps rx (all_below p.0 rx (keys_of ps) (ranked rx p.0 Less o) r.0)) ∙ e))
      | Equal ↦ λ o e. let same : p.1 ≡ i = same_Some p.1 i e in rw (← same) (omega arith)
      | Greater ↦ λ o e. omega (arith, to_come-moved ps rx i j k r.1 e)
    ] refl h

-- a new receiver at j
pub to_come-joined : (ps : Places) (rx j k : ℕ) → place_of ps rx ≡ None → to_come (with_place ps rx j) k ≡ to_come ps k + one j k
to_come-joined [] rx j k h = omega arith
to_come-joined (p ∷ ps) rx j k h = elim (nat_cmp rx p.0) as
    (λ o. cond (is_eq o) (Some p.1) (place_of ps rx) ≡ None →
    to_come (match_ordering o ((rx, j) ∷ p ∷ ps) ((p.0, j) ∷ ps) (p ∷ with_place ps rx j)) k ≡ one p.1 k + to_come ps k + one j k) [
      | Less ↦ λ e. omega arith
      | Equal ↦ λ e. absurd (none-some p.1 (sym e))
      | Greater ↦ λ e. omega (arith, to_come-joined ps rx j k e)
    ] h

-- a receiver at i leaves
pub to_come-left : (ps : Places) (rx i k : ℕ) → place_of ps rx ≡ Some i → to_come (without_place ps rx) k + one i k ≡ to_come ps k
to_come-left [] rx i k h = absurd (none-some i h)
to_come-left (p ∷ ps) rx i k h = elim (is_at (nat_cmp rx) p.0) as
    (λ b. cond b (Some p.1) (place_of ps rx) ≡ Some i →
    to_come (cond b ps (p ∷ without_place ps rx)) k + one i k ≡ one p.1 k + to_come ps k) [
      | true ↦ λ e. let same : p.1 ≡ i = same_Some p.1 i e in rw (← same) (omega arith)
      | false ↦ λ e. omega (arith, to_come-left ps rx i k e)
    ] h

-- the least kept position by the counts
pub low-awaited : (n c : ℕ) (ps : Places) (k : ℕ) → n - c ≤ k → 0 < to_come ps k → low_of n c ps ≤ k
unfolding low_of
low-awaited n c ps k in_window h = omega (arith, somebody n ps k h)

pub low-past : (n c : ℕ) (ps : Places) (k : ℕ) → k < n → to_come ps k ≡ 0 → k < low_of n c ps
unfolding low_of
low-past n c ps k lt h = omega (arith, nobody n ps k lt h)

-- nobody has still to read what stands before the least kept position
pub nobody-before : (n c : ℕ) (ps : Places) (k : ℕ) → n - c ≤ k → k < low_of n c ps → to_come ps k ≡ 0
nobody-before n c ps k in_window below = split (to_come ps k) refl
  where
    split : (m : ℕ) → to_come ps k ≡ m → to_come ps k ≡ 0
    split zero e = e
    split (suc m) e = absurd (omega (arith, low-awaited n c ps k in_window (omega arith)))

-- from the least kept position on each is awaited
pub awaited : (n c : ℕ) (ps : Places) (k : ℕ) → low_of n c ps ≤ k → k < n → 0 < to_come ps k
awaited n c ps k le lt = positive (to_come ps k) refl
  where
    positive : (m : ℕ) → to_come ps k ≡ m → 0 < m
    positive zero e = absurd (omega (arith, low-past n c ps k lt e))
    positive (suc m) e = omega arith

pub low_of-ge : (n c : ℕ) (ps : Places) → n - c ≤ low_of n c ps
unfolding low_of
low_of-ge n c ps = omega arith

-- no more receivers have still to read a position than there are
pub to_come-le : (ps : Places) (i : ℕ) → to_come ps i ≤ length ps
to_come-le [] i = omega arith
to_come-le (p ∷ ps) i = omega (arith, to_come-le ps i, one_le p.1 i)
  where
    one_le : (p i : ℕ) → one p i ≤ 1
    one_le p i = grind (arith, nat_tests)

-- a receiver that is there counts
pub counts-one : (p : ℕ × ℕ) (ps : Places) (i : ℕ) → p.1 ≤ i → to_come (p ∷ ps) i ≡ to_come ps i + 1
counts-one p ps i le = omega (arith, one_yes p.1 i le)

-- A window that is copied piece by piece: values by position, and receivers by number.
use Rattle.std.proofs.Common.{◌≡◌, ℕ, zero, suc, ◌+◌, ◌-◌, ◌<◌, ◌≤◌, true, false, cond, List, [], ◌∷◌, ◌++◌, take, drop, Option, Some, None, add-one, refl, sym, ap, subst, ◌∙◌, arith}
use Rattle.std.specs.Prelude.{slice_get, nat_lt}
use Rattle.std.specs.List.{AllByRecursion, filter}
use Rattle.std.specs.Map.{keys_of}
use Rattle.std.proofs.lemmas.Bool.{ltb-true, ltb-false}
use Rattle.std.proofs.lemmas.List.{take_more}
use Rattle.std.proofs.lemmas.Option.{none-some, same_Some, slice_get_within, get_or_from_slice_get}
use Rattle.th_model.specs.Handles.{IsRising}
use Rattle.th_model.specs.Places.{Places, with_place}
use Rattle.th_model.specs.Window.{Window, value_at}
use Rattle.th_model.proofs.LiveCounts.{entry-last, front-below}
use Rattle.th_shelf.specs.Receiving.{above}

pub take-next : {X : Type 0} (xs : List X) (n : ℕ) (x : X) → slice_get xs n ≡ Some x → take (n + 1) xs ≡ take n xs ++ x ∷ []
take-next xs n x h = take_more xs n x (slice_get_within xs n x h) ∙ ap (λ y. take n xs ++ y ∷ []) (get_or_from_slice_get xs n x x h)

-- from the least kept position on, what a shelf shows is what it keeps
pub kept-at : {T : Type 0} (w : Window T) (i : ℕ) (o : Option T) → w.low ≤ i → o ≡ value_at w i → slice_get w.kept (i - w.low) ≡ o
kept-at w i o le h =
    elim (nat_lt i w.low) as (λ b. nat_lt i w.low ≡ b → o ≡ cond b None (slice_get w.kept (i - w.low)) → slice_get w.kept (i - w.low) ≡ o) [
      | true ↦ λ e _. absurd (omega (arith, ltb-true i w.low e))
      | false ↦ λ e k. sym k
    ] refl h

-- all of these are above
all-above : (n : ℕ) (ps : Places) → AllByRecursion (λ k. n < k) (keys_of ps) → filter (λ q. nat_lt n q.0) ps ≡ ps
all-above n [] h = refl
all-above n (p ∷ ps) h =
    elim (nat_lt n p.0) as (λ b. nat_lt n p.0 ≡ b → cond b (p ∷ filter (λ q. nat_lt n q.0) ps) (filter (λ q. nat_lt n q.0) ps) ≡ p ∷ ps) [
      | true ↦ λ e. ap (λ l. p ∷ l) (all-above n ps h.1)
      | false ↦ λ e. absurd (omega (arith, ltb-false n p.0 e, h.0))
    ] refl

not-above : (n : ℕ) (p : ℕ × ℕ) (ps : Places) → p.0 ≤ n → filter (λ q. nat_lt n q.0) (p ∷ ps) ≡ filter (λ q. nat_lt n q.0) ps
not-above n p ps le = elim (nat_lt n p.0) as
    (λ b. nat_lt n p.0 ≡ b → cond b (p ∷ filter (λ q. nat_lt n q.0) ps) (filter (λ q. nat_lt n q.0) ps) ≡ filter (λ q. nat_lt n q.0) ps) [
      | true ↦ λ e. absurd (omega (arith, ltb-true n p.0 e, le))
      | false ↦ λ e. refl
    ] refl

below-later : (n : ℕ) (ps : Places) (k : ℕ) (p : ℕ × ℕ) → AllByRecursion (λ q. n < q) (keys_of ps) → slice_get ps k ≡ Some p → n < p.0
below-later n [] k p h is = absurd (none-some p is)
below-later n (q ∷ qs) zero p h is = subst (λ (x : ℕ × ℕ). n < x.0) (same_Some q p is) h.0
below-later n (q ∷ qs) (suc k) p h is = below-later n qs k p h.1 is

-- above the k-th receiver are the later ones
above-at : (ps : Places) (k : ℕ) (p : ℕ × ℕ) → IsRising (keys_of ps) → slice_get ps k ≡ Some p → above (Some p.0) ps ≡ drop (suc k) ps
above-at [] k p r is = absurd (none-some p is)
above-at (q ∷ qs) zero p r is =
    subst (λ (x : ℕ × ℕ). above (Some x.0) (q ∷ qs) ≡ qs) (same_Some q p is) (not-above q.0 q qs (omega arith) ∙ all-above q.0 qs r.0)
above-at (q ∷ qs) (suc k) p r is =
    let lt : q.0 < p.0 = below-later q.0 qs k p r.0 is in
    not-above p.0 q qs (omega (arith, lt)) ∙ above-at qs k p r.1 is

pub above-next : (ps : Places) (k : ℕ) (p : ℕ × ℕ) → IsRising (keys_of ps) → slice_get ps k ≡ Some p → above (Some p.0) ps ≡ drop (k + 1) ps
above-next ps k p r is = rw add-one (above-at ps k p r is)

-- the first of the later ones is the k-th
pub first-of-drop : (ps : Places) (k : ℕ) → slice_get (drop k ps) 0 ≡ slice_get ps k
first-of-drop ps zero = refl
first-of-drop [] (suc k) = refl
first-of-drop (q ∷ qs) (suc k) = first-of-drop qs k

front-rest : (ps : Places) (k : ℕ) (p : ℕ × ℕ) → slice_get ps k ≡ Some p → ps ≡ take k ps ++ p ∷ drop (suc k) ps
front-rest [] k p is = absurd (none-some p is)
front-rest (q ∷ qs) zero p is = ap (λ x. x ∷ qs) (same_Some q p is)
front-rest (q ∷ qs) (suc k) p is = ap (λ l. q ∷ l) (front-rest qs k p is)

-- the k-th receiver goes behind those before it
pub next-placed : (ps : Places) (k : ℕ) (p : ℕ × ℕ) → IsRising (keys_of ps) → slice_get ps k ≡ Some p →
    with_place (take k ps) p.0 p.1 ≡ take (k + 1) ps
next-placed ps k p r is =
    let front = front-below (take k ps) p (drop (suc k) ps) (rw (← front-rest ps k p is) r) in
    entry-last (take k ps) p.0 p.1 front ∙ sym (take-next ps k p is)

-- What is left of sessions, and what is taken of it.
use Rattle.std.proofs.Common.{◌≡◌, ℕ, zero, suc, ◌+◌, ◌<◌, ◌≤◌, List, [], ◌∷◌, length, drop, set, Some, None, slice_get, refl, sym, ap, ◌∙◌, inl, inr, arith}
use Rattle.std.specs.declared.vec.Vec.{Vec}
use Rattle.std.proofs.lemmas.Option.{none-some, same_Some, slice_get_past, slice_get_within}
use Rattle.th_orders.specs.declared.rests.EventAt.{EventAt}
use Rattle.th_orders.specs.Orders.{Takes, first_of}
use Rattle.th_orders.specs.Rests.{rests}

-- the event at a number
first-drop : (es : List EventAt) (n : ℕ) → first_of (Some (drop n es)) ≡ slice_get es n
first-drop [] zero = refl
first-drop [] (suc n) = refl
first-drop (e ∷ es) zero = refl
first-drop (e ∷ es) (suc n) = first-drop es n

drop-next : (es : List EventAt) (n : ℕ) (e : EventAt) → slice_get es n ≡ Some e → drop n es ≡ e ∷ drop (suc n) es
drop-next [] n e h = absurd (none-some e h)
drop-next (x ∷ es) zero e h = ap (λ y. y ∷ es) (same_Some x e h)
drop-next (x ∷ es) (suc n) e h = drop-next es n e h

module _ {Z : Type 0} where
  pub length-rests : (ns : List ℕ) (ss : List (Vec EventAt Z)) → length ns ≡ length ss → length (rests ns ss) ≡ length ss
  length-rests [] [] same = refl
  length-rests [] (s ∷ ss) same = omega (arith, same)
  length-rests (n ∷ ns) [] same = refl
  length-rests (n ∷ ns) (s ∷ ss) same = omega (arith, length-rests ns ss (omega (arith, same)))

  -- the first event that is left of a session, as it is looked up
  pub first-past : (ns : List ℕ) (ss : List (Vec EventAt Z)) (k : ℕ) → length ns ≡ length ss → length ss ≤ k →
      first_of (slice_get (rests ns ss) k) ≡ None
  first-past ns ss k same past = ap first_of (slice_get_past (rests ns ss) k (omega (arith, length-rests ns ss same, past)))

  pub first-at : (ns : List ℕ) (ss : List (Vec EventAt Z)) (k n : ℕ)
      (s : Vec EventAt Z) → slice_get ns k ≡ Some n → slice_get ss k ≡ Some s →
      first_of (slice_get (rests ns ss) k) ≡ slice_get s.items n
  first-at [] ss k n s at is = absurd (none-some n at)
  first-at (m ∷ ns) [] k n s at is = absurd (none-some s is)
  first-at (m ∷ ns) (r ∷ ss) zero n s at is = first-drop r.items m
      ∙ ap (λ (v : Vec EventAt Z). slice_get v.items m) (same_Some r s is) ∙ ap (slice_get s.items) (same_Some m n at)
  first-at (m ∷ ns) (r ∷ ss) (suc k) n s at is = first-at ns ss k n s at is

  -- and as it is taken
  pub takes-at : (ns : List ℕ) (ss : List (Vec EventAt Z)) (k n : ℕ) (e : EventAt) → slice_get ns k ≡ Some n →
      first_of (slice_get (rests ns ss) k) ≡ Some e → Takes (rests ns ss) e (rests (set ns k (n + 1)) ss)
  takes-at [] ss k n e at h = absurd (none-some n at)
  takes-at (m ∷ ns) [] k n e at h = absurd (none-some e h)
  takes-at (m ∷ ns) (r ∷ ss) zero n e at h =
      let next : suc m ≡ n + 1 = omega (arith, same_Some m n at) in
      inl (drop (n + 1) r.items, drop-next r.items m e (sym (first-drop r.items m) ∙ h) ∙ ap (λ j. e ∷ drop j r.items) next, refl)
  takes-at (m ∷ ns) (r ∷ ss) (suc k) n e at h = inr (rests (set ns k (n + 1)) ss, refl, takes-at ns ss k n e at h)

  pub takes-others : (ns : List ℕ) (ss : List (Vec EventAt Z)) (k n j : ℕ) → (j ≡ k → ⊥) →
      slice_get (rests (set ns k n) ss) j ≡ slice_get (rests ns ss) j
  takes-others [] ss k n j ne = refl
  takes-others (m ∷ ns) [] zero n j ne = refl
  takes-others (m ∷ ns) [] (suc k) n j ne = refl
  takes-others (m ∷ ns) (r ∷ ss) zero n zero ne = absurd (ne refl)
  takes-others (m ∷ ns) (r ∷ ss) zero n (suc j) ne = refl
  takes-others (m ∷ ns) (r ∷ ss) (suc k) n zero ne = refl
  takes-others (m ∷ ns) (r ∷ ss) (suc k) n (suc j) ne = takes-others ns ss k n j (λ e. ne (ap suc e))

  -- of such an event
  pub session-within : (ns : List ℕ) (ss : List (Vec EventAt Z)) (k : ℕ) (e : EventAt) → first_of (slice_get (rests ns ss) k) ≡ Some e →
      k < length ns
  session-within [] ss k e h = absurd (none-some e h)
  session-within (m ∷ ns) [] k e h = absurd (none-some e h)
  session-within (m ∷ ns) (r ∷ ss) zero e h = omega arith
  session-within (m ∷ ns) (r ∷ ss) (suc k) e h = omega (arith, session-within ns ss k e h)

  pub number-within : (ns : List ℕ) (ss : List (Vec EventAt Z)) (k n : ℕ) (e : EventAt) → slice_get ns k ≡ Some n →
      first_of (slice_get (rests ns ss) k) ≡ Some e → (s : Vec EventAt Z) × (n < length s.items)
  number-within [] ss k n e at h = absurd (none-some n at)
  number-within (m ∷ ns) [] k n e at h = absurd (none-some e h)
  number-within (m ∷ ns) (r ∷ ss) zero n e at h =
      (r, omega (arith, same_Some m n at, slice_get_within r.items m e (sym (first-drop r.items m) ∙ h)))
  number-within (m ∷ ns) (r ∷ ss) (suc k) n e at h = number-within ns ss k n e at h

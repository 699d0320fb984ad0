-- A search for an order never has to go back.
use Rattle.std.proofs.Common.{◌≡◌, ◌≢◌, ℕ, zero, suc, ◌+◌, ◌<◌, ◌≤◌, ◌⊎◌, true, false, eqb, List, [], ◌∷◌, Some, slice_get, refl, sym, ap, subst, ◌∙◌, inl, inr, arith}
use Rattle.std.proofs.lemmas.Bool.{eqb-true, eqb-false}
use Rattle.std.proofs.lemmas.Option.{none-some, same_Some}
use Rattle.th_orders.specs.declared.rests.EventAt.{EventAt}
use Rattle.th_orders.specs.Orders.{Along, AreOver, IsNext, IsOrder, Nexts, NoChoiceIsWrong, Sessions, Takes, advanced}

pub head_is : {X : Type 0} (x y : X) (xs ys : List X) → (x ∷ xs) ≡ (y ∷ ys) → x ≡ y
head_is x y xs ys e = cc

pub tail_is : {X : Type 0} (x y : X) (xs ys : List X) → (x ∷ xs) ≡ (y ∷ ys) → xs ≡ ys
tail_is x y xs ys e = cc

pub cons_not : {X : Type 0} (x : X) (xs : List X) → [] ≡ (x ∷ xs) → ⊥
cons_not x xs e = cc

-- nothing is taken where all are over
none_left : (ss : Sessions) (x : EventAt) (new : Sessions) → AreOver ss → Takes ss x new → ⊥
none_left [] x new h t = t
none_left (s ∷ ss) x new h (inl t) = cons_not x t.0 (sym h.0 ∙ t.1)
none_left (s ∷ ss) x new h (inr t) = none_left ss x t.0 h.1 t.2

-- two are taken in either order
abbrev Both : EventAt → EventAt → Sessions → Sessions → Type 0
Both e x two one = ((e ≡ x) × (two ≡ one)) ⊎ ((last : Sessions) × Takes two x last × Takes one e last)

both : (ss : Sessions) (e x : EventAt) (two one : Sessions) → Takes ss e two → Takes ss x one → Both e x two one
both [] e x two one t u = absurd t
both (s ∷ ss) e x two one (inl t) (inl u) =
    let same : (e ∷ t.0) ≡ (x ∷ u.0) = sym t.1 ∙ u.1 in
    inl (head_is e x t.0 u.0 same, t.2 ∙ ap (λ (z : List EventAt). z ∷ ss) (tail_is e x t.0 u.0 same) ∙ sym u.2)
both (s ∷ ss) e x two one (inl t) (inr u) = inr (
  t.0 ∷ u.0,
  subst (λ z. Takes z x (t.0 ∷ u.0)) (sym t.2) (inr (u.0, refl, u.2)),
  subst (λ z. Takes z e (t.0 ∷ u.0)) (sym u.1) (inl (t.0, t.1, refl)),
)
both (s ∷ ss) e x two one (inr t) (inl u) = inr (
  u.0 ∷ t.0,
  subst (λ z. Takes z x (u.0 ∷ t.0)) (sym t.1) (inl (u.0, u.1, refl)),
  subst (λ z. Takes z e (u.0 ∷ t.0)) (sym u.2) (inr (t.0, refl, t.2)),
)
both (s ∷ ss) e x two one (inr t) (inr u) = elim (both ss e x t.0 u.0 t.2 u.2) as (λ _. Both e x two one) [
  | inl b ↦ inl (b.0, t.1 ∙ ap (λ (z : Sessions). s ∷ z) b.1 ∙ sym u.1)
  | inr b ↦ inr (
    s ∷ b.0,
    subst (λ z. Takes z x (s ∷ b.0)) (sym t.1) (inr (b.0, refl, b.1)),
    subst (λ z. Takes z e (s ∷ b.0)) (sym u.1) (inr (b.0, refl, b.2)),
  )
]

-- the next places
swap : (c : Nexts) (s t : ℕ) → advanced (advanced c s) t ≡ advanced (advanced c t) s
swap [] s t = refl
swap (n ∷ c) zero zero = refl
swap (n ∷ c) zero (suc t) = refl
swap (n ∷ c) (suc s) zero = refl
swap (n ∷ c) (suc s) (suc t) = ap (λ (d : Nexts). n ∷ d) (swap c s t)

pub other : (c : Nexts) (t u : ℕ) → u ≢ t → slice_get (advanced c t) u ≡ slice_get c u
other [] t u ne = refl
other (n ∷ c) zero zero ne = absurd (ne refl)
other (n ∷ c) zero (suc u) ne = refl
other (n ∷ c) (suc t) zero ne = refl
other (n ∷ c) (suc t) (suc u) ne = other c t u (λ e. ne (ap suc e))

-- at least as far as before, and further where it is that topic's
pub more : (c : Nexts) (t u n : ℕ) → slice_get c u ≡ Some n → (m : ℕ) × (slice_get (advanced c t) u ≡ Some m) × (n ≤ m)
more [] t u n h = absurd (none-some n h)
more (k ∷ c) zero zero n h = (k + 1, refl, omega (arith, same_Some k n h))
more (k ∷ c) zero (suc u) n h = (n, h, omega arith)
more (k ∷ c) (suc t) zero n h = (n, h, omega arith)
more (k ∷ c) (suc t) (suc u) n h = more c t u n h

pub raised : (c : Nexts) (t n : ℕ) → slice_get c t ≡ Some n → slice_get (advanced c t) t ≡ Some (n + 1)
raised [] t n h = absurd (none-some n h)
raised (k ∷ c) zero n h = ap (λ (i : ℕ). Some (i + 1)) (same_Some k n h)
raised (k ∷ c) (suc t) n h = raised c t n h

-- an event whose place has gone by is taken by nobody
stale : (c : Nexts) (ss : Sessions) (es : List EventAt) (c' : Nexts) (ss' : Sessions) (x : EventAt) (one : Sessions) (n : ℕ) →
    Along c ss es c' ss' → AreOver ss' → Takes ss x one → slice_get c x.topic ≡ Some n → x.place < n → ⊥
stale c ss [] c' ss' x one n m over t at lt = none_left ss x one (subst AreOver m.1 over) t
stale c ss (e ∷ es) c' ss' x one n m over t at lt = elim (both ss e x m.0 one m.1 t) as (λ _. ⊥) [
  | inl b ↦
      let here : slice_get c x.topic ≡ Some x.place = subst (λ (z : EventAt). IsNext c z) b.0 m.2 in
      omega (arith, same_Some n x.place (sym at ∙ here), lt)
  | inr b ↦
      let k = more c e.topic x.topic n at in
      stale (advanced c e.topic) m.0 es c' ss' x b.0 k.0 m.3 over b.1 k.1 (omega (arith, lt, k.2))
]

pub greedy : NoChoiceIsWrong
greedy c ss [] x one (c', ss', m, over) t here = absurd (none_left ss x one (subst AreOver m.1 over) t)
greedy c ss (e ∷ es) x one (c', ss', m, over) t here =
    let Rest : Type 0 = (rest : List EventAt) × IsOrder (advanced c x.topic) one rest in
    elim (both ss e x m.0 one m.1 t) as (λ _. Rest) [
      | inl b ↦ (
        es,
        (
          c',
          ss',
          subst (λ (z : EventAt). Along (advanced c z.topic) one es c' ss') b.0
              (subst (λ z. Along (advanced c e.topic) z es c' ss') b.1 m.3),
          over,
        ),
      )
      | inr b ↦ elim (eqb x.topic e.topic) as (λ q. eqb x.topic e.topic ≡ q → Rest) [
        | true ↦ λ q.
            let same : x.topic ≡ e.topic = eqb-true x.topic e.topic q in
            let past : slice_get (advanced c e.topic) x.topic ≡ Some (x.place + 1) =
            subst (λ (u : ℕ). slice_get (advanced c u) x.topic ≡ Some (x.place + 1)) same (raised c x.topic x.place here) in
            absurd (stale (advanced c e.topic) m.0 es c' ss' x b.0 (x.place + 1) m.3 over b.1 past (omega arith))
        | false ↦ λ q.
            let ne = eqb-false x.topic e.topic q in
            let got = greedy (advanced c e.topic) m.0 es x b.0 (c', ss', m.3, over) b.1 (other c e.topic x.topic ne ∙ here) in
            let end = got.1 in
            let next = other c x.topic e.topic (λ z. ne (sym z)) ∙ m.2 in
            let rest = subst (λ d. Along d b.0 got.0 end.0 end.1) (swap c e.topic x.topic) end.2 in
            (e ∷ got.0, (end.0, end.1, (b.0, b.2, next, rest), end.3))
      ] refl
    ]

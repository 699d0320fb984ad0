-- A whole diary tells, in order, the entries of its handle and nothing else.
use Rattle.std.proofs.Common.{◌≡◌, ℕ, suc, ◌+◌, ◌-◌, ◌<◌, ◌≤◌, Bool, true, false, cond, eqb, List, [], ◌∷◌, map, Some, slice_get, refl, sym, ap, subst, ◌∙◌, inl, inr, arith}
use Rattle.std.specs.List.{AllByRecursion}
use Rattle.std.proofs.lemmas.Bool.{eqb-true, eqb-false}
use Rattle.std.proofs.lemmas.Option.{same_Some, none-some}
use Rattle.th_model.specs.Handles.{IsRising}
use Rattle.th_log.specs.Outcome.{Told}
use Rattle.th_accounts.specs.Whole.{picked, said_in, IsAt, Names}

module _ {C R : Type 0} where
  abbrev Later : ℕ → List (Told C R) → Type 0
  Later a d = AllByRecursion (λ x. a < x) (map (λ (t : Told C R). t.place) d)

  unnamed : (k a : ℕ) (d : List (Told C R)) → k ≤ a → Later a d → Names k d → ⊥
  unnamed k a [] le h n = n
  unnamed k a (t ∷ d) le h (inl e) = omega (arith, e, le, h.0)
  unnamed k a (t ∷ d) le h (inr n) = unnamed k a d le h.1 n

  on : (f : ℕ) (e : C × R) (es : List (C × R)) (t : Told C R) → f < t.place → IsAt f (e ∷ es) t → IsAt (f + 1) es t
  on f e es t lt h =
      let same : t.place - f ≡ suc (t.place - (f + 1)) = omega (arith, lt) in
      (omega (arith, lt), subst (λ i. slice_get (e ∷ es) i ≡ Some (t.call, t.reply)) same h.1)

  all_on : (f : ℕ) (e : C × R) (es : List (C × R)) (d : List (Told C R)) → Later f d → AllByRecursion (IsAt f (e ∷ es)) d → AllByRecursion
      (IsAt (f + 1) es) d
  all_on f e es [] l h = tt
  all_on f e es (t ∷ d) l h = (on f e es t l.0 h.0, all_on f e es d l.1 h.1)

  later : (a b : ℕ) (d : List (Told C R)) → a ≤ b → Later b d → Later a d
  later a b [] le h = tt
  later a b (t ∷ d) le h = (omega (arith, le, h.0), later a b d le h.1)

  abbrev All : (C → Bool) → ℕ → List (C × R) → List (Told C R) → Type 0
  All mine f es d = (k : ℕ) (e : C × R) → slice_get es k ≡ Some e → mine e.0 ≡ true → Names (f + k) d

  pub whole : (mine : C → Bool) (f : ℕ) (es : List (C × R)) (d : List (Told C R)) → AllByRecursion (IsAt f es) d → IsRising
      (map (λ (t : Told C R). t.place) d) → AllByRecursion (λ t. mine t.call ≡ true) d → All mine f es d → said_in d ≡ picked mine es
  whole mine f [] [] h r o a = refl
  whole mine f [] (t ∷ d) h r o a = absurd (none-some _ h.0.1)
  whole mine f (e ∷ es) [] h r o a = elim (mine e.0) as (λ b. mine e.0 ≡ b → [] ≡ cond b (e ∷ picked mine es) (picked mine es)) [
    | true ↦ λ u. absurd (a 0 e refl u)
    | false ↦ λ u. whole mine (f + 1) es [] tt tt tt (λ k x g v. a (suc k) x g v)
  ] refl
  whole mine f (e ∷ es) (t ∷ d) h r o a = elim (eqb t.place f) as (λ b. eqb t.place f ≡ b → said_in (t ∷ d) ≡ picked mine (e ∷ es)) [
    | true ↦ λ q.
        let here : t.place ≡ f = eqb-true t.place f q in
        let zeroth : t.place - f ≡ 0 = omega (arith, here) in
        let is : e ≡ (t.call, t.reply) = same_Some e (t.call, t.reply)
        (subst (λ i. slice_get (e ∷ es) i ≡ Some (t.call, t.reply)) zeroth h.0.1) in
        let own : mine e.0 ≡ true = ap (λ (x : C × R). mine x.0) is ∙ o.0 in
        let l : Later f d = later f t.place d (omega (arith, here)) r.0 in
        let next : All mine (f + 1) es d = λ k x g v. elim (a (suc k) x g v) as (λ _. Names (f + 1 + k) d) [
          | inl n ↦ absurd (omega (arith, n, here))
          | inr n ↦ (let at : f + suc k ≡ f + 1 + k = omega arith in subst (λ i. Names i d) at n)
        ] in
        let rest = whole mine (f + 1) es d (all_on f e es d l h.1) r.1 o.1 next in
        rw own (ap (λ xs. (t.call, t.reply) ∷ xs) rest ∙ ap (λ x. x ∷ picked mine es) (sym is))
    | false ↦ λ q.
        let lt : f < t.place = omega (arith, h.0.0, eqb-false t.place f q) in
        let l : Later f (t ∷ d) = (lt, later f t.place d (omega (arith, lt)) r.0) in
        let next : All mine (f + 1) es (t ∷ d) = λ k x g v.
        (let at : f + suc k ≡ f + 1 + k = omega arith in subst (λ i. Names i (t ∷ d)) at (a (suc k) x g v)) in
        let rest = whole mine (f + 1) es (t ∷ d) (all_on f e es (t ∷ d) l h) r o next in
        elim (mine e.0) as (λ b. mine e.0 ≡ b → said_in (t ∷ d) ≡ cond b (e ∷ picked mine es) (picked mine es)) [
          | true ↦ λ u. absurd (unnamed (f + 0) f (t ∷ d) (omega arith) l (a 0 e refl u))
          | false ↦ λ u. rest
        ] refl
  ] refl

-- Lists that compare equal entry by entry are one, where entries that compare equal are.
use Rattle.std.proofs.Common.{◌≡◌, ◌↔◌, ℕ, Bool, ◌&&◌, List, [], ◌∷◌, refl, ap, ◌∙◌}
use Rattle.std.specs.Prelude.{IsTrue, eqb}
use Rattle.std.specs.Cmp.Lexicographic.{pointwise}
use Rattle.std.proofs.lemmas.Bool.{false≢true, eqb-true, eq-eqb}
use mathlib.Core.Bool.{beq}
use Rattle.th_model.specs.WatchMachine.{IsExact}
use Rattle.th_model.proofs.Exact.{and-left, and-right, both, same_bool, bool_same}

pub exact_list : {X : Type 0} (eq : X → X → Bool) → IsExact eq → (xs ys : List X) → IsTrue (pointwise eq xs ys) ↔ (xs ≡ ys)
exact_list eq exact [] [] = (λ h. refl, λ e. refl)
exact_list eq exact [] (y ∷ ys) = (λ h. absurd (false≢true h), λ e. cc)
exact_list eq exact (x ∷ xs) [] = (λ h. absurd (false≢true h), λ e. cc)
exact_list eq exact (x ∷ xs) (y ∷ ys) = (
  λ h. ap (λ z. z ∷ xs) ((exact x y).0 (and-left _ _ h)) ∙ ap (λ l. y ∷ l) ((exact_list eq exact xs ys).0 (and-right _ _ h)),
  λ e. both ((exact x y).1 (cc)) ((exact_list eq exact xs ys).1 (cc)),
)

pub exact_number : IsExact eqb
exact_number x y = (eqb-true x y, eq-eqb x y)

pub exact_bool : IsExact beq
exact_bool x y = (same_bool x y, bool_same x y)

pub exact_pair : {X Y : Type 0} (eq : X → X → Bool) (eq' : Y → Y → Bool) → IsExact eq → IsExact eq' →
    IsExact {T = X × Y} (λ p q. eq p.0 q.0 && eq' p.1 q.1)
exact_pair {X = X} {Y = Y} eq eq' exact exact' p q = (
  λ h. ap (λ (x : X). (x, p.1)) ((exact p.0 q.0).0 (and-left _ _ h)) ∙ ap (λ (y : Y). (q.0, y)) ((exact' p.1 q.1).0 (and-right _ _ h)),
  λ e. both ((exact p.0 q.0).1 (ap (λ (r : X × Y). r.0) e)) ((exact' p.1 q.1).1 (ap (λ (r : X × Y). r.1) e)),
)

abbrev pub same_place : ℕ × ℕ → ℕ × ℕ → Bool
same_place p q = eqb p.0 q.0 && eqb p.1 q.1

pub exact_place : IsExact same_place
exact_place = exact_pair eqb eqb exact_number exact_number

abbrev pub same_reader : ℕ × Bool → ℕ × Bool → Bool
same_reader p q = eqb p.0 q.0 && beq p.1 q.1

pub exact_reader : IsExact same_reader
exact_reader = exact_pair eqb beq exact_number exact_bool

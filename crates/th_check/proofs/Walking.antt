-- What holds of what is left of a list, as a loop goes over it.
use Rattle.std.proofs.Common.{◌≡◌, ℕ, zero, suc, ◌+◌, ◌<◌, ◌≤◌, List, [], ◌∷◌, drop, get_or, length, refl, sym, subst, arith}
use Rattle.std.specs.List.{AllByRecursion}
use Rattle.std.proofs.lemmas.List.{drop_more}

-- one element more
pub one_more : {X : Type 0} (P : X → Type 0) (xs : List X) (k : ℕ) (x : X) → k < length xs → x ≡ get_or xs k x → P x →
    AllByRecursion P (drop (k + 1) xs) → AllByRecursion P (drop k xs)
one_more P xs k x low is p rest = subst (AllByRecursion P) (sym (drop_more xs k x low)) (subst P is p, rest)

-- none is left
pub none_left : {X : Type 0} (P : X → Type 0) (xs : List X) (k : ℕ) → length xs ≤ k → AllByRecursion P (drop k xs)
none_left P [] zero h = tt
none_left P [] (suc k) h = tt
none_left P (x ∷ xs) zero h = absurd (omega (arith, h))
none_left P (x ∷ xs) (suc k) h = none_left P xs k (omega (arith, h))

-- a list without an element is empty
pub empty : {X : Type 0} (xs : List X) → length xs ≡ 0 → xs ≡ []
empty [] h = refl
empty (x ∷ xs) h = absurd (omega (arith, h))

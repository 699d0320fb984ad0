-- What is true of each element of a list, by its place.
use Rattle.std.proofs.Common.{◌<◌, ◌++◌, ◌∷◌, ℕ, List, [], arith, below_more, length, length-append, refl, subst, sym}
use Rattle.std.specs.Prelude.{get_or}
use Rattle.std.proofs.lemmas.List.{get_or_append_left, get_or_push}

-- With one element more at the end of which it is true too, it is true of each.
pub each_grown : {T : Type 0} (P : ℕ → T → Type 0) (xs : List T) (y : T) →
    ((at : ℕ) (other : T) → at < length xs → P at (get_or xs at other)) → P (length xs) y →
    (at : ℕ) (other : T) → at < length (xs ++ y ∷ []) → P at (get_or (xs ++ y ∷ []) at other)
each_grown P xs y each last at other below =
    below_more (λ i. P i (get_or (xs ++ y ∷ []) i other)) (length xs)
    (λ i low. subst (P i) (sym (get_or_append_left xs (y ∷ []) other i low)) (each i other low))
    (subst (P (length xs)) (sym (get_or_push xs y other (length xs) refl)) last)
    at (omega (arith, below, length-append xs (y ∷ [])))

-- Lines that are printed piece by piece.
use Rattle.std.specs.Prelude.{◌≡◌, ℕ, Bool, true, false, List, [], ◌∷◌, ◌++◌, Result, Ok, Err}

-- the first of the pieces to come was appended, or there was none, or no memory for it
abbrev pub PrintsNext : {E : Type 0} → (to_come after : List (List ℕ)) → (old new : List ℕ)
    → Result Bool E → Type 0
PrintsNext to_come after old new (Ok true) =
    (next : List ℕ) × (to_come ≡ next ∷ after) × (new ≡ old ++ next)
PrintsNext to_come after old new (Ok false) = (to_come ≡ []) × (after ≡ []) × (new ≡ old)
PrintsNext to_come after old new (Err e) = (after ≡ to_come) × (new ≡ old)

-- What actors hold, found and changed where all that they have is.
use Rattle.std.proofs.Common.{◌≡◌, ℕ, zero, suc, List, [], ◌∷◌, ◌++◌, length, slice_get, Option, Some, refl, sym, ap, ◌∙◌}
use Rattle.std.specs.Prelude.{map, remove}
use Rattle.std.specs.Map.{keys_of, values_of}
use Rattle.std.specs.Option.{option_map}
use Rattle.std.proofs.lemmas.Option.{same_Some, slice_get-map}
use Rattle.indexmap.specs.IndexMap.{set_value_at}
use Rattle.th_session.specs.Held.{Holding}
use Rattle.th_session.specs.Kept.{Kept}
use Rattle.th_replay.specs.Schedule.{Actors, holdings}

-- the actors, each with all that it has
abbrev pub All : Type 0
All = List (List ℕ × Kept)

abbrev pub handles : Kept → Holding
handles k = k.handles

pub keys-held : (actors : All) → keys_of (holdings actors) ≡ keys_of actors
keys-held [] = refl
keys-held (a ∷ actors) = ap (λ (names : List (List ℕ)). a.0 ∷ names) (keys-held actors)

values-held : (actors : All) → values_of (holdings actors) ≡ map handles (values_of actors)
values-held [] = refl
values-held (a ∷ actors) = ap (λ (all : List Holding). a.1.handles ∷ all) (values-held actors)

pub at-held : (actors : All) (place : ℕ) →
    slice_get (values_of (holdings actors)) place ≡ option_map handles (slice_get (values_of actors) place)
at-held actors place =
    ap (λ (all : List Holding). slice_get all place) (values-held actors) ∙ slice_get-map handles (values_of actors) place

pub held-at : (actors : All) (place : ℕ) (o : Option (List ℕ × Kept)) → o ≡ slice_get actors place →
    slice_get (values_of (holdings actors)) place ≡ option_map (λ (a : List ℕ × Kept). a.1.handles) o
held-at [] place o e = ap (option_map (λ (a : List ℕ × Kept). a.1.handles)) (sym e)
held-at (a ∷ actors) zero o e = ap (option_map (λ (a : List ℕ × Kept). a.1.handles)) (sym e)
held-at (a ∷ actors) (suc place) o e = held-at actors place o e

pub length-held : (actors : All) → length (holdings actors) ≡ length actors
length-held [] = refl
length-held (a ∷ actors) = ap suc (length-held actors)

pub set-held : (actors : All) (place : ℕ) (k : Kept) →
    holdings (set_value_at actors place k) ≡ set_value_at (holdings actors) place k.handles
set-held [] place k = refl
set-held (a ∷ actors) zero k = refl
set-held (a ∷ actors) (suc place) k = ap (λ (rest : Actors). (a.0, a.1.handles) ∷ rest) (set-held actors place k)

pub remove-held : (actors : All) (place : ℕ) → holdings (remove actors place) ≡ remove (holdings actors) place
remove-held [] zero = refl
remove-held [] (suc place) = refl
remove-held (a ∷ actors) zero = refl
remove-held (a ∷ actors) (suc place) = ap (λ (rest : Actors). (a.0, a.1.handles) ∷ rest) (remove-held actors place)

pub append-held : (actors : All) (name : List ℕ) (k : Kept) →
    holdings (actors ++ (name, k) ∷ []) ≡ holdings actors ++ (name, k.handles) ∷ []
append-held [] name k = refl
append-held (a ∷ actors) name k = ap (λ (rest : Actors). (a.0, a.1.handles) ∷ rest) (append-held actors name k)

-- what is there is set again
pub set-same : (actors : Actors) (place : ℕ) (held : Holding) → slice_get (values_of actors) place ≡ Some held →
    set_value_at actors place held ≡ actors
set-same [] place held there = refl
set-same (a ∷ actors) zero held there = ap (λ (h : Holding). (a.0, h) ∷ actors) (sym (same_Some a.1 held there))
set-same (a ∷ actors) (suc place) held there = ap (λ (rest : Actors). a ∷ rest) (set-same actors place held there)

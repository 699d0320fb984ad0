-- A diary that has all that a handle was told.
use Rattle.std.specs.Prelude.{◌≡◌, ◌⊎◌, ℕ, ◌+◌, ◌-◌, ◌≤◌, Bool, true, if◌then◌else◌, List, [], ◌∷◌, map, Some, slice_get}
use Rattle.std.specs.List.{AllByRecursion}
use Rattle.th_model.specs.Handles.{IsRising}
use Rattle.th_log.specs.Outcome.{Told}

module _ {C R : Type 0} where
  -- the entries whose calls are these
  abbrev pub picked : (C → Bool) → List (C × R) → List (C × R)
  picked mine [] = []
  picked mine (e ∷ es) = if mine e.0 then e ∷ picked mine es else picked mine es

  -- what a diary tells, without places
  abbrev pub said_in : List (Told C R) → List (C × R)
  said_in d = map (λ (t : Told C R). (t.call, t.reply)) d

  -- the receipt is of the entry at its place, of entries that begin at the place f
  abbrev pub IsAt : ℕ → List (C × R) → Told C R → Type 0
  IsAt f es t = (f ≤ t.place) × (slice_get es (t.place - f) ≡ Some (t.call, t.reply))

  abbrev pub Names : ℕ → List (Told C R) → Type 0
  Names k [] = ⊥
  Names k (t ∷ ts) = (k ≡ t.place) ⊎ Names k ts

  -- a good diary, of these calls alone, which names each entry with such a call
  pub record IsWhole (mine : C → Bool) (f : ℕ) (es : List (C × R)) (d : List (Told C R)) :
      Type 0 where
    pub stand : AllByRecursion (IsAt f es) d
    pub rise : IsRising (map (λ (t : Told C R). t.place) d)
    pub own : AllByRecursion (λ t. mine t.call ≡ true) d
    pub all : (k : ℕ) (e : C × R) → slice_get es k ≡ Some e → mine e.0 ≡ true → Names (f + k) d

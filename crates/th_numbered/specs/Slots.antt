-- How the entries lie in a list with gaps: a gap keeps the number of the entry that was there.
use Rattle.std.specs.Prelude.{◌≡◌, ℕ, zero, suc, ◌<◌, List, [], ◌∷◌, take, Option, Some, None, Result}
use Rattle.std.specs.declared.result.Result.TheVariants.{Ok, Err}
use Rattle.std.specs.List.{AllByRecursion}
use Rattle.std.specs.List.Sorted.{IsStrictlySortedBy}
use Rattle.std.specs.Ordering.{nat_cmp}
use Rattle.std.specs.Map.{keys_of}

module _ {V : Type 0} where
  -- a slot before entries
  abbrev pub with_slot : ℕ → Option V → List (ℕ × V) → List (ℕ × V)
  with_slot n None es = es
  with_slot n (Some v) es = (n, v) ∷ es

  -- the entries of these slots
  abbrev pub present : List (ℕ × Option V) → List (ℕ × V)
  present [] = []
  present (s ∷ ss) = with_slot s.0 s.1 (present ss)

  -- the numbers rise, gaps and all
  abbrev pub AreRising : List (ℕ × Option V) → Type 0
  AreRising ss = IsStrictlySortedBy nat_cmp (keys_of ss)

  -- the first i slots are gaps
  abbrev pub StartsWithGaps : ℕ → List (ℕ × Option V) → Type 0
  StartsWithGaps i ss = present (take i ss) ≡ []

  -- the slot of number n is the i-th
  abbrev pub IsSlotOf : ℕ → List (ℕ × Option V) → ℕ → Type 0
  IsSlotOf n [] i = ⊥
  IsSlotOf n (s ∷ ss) zero = s.0 ≡ n
  IsSlotOf n (s ∷ ss) (suc i) = (s.0 < n) × IsSlotOf n ss i

  -- number n has no slot, and that of a new one would be the i-th
  abbrev pub IsRoomFor : ℕ → List (ℕ × Option V) → ℕ → Type 0
  IsRoomFor n ss zero = AllByRecursion (λ k. n < k) (keys_of ss)
  IsRoomFor n [] (suc i) = ⊥
  IsRoomFor n (s ∷ ss) (suc i) = (s.0 < n) × IsRoomFor n ss i

  -- where number n was found, or would be
  abbrev pub Finds : ℕ → List (ℕ × Option V) → Result ℕ ℕ → Type 0
  Finds n ss (Ok i) = IsSlotOf n ss i
  Finds n ss (Err i) = IsRoomFor n ss i

  -- with this in the i-th slot
  abbrev pub put_slot : List (ℕ × Option V) → ℕ → Option V → List (ℕ × Option V)
  put_slot [] i o = []
  put_slot (s ∷ ss) zero o = (s.0, o) ∷ ss
  put_slot (s ∷ ss) (suc i) o = s ∷ put_slot ss i o

  -- what is in the i-th slot
  abbrev pub slot_at : List (ℕ × Option V) → ℕ → Option V
  slot_at [] i = None
  slot_at (s ∷ ss) zero = s.1
  slot_at (s ∷ ss) (suc i) = slot_at ss i

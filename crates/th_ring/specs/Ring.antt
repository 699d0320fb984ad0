-- A shelf as a ring of counted slots: the value at a position stands in the slot of its low bits.
use Rattle.std.specs.Prelude.{◌≡◌, ◌+◌, ◌-◌, ◌%◌, ◌<◌, ◌≤◌, ℕ, zero, suc, List, [], ◌∷◌, length, get_or, slice_get, Option, Some, None}
use Rattle.th_model.specs.Limits.{IsCapacity}
use Rattle.th_model.specs.Places.{Places, ArePlaces, low_of, to_come}
use Rattle.th_model.specs.Window.{Window}
use Rattle.th_ring.specs.declared.slot.Slot.{Slot}
use Rattle.th_ring.specs.Slot.{IsSlot, vacant}

module _ {T : Type 0} where
  -- the slot of a position
  abbrev pub slot_at : List (Slot T) → ℕ → ℕ → Slot T
  slot_at slots capacity i = get_or slots (i % capacity) vacant

  -- the value, where there is one, before others
  abbrev pub and_then : Option T → List T → List T
  and_then None values = values
  and_then (Some v) values = v ∷ values

  -- the values of n positions from i on
  unfoldable pub values_from : List (Slot T) → ℕ → ℕ → ℕ → List T
  values_from slots capacity i zero = []
  values_from slots capacity i (suc n) =
      and_then (slot_at slots capacity i).value (values_from slots capacity (i + 1) n)

  -- Each position of the window has its slot, with a count of the receivers that have still to read
  -- it. The slots that were never used are vacant.
  pub record IsRing (capacity tail : ℕ) (slots : List (Slot T)) (places : Places) : Type 0 where
    pub is_capacity : IsCapacity capacity
    pub size : length slots ≡ capacity
    pub places_in : ArePlaces tail places
    pub counted : (i : ℕ) → tail ≤ i + capacity → i < tail
        → IsSlot (to_come places i) (slot_at slots capacity i)
    pub unused : (i : ℕ) → tail ≤ i → i < capacity → IsSlot 0 (slot_at slots capacity i)

  -- the slot of a position, of a window that has these values from `low` on
  abbrev pub filled_slot : ℕ → List T → Places → ℕ → Slot T
  filled_slot low kept places i =
      record { value = slice_get kept (i - low); to_come = to_come places i }

  -- in the window of the slots from `first` to the tail, those outside of them are as they were
  abbrev pub AreOthersSame : ℕ → ℕ → ℕ → List (Slot T) → List (Slot T) → Type 0
  AreOthersSame capacity first tail old new =
      (i : ℕ) → tail ≤ i + capacity → i < first + capacity → (first ≤ i → tail ≤ i)
      → slot_at new capacity i ≡ slot_at old capacity i

  -- the kept values: those from the least kept position to the tail
  abbrev pub ring_kept : ℕ → ℕ → List (Slot T) → Places → List T
  ring_kept capacity tail slots places =
      let low = low_of tail capacity places in
      values_from slots capacity low (tail - low)

  -- the window that the fields stand for
  abbrev pub ring_window : ℕ → ℕ → List (Slot T) → Places → Window T
  ring_window capacity tail slots places = record {
    capacity = capacity;
    tail = tail;
    low = low_of tail capacity places;
    kept = ring_kept capacity tail slots places;
    places = places;
  }

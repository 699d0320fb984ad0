-- Who waits for an event, and who is to be looked at.
use Rattle.std.specs.Prelude.{◌≡◌, ◌⊎◌, ℕ, ◌+◌, ◌^◌, ◌≤◌, ◌<◌, Bool, ◌&&◌, nat_eq, List, [], ◌∷◌, length, Option, Some, slice_get}
use Rattle.std.specs.HashMap.{HashMap, get}
use Rattle.th_orders.specs.declared.rests.EventAt.{EventAt}
use Rattle.th_orders.specs.Orders.{IsNext, Nexts, Sessions, first_of}
use Rattle.th_orders.specs.Rests.{left}

-- events by topic and place
abbrev pub same_event : ℕ × ℕ → ℕ × ℕ → Bool
same_event x y = nat_eq x.0 y.0 && nat_eq x.1 y.1

-- the session that was noted for an event
abbrev pub waits : {S : Type 0} → HashMap (ℕ × ℕ) ℕ S → EventAt → Option ℕ
waits m e = get same_event m (e.topic, e.place)

-- the number is among these
abbrev pub IsDue : List ℕ → ℕ → Type 0
IsDue [] k = ⊥
IsDue (d ∷ ds) k = (d ≡ k) ⊎ IsDue ds k

-- its topic's next place is behind the event
abbrev pub IsGone : Nexts → EventAt → Type 0
IsGone nexts e = (n : ℕ) × (slice_get nexts e.topic ≡ Some n) × (e.place < n)

-- A session that begins with the event is due, or it is noted as waiting for the event, which is not the next one.
abbrev pub IsAwaited : Nexts → Sessions → List ℕ → (EventAt → Option ℕ) → EventAt → Type 0
IsAwaited nexts ss due waiting e = (k : ℕ) × (first_of (slice_get ss k) ≡ Some e)
    × (IsDue due k ⊎ ((waiting e ≡ Some k) × (e.place < 2 ^ 64) × (IsNext nexts e → ⊥)))

-- So is each event with which a session begins, but for those that are gone.
abbrev pub AreSeenTo : Nexts → Sessions → List ℕ → (EventAt → Option ℕ) → Type 0
AreSeenTo nexts ss due waiting = (k : ℕ) (e : EventAt) → first_of (slice_get ss k) ≡ Some e
    → IsGone nexts e ⊎ IsAwaited nexts ss due waiting e

-- of the topic's next event the session that waits becomes due, and nobody else
pub record Wakes (nexts : Nexts) (waiting : EventAt → Option ℕ) (topic : ℕ)
    (due due' : List ℕ) : Type 0 where
  pub kept : (k : ℕ) → IsDue due k → IsDue due' k
  pub woken : (e : EventAt) (k : ℕ) → e.topic ≡ topic → e.place < 2 ^ 64 → IsNext nexts e
      → waiting e ≡ Some k → IsDue due' k
  pub few : length due' ≤ length due + 1

-- how often a search looks at a session at most, with so many due: each event taken makes two more due
abbrev pub looks_left : List ℕ → Sessions → ℕ
looks_left due ss = length due + (left ss + left ss)

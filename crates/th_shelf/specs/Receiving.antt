-- What a receive finds, and which receiver comes next where all are gone through.
use Rattle.std.specs.Prelude.{◌≡◌, ℕ, ◌+◌, ◌-◌, ◌<◌, nat_lt, Option, Some, None, slice_get}
use Rattle.std.specs.List.{filter}
use Rattle.th_model.specs.Places.{Places, place_of}
use Rattle.th_model.specs.Window.{Window, IsToRead, first_of, placed, skipped}
use Rattle.th_shelf.specs.declared.received.Received.{Received}
use Rattle.th_shelf.specs.declared.received.Received.TheVariants.{Nobody, Nothing, Missed, Value}

module _ {T : Type 0} where
  -- a receiver goes from behind the window to its beginning, and has missed so many values
  pub record Skips (w : Window T) (rx missed : ℕ) (w' : Window T) : Type 0 where
    pub from : ℕ
    pub place : place_of w.places rx ≡ Some from
    pub behind : from < first_of w
    pub count : missed ≡ first_of w - from
    pub moved : w' ≡ skipped w rx

  -- a receiver reads the value at its place, and stands at the next place then
  pub record Reads (w : Window T) (rx : ℕ) (value : T) (w' : Window T) : Type 0 where
    pub at : ℕ
    pub stands : IsToRead w rx at
    pub here : slice_get w.kept (at - w.low) ≡ Some value
    pub moved : w' ≡ placed w rx (at + 1)

  -- what a receive by rx finds, and the window after it
  abbrev pub Receives : Window T → ℕ → Received T → Window T → Type 0
  Receives w rx Nobody w' = (place_of w.places rx ≡ None) × (w' ≡ w)
  Receives w rx Nothing w' = (place_of w.places rx ≡ Some w.tail) × (w' ≡ w)
  Receives w rx (Missed n) w' = Skips w rx n w'
  Receives w rx (Value v) w' = Reads w rx v w'

  -- the value that was found
  abbrev pub value_found : Received T → Option T
  value_found Nobody = None
  value_found Nothing = None
  value_found (Missed _) = None
  value_found (Value v) = Some v

-- the receivers whose numbers are above this one, or all, each with its place
abbrev pub above : Option ℕ → Places → Places
above None places = places
above (Some rx) places = filter (λ q. nat_lt rx q.0) places

-- The lines of a broadcast picture, as they are read (docs/FORMATS.md, "Traces").
use Rattle.std.specs.Prelude.{ℕ, ◌-◌, ◌<◌, ◌≤◌, ◌^◌, Bool, List, [], ◌∷◌, ◌++◌, length, nat_le, nat_lt, ◌==◌, ◌&&◌, Option}
use Rattle.std.specs.Option.{option_map}
use Rattle.th_model.specs.BroadcastPicture.{Picture}
use Rattle.th_model.specs.Limits.{IsCapacity}
use Rattle.th_model.specs.Places.{ArePlaces, low_of}
use Rattle.th_lines.specs.Fields.{Rest, number_last, number_then, value_last}
use Rattle.th_traces.specs.Drafts.{More, Tells, allowed}
use Rattle.th_traces.specs.LiveHandles.{Live, live, next_last, table}
use Rattle.th_traces.specs.Spelled.{Bytes}
use Rattle.th_traces.specs.Tables.{Table}

-- a picture, of which some lines may be still to come
abbrev pub Drawn : Type 0
Drawn = Picture Bytes

-- one with these parts
abbrev pub parts : (capacity low tail : ℕ) → List Bytes → Live ℕ → Picture Bytes
parts capacity low tail kept h = record {
  window = record {
    capacity = capacity;
    tail = tail;
    low = low;
    kept = kept;
    places = h.receivers;
  };
  senders = h.senders;
  next = h.next;
}

-- the kept values are from `low` to the tail, no more of them than the capacity
abbrev pub may_start : (capacity low tail next : ℕ) → Bool
may_start capacity low tail next =
    nat_le low tail && (nat_le (tail - low) capacity && nat_lt 0 next)

-- what `low tail NEXT next` tell, in a trace of this capacity
abbrev pub start : ℕ → Rest → Option (Picture Bytes)
start capacity rest =
    allowed (λ (s : ℕ × ℕ × ℕ). may_start capacity s.0 s.1 s.2)
    (λ s. parts capacity s.0 s.1 [] (live [] [] s.2))
    (number_then (λ low. number_then (λ tail rest.
    option_map (λ next. (low, tail, next)) (next_last rest))) rest)

-- all kept values were told
abbrev pub has_values : Picture Bytes → Bool
has_values p = length p.window.kept == p.window.tail - p.window.low

abbrev pub takes_value : Picture Bytes → Bool
takes_value p = nat_lt (length p.window.kept) (p.window.tail - p.window.low)

-- all that its receivers keep was told
abbrev pub is_whole : Picture Bytes → Bool
is_whole p =
    let w = p.window in has_values p && (w.low == low_of w.tail w.capacity w.places)

abbrev pub with_value : Picture Bytes → Bytes → Picture Bytes
with_value p value =
    record p { window = record p.window { kept = p.window.kept ++ value ∷ [] } }

-- its live handles, and the picture with these
abbrev pub handles : Picture Bytes → Live ℕ
handles p = live p.senders p.window.places p.next

abbrev pub with_handles : Picture Bytes → Live ℕ → Picture Bytes
with_handles p h =
    let w = p.window in parts w.capacity w.low w.tail w.kept h

-- a receiver and its place, which is not past the tail
abbrev pub place_last : Picture Bytes → Rest → Option (ℕ × ℕ)
place_last p rest =
    allowed (λ (rx : ℕ × ℕ). nat_le rx.1 p.window.tail) (λ rx. rx)
    (number_then (λ rx. number_last (λ place. (rx, place))) rest)

-- the field of a value's line
abbrev pub value_field : Picture Bytes → Rest → Option (Tells (Picture Bytes))
value_field p rest =
    allowed (λ value. takes_value p) (λ value. More (with_value p value))
    (value_last (λ value. value) rest)

-- what a line below that of the start tells
unfoldable pub body : Picture Bytes → Table (Tells (Picture Bytes))
body p =
    table (with_handles p) (has_values p) (handles p) (value_field p) (place_last p) (is_whole p)

-- what is true of a picture that was told in part
pub record IsDraft (p : Picture Bytes) : Type 0 where
  pub capacity : IsCapacity p.window.capacity
  pub low : p.window.low ≤ p.window.tail
  pub tail : p.window.tail < 2 ^ 64
  pub places : ArePlaces p.window.tail p.window.places

-- A channel's history: its calls with their replies, in parts (docs/HISTORIES.md).
use Rattle.std.specs.Prelude.{◌≡◌, ℕ, ◌+◌, ◌-◌, ◌^◌, ◌≤◌, ◌<◌, Bool, true, List, [], ◌∷◌, ◌++◌, length, Option, slice_get}
use Rattle.std.specs.Option.{option_map}
use Rattle.th_seats.specs.Tally.{Tally}

-- a machine with states E, seen as pictures S, that is called by C and replies R
pub record Machine (E S C R : Type 0) : Type 0 where
  -- what is seen of a state
  pub see : E → S
  -- the state that remembers no more than a picture shows
  pub whole : S → E
  -- the reply to a call, and the state after it
  pub step : E → C → R × E
  -- the same on pictures
  pub answer : S → C → R × S
  -- whether a call has its answer now
  pub ready : S → C → Bool
  -- how many handles are live
  pub live : S → ℕ
  -- whether no sender is left
  pub closed : S → Bool

-- the state after these calls; an entry is a call with its reply
abbrev pub end_of : {E S C R : Type 0} → Machine E S C R → E → List (C × R) → E
end_of m e [] = e
end_of m e (x ∷ xs) = end_of m (m.step e x.0).1 xs

-- each call was ready, and its reply is the machine's
abbrev pub IsRun : {E S C R : Type 0} → Machine E S C R → E → List (C × R) → Type 0
IsRun m e [] = Unit {0}
IsRun m e (x ∷ xs) =
    (m.ready (m.see e) x.0 ≡ true) × (x.1 ≡ (m.step e x.0).0) × IsRun m (m.step e x.0).1 xs

-- what the last of these was answered, if there is one
abbrev pub last_reply : {C R : Type 0} → List (C × R) → Option R
last_reply entries = option_map (λ x. x.1) (slice_get entries (length entries - 1))

-- a part of a channel's history: its first place, the pictures at its start and its end, and its
-- entries
pub record Piece (S C R : Type 0) : Type 0 where
  pub key : ℕ
  pub first : ℕ
  pub start : S
  pub entries : List (C × R)
  pub last : S

-- the part with these entries
abbrev pub piece_of : {S C R : Type 0} → (key first : ℕ) → S → List (C × R) → S → Piece S C R
piece_of key first start entries last =
    record { key = key; first = first; start = start; entries = entries; last = last }

-- a legal history from the start picture, which ends at the last picture
pub record IsLegal {E S C R : Type 0} (m : Machine E S C R) (is_sound : S → Type 0)
    (p : Piece S C R) : Type 0 where
  pub sound : is_sound p.start
  pub run : IsRun m (m.whole p.start) p.entries
  pub end : m.see (end_of m (m.whole p.start) p.entries) ≡ p.last

-- what is logged of a channel: the present part, the book, the limit of a part, and the entries for
-- which the list has room
pub record Log (S C R : Type 0) : Type 0 where
  pub piece : Piece S C R
  pub tally : Tally
  pub limit : ℕ
  pub room : ℕ

-- the log with these parts
abbrev pub log_of : {S C R : Type 0} → Tally → (limit first : ℕ) → S → List (C × R) → S → ℕ
    → Log S C R
log_of tally limit first start entries last room = record {
  piece = piece_of tally.key first start entries last;
  tally = tally;
  limit = limit;
  room = room;
}

-- how many handles are live after a call
abbrev pub live_after : {E S C R : Type 0} → Machine E S C R → S → C → ℕ
live_after m picture call = m.live (m.answer picture call).1

-- the most events of a channel
abbrev pub most : ℕ
most = 2 ^ 63 - 1

-- what is true of a log between two calls: room is left for spending each live handle
pub record IsKept {E S C R : Type 0} (m : Machine E S C R) (is_sound : S → Type 0)
    (l : Log S C R) : Type 0 where
  pub legal : IsLegal m is_sound l.piece
  pub counted : l.piece.first + length l.piece.entries ≡ l.tally.total
  pub within : length l.piece.entries + m.live l.piece.last ≤ l.limit
  pub total : l.tally.total + m.live l.piece.last ≤ most
  pub room : m.live l.piece.last ≤ l.room

-- the limits that a log may have
abbrev pub IsLimit : (limit live : ℕ) → Type 0
IsLimit limit live = (0 < limit) × (limit ≤ 1000000) × (live ≤ limit)

-- a channel's first part, as it is opened
abbrev pub opening : {S C R : Type 0} → ℕ → S → Piece S C R
opening key picture = piece_of key 0 picture [] picture

-- the part that begins where this one ends
abbrev pub next_of : {S C R : Type 0} → Piece S C R → ℕ → Piece S C R
next_of p total = piece_of p.key total p.last [] p.last

-- b begins where a ends
pub record Follows {S C R : Type 0} (a b : Piece S C R) : Type 0 where
  pub key : a.key ≡ b.key
  pub place : a.first + length a.entries ≡ b.first
  pub picture : a.last ≡ b.start

-- a's entries, then b's
abbrev pub joined : {S C R : Type 0} → Piece S C R → Piece S C R → Piece S C R
joined a b = piece_of a.key a.first a.start (a.entries ++ b.entries) b.last

-- What a handle's event does under the lock, and why it is refused there.
use Rattle.std.specs.Prelude.{◌≡◌, ◌≢◌, ◌⊎◌, ℕ, ◌+◌, ◌≤◌, ◌<◌, Bool, false, Option, None, Some, List, [], ◌∷◌, ◌++◌, length, take, slice_get, MatchOption}
use Rattle.std.specs.List.{AllByRecursion}
use mathlib.Core.List.{IsPrefix}
use Rattle.th_seats.specs.Tally.{Part, Tally}
use Rattle.th_glance.specs.declared.glance.Glance.{Glance}
use Rattle.th_glance.specs.Lists.{glance_of, last_of, IsCounted}
use Rattle.th_glance.specs.Seats.{Known as Sighted}
use Rattle.th_log.specs.CallLaws.{EndsWait}
use Rattle.th_log.specs.History.{Machine, Log, Piece, end_of, live_after, most, next_of}
use Rattle.th_log.specs.Outcome.{IsFull, IsOwn, Told, counted}
use Rattle.th_log.specs.declared.receipt.Refused.{Refused}
use Rattle.th_log.specs.declared.receipt.Refused.TheVariants.{Foreign, Short, LogFull}
use Rattle.th_block.specs.Handles.{Known, Tells, seen_of, unused}
use Rattle.th_block.specs.declared.seat.Seat.{Seat}

-- what lies under a lock: the log, how many have looked in vain since they were last woken, from how
-- many entries on the log is long, and the shares that came back
pub record Guarded (S C R : Type 0) : Type 0 where
  pub log : Log S C R
  pub waiting : ℕ
  pub most : ℕ
  pub gone : Option Part

-- Somebody is to be woken after this event: some have looked in vain, and what a call of another
-- handle waited for is there now (docs/HISTORIES.md, "Who waits").
pub record IsDue {E S C R : Type 0} (m : Machine E S C R) (is_sound : S → Type 0)
    (handle_of : C → ℕ) (g : Guarded S C R) (r : Told C R) : Type 0 where
  pub someone : 0 < g.waiting
  pub before : S
  pub sound : is_sound before
  pub step : m.answer before r.call ≡ (r.reply, g.log.piece.last)
  pub waiting : C
  pub ends : EndsWait m handle_of before r.call g.log.piece.last waiting

-- after this call, a call of another handle that would have waited would wait still
-- (docs/HISTORIES.md, "Who waits")
abbrev pub KeepsWaiting : {E S C R : Type 0} → Machine E S C R → (handle_of : C → ℕ) → C
    → (old new : S) → Type 0
KeepsWaiting {C = C} m handle_of call old new = (waiting : C) → handle_of call ≢ handle_of waiting
    → m.ready old waiting ≡ false → m.ready new waiting ≡ false

-- and after calls of what stood in a queue
abbrev pub KeepsAllWaiting : {E S V C R : Type 0} → Machine E S C R → (handle_of : C → ℕ)
    → (V → C) → List V → (old new : S) → Type 0
KeepsAllWaiting {C = C} m handle_of call queue old new = (waiting : C)
    → AllByRecursion (λ v. handle_of (call v) ≢ handle_of waiting) queue
    → m.ready old waiting ≡ false → m.ready new waiting ≡ false

-- a log with the pen of its channel's word
pub record Post (S C R : Type 0) : Type 0 where
  pub log : Log S C R
  pub pen : Sighted

-- whether no sender was left after so many entries of a part of the history
abbrev pub closed_after : {E S C R : Type 0} → Machine E S C R → Piece S C R → ℕ → Bool
closed_after m p n = m.closed (m.see (end_of m (m.whole p.start) (take n p.entries)))

-- each glance at a place of a part, or at its end, tells whether no sender was left there
abbrev pub TellsClosed : {E S C R : Type 0} → Machine E S C R → Piece S C R → List Glance → Type 0
TellsClosed m p glances = (n : ℕ) (g : Glance) → n ≤ length p.entries
    → slice_get glances (p.first + n) ≡ Some g → g.closed ≡ closed_after m p n

-- The word has said each count of events once. It says how many there are now, and whether no
-- sender is left; and so it said at each place of the present part (docs/GLANCES.md, "On a
-- channel's handles").
pub record IsPosted {E S C R : Type 0} (m : Machine E S C R) (p : Post S C R) : Type 0 where
  pub counted : IsCounted p.pen.list
  pub last : last_of p.pen.list ≡ glance_of p.log.tally.total (m.closed p.log.piece.last)
  pub each : TellsClosed m p.log.piece p.pen.list

-- one glance more was stored, which says how the log stands now
abbrev pub Stores : {E S C R : Type 0} → Machine E S C R → (old new : Post S C R) → Type 0
Stores m old new = new.pen.list ≡
    old.pen.list ++ glance_of new.log.tally.total (m.closed new.log.piece.last) ∷ []

-- the handle is of this book, as far as numbers tell: its share is, and it has seen no place to come
abbrev pub Fits : Known → Tally → Type 0
Fits k tally = IsOwn k.share tally × (seen_of k ≤ tally.total)

-- the handle made its event, and its eye has not looked since
pub record Entered {C R : Type 0} (old new : Known) (call : C) (r : Told C R) : Type 0 where
  pub tells : Tells old call r
  pub share : new.share ≡ counted old.share
  pub eye : new.eye ≡ old.eye

-- the seat of the handle that a reply tells of: there is one exactly where it tells of one
abbrev pub IsSeated : {C R : Type 0} → (R → Option ℕ) → Told C R → Option Seat → Type 0
IsSeated made_by r seat = MatchOption seat (made_by r.reply ≡ None)
    (λ s. (made_by r.reply ≡ Some s.number) × (s.share ≡ unused r.key))

-- why an event was refused, after which so many handles would be live; its call comes back
abbrev pub RefusesEvent : {S C R : Type 0} → Log S C R → Known → C → (live : ℕ) → Refused C
    → Type 0
RefusesEvent l k call live (Foreign c) = (c ≡ call) × (Fits k l.tally → ⊥)
RefusesEvent l k call live (LogFull c) = (c ≡ call) × Fits k l.tally × IsFull l 1 live
RefusesEvent l k call live (Short c) = (c ≡ call) × Fits k l.tally × (IsFull l 1 live → ⊥)

-- no event was made: the present part goes on, or the next one has begun where it ended
-- (docs/HISTORIES.md, "Histories that go on")
abbrev pub GoesOn : {S C R : Type 0} → (old new : Log S C R) → Type 0
GoesOn old new = (new.tally ≡ old.tally) × (new.limit ≡ old.limit)
    × ((new.piece ≡ old.piece) ⊎ (new.piece ≡ next_of old.piece old.tally.total))

-- the parts that are to be handed on once the lock is free
abbrev pub parts_of : {P : Type 0} → Option (List P) → List P
parts_of None = []
parts_of (Some parts) = parts

-- the part behind a part
abbrev pub next_part : {S C R : Type 0} → Piece S C R → Piece S C R
next_part p = next_of p (p.first + length p.entries)

-- No part was cut, and it is so of the one that was there; or that one was cut, and is to be handed
-- on whole behind those that are already, and it is so of the next one.
abbrev pub HandsOn : {S C R : Type 0} → Piece S C R → (cut cut' : Option (List (Piece S C R)))
    → (Piece S C R → Type 0) → Type 0
HandsOn old cut cut' P = ((cut' ≡ cut) × P old)
    ⊎ ((parts_of cut' ≡ parts_of cut ++ old ∷ []) × P (next_part old))

-- the same part, with entries behind those that it had
pub record Extends {S C R : Type 0} (a b : Piece S C R) : Type 0 where
  pub key : b.key ≡ a.key
  pub first : b.first ≡ a.first
  pub start : b.start ≡ a.start
  pub entries : IsPrefix a.entries b.entries

-- part a went on to be the first of these, each of which is followed by the next one, and b goes on
-- behind the last
abbrev pub RunsOn : {S C R : Type 0} → List (Piece S C R) → (a b : Piece S C R) → Type 0
RunsOn [] a b = Extends a b
RunsOn (p ∷ ps) a b = Extends a p × RunsOn ps (next_part p) b

-- The part that was there has gone on, over parts that were cut meanwhile, if any were. These are to
-- be handed on whole, behind those that are already.
abbrev pub HandsOnAll : {S C R : Type 0} → (old new : Piece S C R)
    → (cut cut' : Option (List (Piece S C R))) → Type 0
HandsOnAll {S} {C} {R} old new cut cut' = (parts : List (Piece S C R))
    × (parts_of cut' ≡ parts_of cut ++ parts) × RunsOn parts old new

-- a part that has no entries yet has no room for so many beside those that spend the handles live
-- then, or the channel has had nearly 2^63 events
abbrev pub HasNoPlace : {S C R : Type 0} → Log S C R → (count live : ℕ) → Type 0
HasNoPlace l count live = (l.limit < count + live) ⊎ (most < l.tally.total + count + live)

-- fewer handles are live after the call
abbrev pub Spends : {E S C R : Type 0} → Machine E S C R → S → C → Type 0
Spends m p call = live_after m p call < m.live p

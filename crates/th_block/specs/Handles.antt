-- What contracts see of a handle, and what its calls do (docs/HISTORIES.md, "In threads").
use Rattle.std.specs.Prelude.{◌≡◌, ℕ, ◌+◌, ◌≤◌, ◌<◌, Bool, true, false, Option, None, Some, Result, Ok, Err, [], ◌∷◌, IfErr, IfOk, MatchOption, MatchResult}
use mathlib.Core.List.{IsPrefix}
use Rattle.th_seats.specs.Tally.{Part}
use Rattle.th_glance.specs.Lists.{glance_of, last_count, IsCounted}
use Rattle.th_glance.specs.Seats.{Known as Sighted}
use Rattle.th_model.specs.declared.handles.TxId.{TxId}
use Rattle.th_model.specs.declared.handles.RxId.{RxId}
use Rattle.th_log.specs.History.{most}
use Rattle.th_log.specs.Outcome.{Told, counted}
use Rattle.th_log.specs.declared.receipt.Refused.{Refused}
use Rattle.th_log.specs.declared.receipt.Refused.TheVariants.{Foreign, Short, LogFull}

-- a handle's share, and its eye: the channel's word, and the glances at it that the eye has seen
pub record Known : Type 0 where
  pub share : Part
  pub eye : Sighted

-- a handle: its number, what it knows of its channel, and whether that cuts its log by itself
pub record Holder : Type 0 where
  pub number : ℕ
  pub known : Known
  pub rolls : Bool

-- an owner of a channel: whether that cuts its log by itself
pub record Owner : Type 0 where
  pub rolls : Bool

-- its number, as a sender's and as a receiver's
abbrev pub tx : Holder → TxId
tx h = record { 0 = h.number }

abbrev pub rx : Holder → RxId
rx h = record { 0 = h.number }

-- how far a handle has seen the history: the count of its eye's last glance
abbrev pub seen_of : Known → ℕ
seen_of k = last_count k.eye.list

-- a share that counts no event yet
abbrev pub unused : (key : ℕ) → Part
unused key = record { key = key; count = 0 }

-- the first handle of a channel that cuts its log by itself, or does not: it has made no event, and
-- its eye has seen the opening alone
pub record IsFirst (rolls : Bool) (key : ℕ) (h : Holder) : Type 0 where
  pub number : h.number ≡ 1
  pub share : h.known.share ≡ unused key
  pub list : h.known.eye.list ≡ glance_of 0 false ∷ []
  pub rolls_is : h.rolls ≡ rolls

-- an eye has looked, or done nothing: it is on the same word, and has lost no glance
pub record Looked (old new : Sighted) : Type 0 where
  pub table : new.table ≡ old.table
  pub later : IsPrefix old.list new.list
  pub counted : IsCounted new.list
  pub rises : last_count old.list ≤ last_count new.list

-- a handle's eye has looked, and nothing else of the handle has changed
pub record Glances (old new : Holder) : Type 0 where
  pub number : new.number ≡ old.number
  pub rolls : new.rolls ≡ old.rolls
  pub share : new.known.share ≡ old.known.share
  pub eye : Looked old.known.eye new.known.eye

-- the call that was refused
abbrev pub call_of : {C : Type 0} → Refused C → C
call_of (Foreign c) = c
call_of (Short c) = c
call_of (LogFull c) = c

-- Of a channel that cuts its log by itself a handle is told that it is full only once it has seen
-- nearly 2^63 events of it (docs/HISTORIES.md, "Histories that go on").
abbrev pub IsFullAsSeen : {C : Type 0} → (rolls : Bool) → Known → Refused C → Type 0
IsFullAsSeen rolls k (LogFull c) = rolls ≡ true → most < seen_of k + 131071
IsFullAsSeen rolls k _ = Unit {0}

-- the call came back, and the handle knows what it knew
pub record IsBack {C : Type 0} (old new : Known) (call : C) (e : Refused C) : Type 0 where
  pub call_is : call_of e ≡ call
  pub same : new ≡ old

module _ {C R : Type 0} where
  -- the receipt is of this call, has the share's key, and a place that the handle had not seen
  pub record Tells (old : Known) (call : C) (r : Told C R) : Type 0 where
    pub call_is : r.call ≡ call
    pub key_is : r.key ≡ old.share.key
    pub later : seen_of old ≤ r.place

  -- beside that, its place is seen now, and the share has exactly one event more
  pub record Answered (old new : Known) (call : C) (r : Told C R) : Type 0 where
    pub tells : Tells old call r
    pub seen : r.place < seen_of new
    pub eye : Looked old.eye new.eye
    pub share : new.share ≡ counted old.share

  -- one call of a handle: it was answered, or came back
  pub record Calls (old new : Holder) (call : C) (result : Result (Told C R) (Refused C))
      : Type 0 where
    pub number : new.number ≡ old.number
    pub rolls : new.rolls ≡ old.rolls
    pub outcome : MatchResult result (Answered old.known new.known call)
        (IsBack old.known new.known call)
    pub full : IfErr result (IsFullAsSeen old.rolls old.known)

  -- the call was answered by a reply that ends a loop
  pub record Ended (ends : R → Bool) (old new : Holder) (call : C) : Type 0 where
    pub receipt : Told C R
    pub number : new.number ≡ old.number
    pub rolls : new.rolls ≡ old.rolls
    pub answered : Answered old.known new.known call receipt
    pub end : ends receipt.reply ≡ true

  -- one call of a loop: its end, or a call that does not end it
  abbrev pub IsNext : (R → Bool) → Holder → Holder → C → Option (Result (Told C R) (Refused C))
      → Type 0
  IsNext ends old new call None = Ended ends old new call
  IsNext ends old new call (Some told) =
      Calls old new call told × IfOk told (λ r. ends r.reply ≡ false)

  -- one call of a loop that is told each receipt, and beside it whether that ends the loop
  -- (docs/HISTORIES.md, "The whole account")
  abbrev pub IsNextTold : (R → Bool) → Holder → Holder → C → Result (Told C R × Bool) (Refused C)
      → Type 0
  IsNextTold ends old new call (Ok r) =
      Calls old new call (Ok r.0) × (r.1 ≡ ends r.0.reply)
  IsNextTold ends old new call (Err e) = Calls old new call (Err e)

  -- a handle with the number that a reply tells of, and no event; its eye goes on from its maker's,
  -- and has seen the place of its making
  pub record IsMade (number : Option ℕ) (rolls : Bool) (maker : Sighted) (r : Told C R) (h : Holder)
      : Type 0 where
    pub number_is : number ≡ Some h.number
    pub share : h.known.share ≡ unused r.key
    pub eye : Looked maker h.known.eye
    pub seen : r.place < seen_of h.known
    pub rolls_is : h.rolls ≡ rolls

  -- the handle beside a receipt: there is one exactly where the reply tells of one
  abbrev pub Beside : (R → Option ℕ) → (rolls : Bool) → (maker : Sighted) → Told C R
      → Option Holder → Type 0
  Beside made_by rolls maker r h =
      MatchOption h (made_by r.reply ≡ None) (IsMade (made_by r.reply) rolls maker r)

  -- one call of a handle that may make another
  pub record CallsFor (made_by : R → Option ℕ) (old new : Holder) (call : C)
      (result : Result (Told C R × Option Holder) (Refused C)) : Type 0 where
    pub number : new.number ≡ old.number
    pub rolls : new.rolls ≡ old.rolls
    pub outcome : MatchResult result
        (λ r. Answered old.known new.known call r.0
        × Beside made_by old.rolls old.known.eye r.0 r.1)
        (IsBack old.known new.known call)
    pub full : IfErr result (IsFullAsSeen old.rolls old.known)

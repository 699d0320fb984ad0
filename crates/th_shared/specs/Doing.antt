-- What a handle's event does to the handle, what it is told, and why there is none (docs/HISTORIES.md, "In the hub").
use Rattle.std.specs.Option.{option_map}
use Rattle.std.specs.Prelude.{◌≡◌, ◌⊎◌, ℕ, ◌+◌, ◌≤◌, ◌<◌, Bool, true, false, is_some, Option, Some, None, IsSome, Result, Ok, Err}
use Rattle.th_seats.specs.Tally.{Part}
use Rattle.th_block.specs.Handles.{Holder, Known, seen_of, unused}
use Rattle.th_log.specs.History.{most}
use Rattle.th_log.specs.Outcome.{Told, counted}
use Rattle.th_model.specs.declared.kind.Kind.{Kind}
use Rattle.th_model.specs.declared.kind.Kind.TheVariants as Kinds
use Rattle.th_registry.specs.declared.channel.Channel.TheVariants.{Broadcast, Watch}
use Rattle.th_registry.specs.declared.outcome.NoEvent.{NoEvent}
use Rattle.th_registry.specs.declared.outcome.NoEvent.TheVariants.{WrongKind, NotLive, LogFull, Short}
use Rattle.th_registry.specs.Events.{Event, EventResult, Outcome, broadcast_call, watch_call}
use Rattle.th_registry.specs.Hub.{Noted, On}
use Rattle.th_registry.specs.Kinds.{kind_of}
use Rattle.th_registry.specs.Receipts.{ChannelReceipt}
use Rattle.th_shared.specs.declared.handles.TopicReceiver.{TopicReceiver}
use Rattle.th_shared.specs.declared.handles.TopicReceiver.TheVariants.{Live, Spent}
use Rattle.th_shared.specs.Numbers.{TopicHandle, known_of, number_of, rolls_of}
use Rattle.th_shared.specs.Saying.{IsOf, MaySay}

-- the handle has made the event of this receipt: its share has exactly one event more, at a place that the handle had not
-- seen, and has seen now
pub record HasMade {C R : Type 0} (old new : Known) (r : Told C R) : Type 0 where
  pub share : new.share ≡ counted old.share
  pub later : seen_of old ≤ r.place
  pub seen : r.place < seen_of new

-- Why a handle makes no event of a call: its kind has no such call; or it has, and the handle is not live on the topic, the
-- log is full, or there was no memory.
abbrev pub Declines : {C : Type 0} → Option C → NoEvent → Type 0
Declines call WrongKind = call ≡ None
Declines call NotLive = IsSome call
Declines call LogFull = IsSome call
Declines call Short = IsSome call
Declines call why = ⊥

-- Of a channel that cuts its log by itself a handle is told that it is full only once it has seen nearly 2^63 events of it
-- (docs/HISTORIES.md, "Histories that go on").
abbrev pub IsFullAsSeen : (rolls : Bool) → Known → NoEvent → Type 0
IsFullAsSeen rolls k LogFull = rolls ≡ true → most < seen_of k + 131071
IsFullAsSeen rolls k why = Unit {0}

module _ {C R : Type 0} where
  -- a handle's call on a topic, if its kind has it: one event, or none, and then nothing has changed
  abbrev pub Enters : ℕ → Option C → (old new : Holder) → Result (Told C R) NoEvent → Type 0
  Enters n call old new (Ok r) =
      IsOf n call r × HasMade old.known new.known r × (new.rolls ≡ old.rolls)
  Enters n call old new (Err why) =
      Declines call why × (new ≡ old) × IsFullAsSeen old.rolls old.known why

  -- there was the last event of a handle, which is answered so
  abbrev pub HasEnded : ℕ → C → (done : R) → Type 0
  HasEnded n call done = (r : Told C R) × IsOf n (Some call) r × (r.reply ≡ done)

  -- A receiver that asks for another in its place, what is left of it, and what is said. Its share has two events more, and
  -- it is no longer there; or one, and it stays, since the channel made no other; or none, and nothing has changed.
  abbrev pub Moves : ℕ → Option C → (old : Holder) → (left : Option Holder)
      → Result ((Told C R × Option Holder) × Option Part) NoEvent → Type 0
  Moves n call old None (Ok ((r, Some h), Some share)) =
      IsOf n call r × (seen_of old.known ≤ r.place) × (share ≡ counted (counted old.known.share))
  Moves n call old (Some left) (Ok ((r, None), None)) =
      IsOf n call r × (left.number ≡ old.number) × (left.rolls ≡ old.rolls)
      × HasMade old.known left.known r
  Moves n call old (Some left) (Err why) = Declines call why × (left ≡ old)
  Moves n call old left said = ⊥

  -- a new handle of a topic, beside the receipt by which it was made: it has made no event, and has seen the place of its making
  pub record IsNew (n : ℕ) (rolls : Bool) (r : Told C R) (h : Holder) : Type 0 where
    pub share : h.known.share ≡ unused (n + 1)
    pub seen : r.place < seen_of h.known
    pub rolls_is : h.rolls ≡ rolls

  -- what is noted of what a channel says: its receipt, if there is one, and what came of the reply
  abbrev pub noted_of : (R → Outcome) → (Told C R → ChannelReceipt) → Result (Told C R) NoEvent
      → Noted
  noted_of outcome receipt (Ok r) = (Ok (outcome r.reply), Some (receipt r))
  noted_of outcome receipt (Err why) = (Err why, None)

-- whether a kind of channel has a call for an event
abbrev pub has_call : Kind → Event → Bool
has_call Kinds.Broadcast e = is_some (broadcast_call e)
has_call Kinds.Watch e = is_some (watch_call e)

-- the wrong kind is told exactly where this kind has no call for the event
abbrev pub TellsKind : Kind → Event → EventResult → Type 0
TellsKind k e (Err WrongKind) = has_call k e ≡ false
TellsKind k e said = has_call k e ≡ true

abbrev pub place_in : ChannelReceipt → ℕ
place_in (Broadcast r) = r.place
place_in (Watch r) = r.place

-- what a handle knows after what is noted of its event: it has made that; or nothing has changed
abbrev pub KnowsAfter : (old new : TopicHandle) → Option ChannelReceipt → Type 0
KnowsAfter old new None = new ≡ old
KnowsAfter old new (Some (Broadcast r)) = HasMade (known_of old) (known_of new) r
KnowsAfter old new (Some (Watch r)) = HasMade (known_of old) (known_of new) r

-- it is told that its log is full only if it has seen that
abbrev pub TellsFull : TopicHandle → EventResult → Type 0
TellsFull h (Ok outcome) = Unit {0}
TellsFull h (Err why) = IsFullAsSeen (rolls_of h) (known_of h) why

-- the same of a receiver, which may have been spent
abbrev pub TellsFullWith : TopicReceiver → NoEvent → Type 0
TellsFullWith (Live h) why = IsFullAsSeen (rolls_of h) (known_of h) why
TellsFullWith (Spent number) why = Unit {0}

-- One event of a handle on a topic, or none: what is noted of it, and the handle afterwards.
pub record Does (n : ℕ) (e : Event) (old new : TopicHandle) (noted : Noted) : Type 0 where
  pub says : MaySay (On n e) noted
  pub kind : TellsKind (kind_of old) e noted.0
  pub full : TellsFull old noted.0
  pub number : number_of new ≡ number_of old
  pub rolls : rolls_of new ≡ rolls_of old
  pub knows : KnowsAfter old new noted.1

-- the same of a receiver, which may have been spent when another began in its place
abbrev pub ReceiverDoes : ℕ → Event → (old new : TopicReceiver) → Noted → Type 0
ReceiverDoes n e (Live old) (Live new) noted = Does n e old new noted
ReceiverDoes n e (Live old) (Spent number) noted = ⊥
ReceiverDoes n e (Spent number) new noted =
    (new ≡ Spent number) × (noted ≡ (Err NotLive, None))

-- an event by a sender, or by the hub's own where there is none, which is not seen
abbrev pub OwnDoes : ℕ → Event → (old new : Option TopicHandle) → Noted → Type 0
OwnDoes n e (Some old) (Some new) noted = Does n e old new noted
OwnDoes n e (Some old) None noted = ⊥
OwnDoes n e None new noted = new ≡ None

-- A new handle of a topic of either kind, by its receipt.
pub record IsNewHandle (n : ℕ) (rolls : Bool) (receipt : ChannelReceipt) (h : TopicHandle)
    : Type 0 where
  pub share : (known_of h).share ≡ unused (n + 1)
  pub seen : place_in receipt < seen_of (known_of h)
  pub rolls_is : rolls_of h ≡ rolls

-- the same of a receiver
abbrev pub IsNewReceiver : ℕ → (rolls : Bool) → ChannelReceipt → TopicReceiver → Type 0
IsNewReceiver n rolls receipt (Live h) = IsNewHandle n rolls receipt h
IsNewReceiver n rolls receipt (Spent number) = ⊥

-- a handle that was made is handed on as one of the topic, or let go
abbrev pub Hands : {A B : Type 0} → (A → B) → Option A → Option B → Type 0
Hands turn made out = (out ≡ None) ⊎ (out ≡ option_map turn made)

-- the same of what a channel says, with the receipt as one of the topic
abbrev pub HandsNew : {A B R S E : Type 0} → (R → S) → (A → B) → Result (R × Option A) E → S
    → Option B → Type 0
HandsNew receipt turn (Ok new) told out = (told ≡ receipt new.0) × Hands turn new.1 out
HandsNew receipt turn (Err why) told out = ⊥

-- what is left of a receiver that asked for another in its place, and was told this
abbrev pub Leaves : (old : TopicHandle) → (left : TopicReceiver) → Option ChannelReceipt → Type 0
Leaves old (Spent number) (Some r) =
    (number ≡ number_of old) × (seen_of (known_of old) ≤ place_in r)
Leaves old (Spent number) None = ⊥
Leaves old (Live new) receipt =
    (number_of new ≡ number_of old) × KnowsAfter old new receipt

-- beside that, its share where it was spent: two events of it, one, or none
abbrev pub ReceiverMoves : {M : Type 0} → (old : TopicHandle) → (left : TopicReceiver)
    → Result (M × Option Part) NoEvent → Option ChannelReceipt → Type 0
ReceiverMoves old (Spent number) (Ok (made, Some share)) receipt =
    Leaves old (Spent number) receipt × (share ≡ counted (counted (known_of old).share))
ReceiverMoves old (Live new) (Ok (made, None)) receipt = Leaves old (Live new) receipt
ReceiverMoves old (Live new) (Err why) receipt = new ≡ old
ReceiverMoves old left said receipt = ⊥

-- a receiver that asked for another in its place, which may have been spent before
abbrev pub ReceiverLeaves : (old left : TopicReceiver) → Option ChannelReceipt → Type 0
ReceiverLeaves (Live old) left receipt = Leaves old left receipt
ReceiverLeaves (Spent number) left receipt = (left ≡ Spent number) × (receipt ≡ None)

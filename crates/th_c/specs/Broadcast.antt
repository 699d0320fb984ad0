-- Calls of a broadcast channel, as C makes them.
use Rattle.std.specs.Prelude.{◌≡◌, ℕ, ◌+◌, ◌-◌, length, Option, Some, None, Result, Err}
use Rattle.th_model.specs.declared.broadcast.BCall.{BCall}
use Rattle.th_model.specs.declared.broadcast.BReply.{BReply}
use Rattle.th_model.specs.declared.broadcast.BReply.TheVariants.{Sent, NoReceivers, Exhausted, Value, Empty, Closed, Lagged, NewRx, NewTx, Count, Done, TooMany, NoHandle}
use Rattle.th_model.specs.declared.broadcast.BCall.TheVariants as of
use Rattle.th_traces.specs.Spelled.{Bytes}
use Rattle.th_model.specs.BroadcastPicture.{Picture, TakesNoneIfSure, answer}
use Rattle.th_log.specs.Machines.{broadcast}
use Rattle.th_c.specs.declared.content.Content.{Content}
use Rattle.th_c.specs.declared.content.Content.TheVariants as content
use Rattle.th_c.specs.declared.outcome.Refusal.{Refusal}
use Rattle.th_c.specs.declared.outcome.Refusal.TheVariants.{NotOpen, OtherValues}
use Rattle.th_c.specs.declared.reply.Reply.{Reply}
use Rattle.th_c.specs.declared.status.TheConstants.{SENT, NO_RECEIVERS, EXHAUSTED, VALUE, EMPTY, CLOSED, LAGGED, NEW_RX, NEW_TX, COUNT, DONE, TOO_MANY, NO_HANDLE}
use Rattle.th_registry.specs.History.{History}
use Rattle.th_c.specs.Outcomes.{Answers, Records, Through}

-- the status of a reply (lib/c/topichub.h)
abbrev pub status_of : {T : Type 0} → BReply T → ℕ
status_of (Sent n) = SENT
status_of (NoReceivers value) = NO_RECEIVERS
status_of (Exhausted value) = EXHAUSTED
status_of (Value value) = VALUE
status_of Empty = EMPTY
status_of Closed = CLOSED
status_of (Lagged n) = LAGGED
status_of (NewRx rx) = NEW_RX
status_of (NewTx tx) = NEW_TX
status_of (Count n) = COUNT
status_of Done = DONE
status_of TooMany = TOO_MANY
status_of (NoHandle back) = NO_HANDLE

-- the number that the status speaks of; of a value, the one that tells of it
abbrev pub number_of : {T : Type 0} → (T → ℕ) → BReply T → ℕ
number_of number (Sent n) = n
number_of number (NoReceivers value) = number value
number_of number (Exhausted value) = number value
number_of number (Value value) = number value
number_of number (Lagged n) = n
number_of number (NewRx rx) = rx.0
number_of number (NewTx tx) = tx.0
number_of number (Count n) = n
number_of number (NoHandle (Some value)) = number value
number_of number reply = 0

-- how many values were sent
abbrev pub sent_by : {T : Type 0} → BReply T → ℕ
sent_by (Sent n) = 1
sent_by reply = 0

-- What C is told of a call. Let go are the values that were kept or are sent, without those that
-- are kept then.
abbrev pub tells : {T : Type 0} → (T → ℕ) → Picture T → BCall T → Reply
tells number before call =
    let a = answer before call in
    record {
      status = status_of a.0;
      let_go = length before.window.kept + sent_by a.0 - length a.1.window.kept;
      number = number_of number a.0;
    }

-- the same call of a channel of bytes, where no value goes in or comes out
abbrev pub without_value : BCall ℕ → Option (BCall Bytes)
without_value (of.Subscribe tx) = Some (of.Subscribe tx)
without_value (of.SubscribeOldest tx) = Some (of.SubscribeOldest tx)
without_value (of.Resubscribe rx) = Some (of.Resubscribe rx)
without_value (of.CloneTx tx) = Some (of.CloneTx tx)
without_value (of.DropTx tx) = Some (of.DropTx tx)
without_value (of.DropRx rx) = Some (of.DropRx rx)
without_value (of.Queued tx) = Some (of.Queued tx)
without_value (of.Left rx) = Some (of.Left rx)
without_value (of.Readers tx) = Some (of.Readers tx)
without_value call = None

-- What comes of a call of a channel of bytes: of one that takes or gives a number, that its values
-- are of the other kind.
abbrev pub AnswersSame : Option (BCall Bytes) → Picture Bytes → Result Reply Refusal → Picture Bytes
    → Type 0
AnswersSame (Some call) before told after =
    Answers broadcast (tells length) TakesNoneIfSure before call told after
AnswersSame None before told after = (told ≡ Err OtherValues) × (after ≡ before)

-- and of one that keeps its history
abbrev pub BytesHistory : Type 0
BytesHistory = History (Picture Bytes) (Picture Bytes) (BCall Bytes) (BReply Bytes)

abbrev pub RecordsSame : Option (BCall Bytes) → BytesHistory → Result Reply Refusal → BytesHistory
    → Type 0
RecordsSame (Some call) before told after = Records broadcast (tells length) before call told after
RecordsSame None before told after = (told ≡ Err OtherValues) × (after ≡ before)

-- what comes of a call to what is behind a handle and no channel of numbers
abbrev pub AnsweredOther : Content → Option (BCall Bytes) → Result Reply Refusal → Content → Type 0
AnsweredOther (content.BroadcastOfBytes before) call told next =
    (after : Picture Bytes)
    × (next ≡ content.BroadcastOfBytes after)
    × AnswersSame call before told after
AnsweredOther (content.RecordedBroadcastOfBytes before) call told next =
    (after : BytesHistory)
    × (next ≡ content.RecordedBroadcastOfBytes after)
    × RecordsSame call before told after
AnsweredOther other call told next = (told ≡ Err NotOpen) × (next ≡ other)

-- what comes of a call to what is behind a handle: an answer, where it is a broadcast channel
abbrev pub Answered : Content → BCall ℕ → Result Reply Refusal → Content → Type 0
Answered (content.Broadcast before) call told next =
    (after : Picture ℕ)
    × (next ≡ content.Broadcast after)
    × Answers broadcast (tells (λ n. n)) TakesNoneIfSure before call told after
Answered (content.RecordedBroadcast before) call told next =
    (after : History (Picture ℕ) (Picture ℕ) (BCall ℕ) (BReply ℕ))
    × (next ≡ content.RecordedBroadcast after)
    × Records broadcast (tells (λ n. n)) before call told after
Answered other call told next = AnsweredOther other (without_value call) told next

-- and through the handle
abbrev pub Called : Option Content → BCall ℕ → Reply → Option Content → Type 0
Called before call reply after =
    Through (λ c told next. Answered c call told next) before reply after

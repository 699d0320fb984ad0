-- Calls of a watch channel, as C makes them.
use Rattle.std.specs.Prelude.{◌≡◌, ℕ, Bool, nat_eq, ◌==◌, if◌then◌else◌, length, Option, Some, None, Result, Err}
use Rattle.std.specs.Cmp.Lexicographic.{pointwise}
use Rattle.th_model.specs.declared.watch.Edit.TheVariants.{Set, Differ, Quiet}
use Rattle.th_model.specs.declared.watch.WCall.{WCall}
use Rattle.th_model.specs.declared.watch.WCall.TheVariants.{Send, Replace, EditBy}
use Rattle.th_model.specs.declared.watch.WCall.TheVariants as of
use Rattle.th_model.specs.declared.watch.WReply.{WReply}
use Rattle.th_model.specs.declared.watch.WReply.TheVariants.{Done, NoReceivers, Exhausted, Was, Modified, Shown, Changed, Marked, NotYet, Closed, Gone, NewRx, NewTx, Count, TooMany, NoHandle}
use Rattle.th_model.specs.WatchPicture.{Picture, TakesNoMemory, answer}
use Rattle.th_log.specs.Machines.{watch}
use Rattle.th_c.specs.declared.content.Content.{Content}
use Rattle.th_c.specs.declared.content.Content.TheVariants as content
use Rattle.th_c.specs.declared.outcome.Refusal.{Refusal}
use Rattle.th_c.specs.declared.outcome.Refusal.TheVariants.{NotOpen, OtherValues}
use Rattle.th_c.specs.declared.reply.Reply.{Reply}
use Rattle.th_c.specs.declared.status.TheConstants.{DONE, NO_RECEIVERS, EXHAUSTED, WAS, YES, NO, NEW, SAME, MARKED, NOT_YET, CLOSED, NEW_RX, NEW_TX, COUNT, TOO_MANY, NO_HANDLE, NEVER}
use Rattle.th_registry.specs.History.{History}
use Rattle.th_traces.specs.Spelled.{Bytes}
use Rattle.th_c.specs.Outcomes.{Answers, Records, Through}

-- the status of a reply (lib/c/topichub.h)
abbrev pub status_of : {T : Type 0} → WReply T → ℕ
status_of Done = DONE
status_of (NoReceivers value) = NO_RECEIVERS
status_of (Exhausted value) = EXHAUSTED
status_of (Was value) = WAS
status_of (Modified published) = if published then YES else NO
status_of (Shown value unseen) = if unseen then NEW else SAME
status_of (Changed unseen) = if unseen then YES else NO
status_of Marked = MARKED
status_of NotYet = NOT_YET
status_of Closed = CLOSED
status_of (Gone none_left) = if none_left then YES else NO
status_of (NewRx rx) = NEW_RX
status_of (NewTx tx) = NEW_TX
status_of (Count n) = COUNT
status_of TooMany = TOO_MANY
status_of (NoHandle back) = NO_HANDLE

-- the number that the status speaks of; of a value, the one that tells of it
abbrev pub number_of : {T : Type 0} → (T → ℕ) → WReply T → ℕ
number_of number (NoReceivers value) = number value
number_of number (Exhausted value) = number value
number_of number (Was value) = number value
number_of number (Shown value unseen) = number value
number_of number (NewRx rx) = rx.0
number_of number (NewTx tx) = tx.0
number_of number (Count n) = n
number_of number (NoHandle (Some value)) = number value
number_of number reply = 0

-- the status with which a call puts its value in the place of the newest one, which is let go
abbrev pub puts_at : {T : Type 0} → WCall T → ℕ
puts_at (Send tx value) = DONE
puts_at (Replace tx value) = WAS
puts_at (EditBy tx (Set value)) = YES
puts_at (EditBy tx (Differ value)) = YES
puts_at (EditBy tx (Quiet value)) = NO
puts_at call = NEVER

-- what C is told of a call
abbrev pub tells : {T : Type 0} → (T → T → Bool) → (T → ℕ) → Picture T → WCall T → Reply
tells eq number before call =
    let reply = (answer eq before call).0 in
    let status = status_of reply in
    record {
      status = status;
      let_go = if status == puts_at call then 1 else 0;
      number = number_of number reply;
    }

-- the calls that take no memory, whatever the channel looks like
abbrev pub takes_none : {T : Type 0} → Picture T → WCall T → Type 0
takes_none before call = TakesNoMemory call

-- what comes of a call of a channel of bytes, and of one that keeps its history; a reply tells how
-- many bytes its value has
abbrev pub same_bytes : Bytes → Bytes → Bool
same_bytes = pointwise nat_eq

abbrev pub AnswersOfBytes : Picture Bytes → WCall Bytes → Result Reply Refusal → Picture Bytes
    → Type 0
AnswersOfBytes before call told after =
    Answers (watch same_bytes) (tells same_bytes length) takes_none before call told after

abbrev pub BytesHistory : Type 0
BytesHistory = History (Picture Bytes) (Picture Bytes) (WCall Bytes) (WReply Bytes)

abbrev pub RecordsOfBytes : BytesHistory → WCall Bytes → Result Reply Refusal → BytesHistory
    → Type 0
RecordsOfBytes before call told after =
    Records (watch same_bytes) (tells same_bytes length) before call told after

-- the same call of a channel of bytes, where no value goes in or comes out
abbrev pub without_value : WCall ℕ → Option (WCall Bytes)
without_value (of.HasChanged rx) = Some (of.HasChanged rx)
without_value (of.TryChanged rx) = Some (of.TryChanged rx)
without_value (of.Changed rx) = Some (of.Changed rx)
without_value (of.MarkChanged rx) = Some (of.MarkChanged rx)
without_value (of.MarkUnchanged rx) = Some (of.MarkUnchanged rx)
without_value (of.Subscribe tx) = Some (of.Subscribe tx)
without_value (of.CloneRx rx) = Some (of.CloneRx rx)
without_value (of.CloneTx tx) = Some (of.CloneTx tx)
without_value (of.DropTx tx) = Some (of.DropTx tx)
without_value (of.DropRx rx) = Some (of.DropRx rx)
without_value (of.IsClosed tx) = Some (of.IsClosed tx)
without_value (of.Readers tx) = Some (of.Readers tx)
without_value call = None

-- What comes of it in a channel of bytes: of one that takes or gives a number, that its values are
-- of the other kind.
abbrev pub AnswersSame : Option (WCall Bytes) → Picture Bytes → Result Reply Refusal → Picture Bytes
    → Type 0
AnswersSame (Some call) before told after = AnswersOfBytes before call told after
AnswersSame None before told after = (told ≡ Err OtherValues) × (after ≡ before)

abbrev pub RecordsSame : Option (WCall Bytes) → BytesHistory → Result Reply Refusal → BytesHistory
    → Type 0
RecordsSame (Some call) before told after = RecordsOfBytes before call told after
RecordsSame None before told after = (told ≡ Err OtherValues) × (after ≡ before)

-- what comes of a call to what is behind a handle and no channel of numbers
abbrev pub AnsweredOther : Content → Option (WCall Bytes) → Result Reply Refusal → Content → Type 0
AnsweredOther (content.WatchOfBytes before) call told next =
    (after : Picture Bytes)
    × (next ≡ content.WatchOfBytes after)
    × AnswersSame call before told after
AnsweredOther (content.RecordedWatchOfBytes before) call told next =
    (after : BytesHistory)
    × (next ≡ content.RecordedWatchOfBytes after)
    × RecordsSame call before told after
AnsweredOther other call told next = (told ≡ Err NotOpen) × (next ≡ other)

-- what comes of a call to what is behind a handle: an answer, where it is a watch channel
abbrev pub Answered : Content → WCall ℕ → Result Reply Refusal → Content → Type 0
Answered (content.Watch before) call told next =
    (after : Picture ℕ)
    × (next ≡ content.Watch after)
    × Answers (watch nat_eq) (tells nat_eq (λ n. n)) takes_none before call told after
Answered (content.RecordedWatch before) call told next =
    (after : History (Picture ℕ) (Picture ℕ) (WCall ℕ) (WReply ℕ))
    × (next ≡ content.RecordedWatch after)
    × Records (watch nat_eq) (tells nat_eq (λ n. n)) before call told after
Answered other call told next = AnsweredOther other (without_value call) told next

-- and through the handle
abbrev pub Called : Option Content → WCall ℕ → Reply → Option Content → Type 0
Called before call reply after =
    Through (λ c told next. Answered c call told next) before reply after

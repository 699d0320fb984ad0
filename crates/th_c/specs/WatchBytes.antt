-- Calls of a watch channel of bytes that take a value or give one, as C makes them.
use Rattle.std.specs.Prelude.{◌≡◌, ℕ, Bool, true, false, List, length, nat_lt, Option, Some, None, Result, Ok, Err}
use Rattle.th_model.specs.declared.handles.TxId.{TxId}
use Rattle.th_model.specs.declared.watch.Edit.TheVariants as edit
use Rattle.th_model.specs.declared.watch.WCall.{WCall}
use Rattle.th_model.specs.declared.watch.WCall.TheVariants as call
use Rattle.th_model.specs.declared.watch.WReply.{WReply}
use Rattle.th_model.specs.declared.watch.WReply.TheVariants.{Was, Shown}
use Rattle.th_model.specs.WatchPicture.{Picture, answer}
use Rattle.th_traces.specs.Spelled.{Bytes}
use Rattle.th_c.specs.declared.content.Content.{Content}
use Rattle.th_c.specs.declared.content.Content.TheVariants as content
use Rattle.th_c.specs.declared.outcome.Refusal.{Refusal}
use Rattle.th_c.specs.declared.outcome.Refusal.TheVariants.{NotOpen, NoMemory, OtherValues, BadValue, SmallBuffer}
use Rattle.th_c.specs.declared.reply.Reply.{Reply}
use Rattle.th_c.specs.declared.watch_bytes.Puts.{Puts}
use Rattle.th_c.specs.declared.watch_bytes.Puts.TheVariants.{Send, Set, Differ, Quiet}
use Rattle.th_c.specs.Bytes.{with_bytes}
use Rattle.th_c.specs.Outcomes.{reply_of}
use Rattle.th_c.specs.Watch.{AnswersOfBytes, BytesHistory, RecordsOfBytes, same_bytes}

-- the call by which a value takes the place of the newest one
abbrev pub call_of : Puts → TxId → Bytes → WCall Bytes
call_of Send tx value = call.Send tx value
call_of Set tx value = call.EditBy tx (edit.Set value)
call_of Differ tx value = call.EditBy tx (edit.Differ value)
call_of Quiet tx value = call.EditBy tx (edit.Quiet value)

-- what comes of a call to what is behind a handle: an answer, where it is a watch channel of bytes
abbrev pub AnsweredBytes : Content → WCall Bytes → Result Reply Refusal → Content → Type 0
AnsweredBytes (content.WatchOfBytes before) call told next =
    (after : Picture Bytes)
    × (next ≡ content.WatchOfBytes after)
    × AnswersOfBytes before call told after
AnsweredBytes (content.RecordedWatchOfBytes before) call told next =
    (after : BytesHistory)
    × (next ≡ content.RecordedWatchOfBytes after)
    × RecordsOfBytes before call told after
AnsweredBytes (content.Watch p) call told next =
    (told ≡ Err OtherValues) × (next ≡ content.Watch p)
AnsweredBytes (content.RecordedWatch h) call told next =
    (told ≡ Err OtherValues) × (next ≡ content.RecordedWatch h)
AnsweredBytes other call told next = (told ≡ Err NotOpen) × (next ≡ other)

-- What comes of a call with bytes, which are a value or are not. The value is made before the
-- channel is looked at, so want of memory may be told in place of what else would be.
abbrev pub PutsBytes : Bool → Content → WCall Bytes → Result Reply Refusal → Content → Type 0
PutsBytes true before call (Err NoMemory) next = next ≡ before
PutsBytes true before call told next = AnsweredBytes before call told next
PutsBytes false before call told next = (told ≡ Err BadValue) × (next ≡ before)

-- a buffer into which the value of a reply is put, as far as there is room for it
abbrev pub with_value : WReply Bytes → List ℕ → List ℕ
with_value (Was value) buffer = with_bytes value buffer
with_value (Shown value unseen) buffer = with_bytes value buffer
with_value reply buffer = buffer

-- one into which that of the last reply of a history is put, if there is one
abbrev pub with_last : Option (WReply Bytes) → List ℕ → List ℕ
with_last (Some reply) buffer = with_value reply buffer
with_last None buffer = buffer

-- nothing is put into it where the call was not made
abbrev pub shown_in : Result Reply Refusal → WReply Bytes → List ℕ → List ℕ
shown_in (Ok told) reply buffer = with_value reply buffer
shown_in (Err why) reply buffer = buffer

-- what comes of a call that gives a value into a buffer, to what is behind a handle
abbrev pub GivesBytes : Content → WCall Bytes → List ℕ → Result Reply Refusal → Content → List ℕ
    → Type 0
GivesBytes (content.WatchOfBytes before) call buffer told next buffer' =
    (after : Picture Bytes)
    × (next ≡ content.WatchOfBytes after)
    × AnswersOfBytes before call told after
    × (buffer' ≡ shown_in told (answer same_bytes before call).0 buffer)
GivesBytes (content.RecordedWatchOfBytes before) call buffer told next buffer' =
    (after : BytesHistory)
    × (next ≡ content.RecordedWatchOfBytes after)
    × RecordsOfBytes before call told after
    × (buffer' ≡ shown_in told (answer same_bytes before.state call).0 buffer)
GivesBytes (content.Watch p) call buffer told next buffer' =
    (told ≡ Err OtherValues) × (next ≡ content.Watch p) × (buffer' ≡ buffer)
GivesBytes (content.RecordedWatch h) call buffer told next buffer' =
    (told ≡ Err OtherValues) × (next ≡ content.RecordedWatch h) × (buffer' ≡ buffer)
GivesBytes other call buffer told next buffer' =
    (told ≡ Err NotOpen) × (next ≡ other) × (buffer' ≡ buffer)

-- a buffer in which not every value has room is too small, and no call is made
abbrev pub GivesValue : Bool → Content → WCall Bytes → List ℕ → Result Reply Refusal → Content
    → List ℕ → Type 0
GivesValue true before call buffer told next buffer' =
    (told ≡ Err SmallBuffer) × (next ≡ before) × (buffer' ≡ buffer)
GivesValue false before call buffer told next buffer' =
    GivesBytes before call buffer told next buffer'

-- what comes of a call with bytes that gives a value too
abbrev pub SwapsBytes : Bool → Content → WCall Bytes → List ℕ → Result Reply Refusal → Content
    → List ℕ → Type 0
SwapsBytes true before call buffer (Err NoMemory) next buffer' =
    (next ≡ before) × (buffer' ≡ buffer)
SwapsBytes true before call buffer told next buffer' =
    GivesValue (nat_lt (length buffer) 1024) before call buffer told next buffer'
SwapsBytes false before call buffer told next buffer' =
    (told ≡ Err BadValue) × (next ≡ before) × (buffer' ≡ buffer)

-- and through a handle
abbrev pub Gives : (Content → Result Reply Refusal → Content → List ℕ → Type 0) → Option Content
    → List ℕ → Reply → Option Content → List ℕ → Type 0
Gives does (Some content) buffer reply after buffer' =
    (told : Result Reply Refusal)
    × (next : Content)
    × (reply ≡ reply_of told)
    × (after ≡ Some next)
    × does content told next buffer'
Gives does None buffer reply after buffer' =
    (reply ≡ reply_of (Err NotOpen)) × (after ≡ None) × (buffer' ≡ buffer)

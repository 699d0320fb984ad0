-- Calls of a broadcast channel of bytes that take a value or give one, as C makes them.
use Rattle.std.specs.Prelude.{◌≡◌, ℕ, Bool, true, false, ◌++◌, List, drop, length, min, nat_lt, take, Option, Some, None, Result, Ok, Err}
use Rattle.th_model.specs.declared.broadcast.BCall.{BCall}
use Rattle.th_model.specs.declared.broadcast.BReply.{BReply}
use Rattle.th_model.specs.declared.broadcast.BReply.TheVariants.{Value}
use Rattle.th_model.specs.BroadcastPicture.{Picture, TakesNoneIfSure, answer}
use Rattle.th_model.specs.Names.{is_value}
use Rattle.th_log.specs.Machines.{broadcast}
use Rattle.th_traces.specs.Spelled.{Bytes}
use Rattle.th_c.specs.declared.content.Content.{Content}
use Rattle.th_c.specs.declared.content.Content.TheVariants as content
use Rattle.th_c.specs.declared.outcome.Refusal.{Refusal}
use Rattle.th_c.specs.declared.outcome.Refusal.TheVariants.{NotOpen, NoMemory, OtherValues, BadValue, SmallBuffer}
use Rattle.th_c.specs.declared.reply.Reply.{Reply}
use Rattle.th_c.specs.Broadcast.{BytesHistory, tells}
use Rattle.th_c.specs.Outcomes.{Answers, Records, reply_of}

-- what comes of a call of a channel of bytes; a reply tells how many bytes its value has
abbrev pub AnswersOfBytes : Picture Bytes → BCall Bytes → Result Reply Refusal → Picture Bytes → Type 0
AnswersOfBytes before call told after =
    Answers broadcast (tells length) TakesNoneIfSure before call told after

-- and of one that keeps its history
abbrev pub RecordsOfBytes : BytesHistory → BCall Bytes → Result Reply Refusal → BytesHistory
    → Type 0
RecordsOfBytes before call told after = Records broadcast (tells length) before call told after

-- What comes of a call with these bytes, which are a value or are not. Memory is asked for to make
-- the value.
abbrev pub SendsValue : Bool → Picture Bytes → BCall Bytes → Result Reply Refusal → Picture Bytes
    → Type 0
SendsValue true before call (Err NoMemory) after = after ≡ before
SendsValue true before call told after = AnswersOfBytes before call told after
SendsValue false before call told after = (told ≡ Err BadValue) × (after ≡ before)

-- And of one that keeps its history. The value is made before the history is asked for room, so
-- want of memory may be told in place of what else would be.
abbrev pub RecordsValue : Bool → BytesHistory → BCall Bytes → Result Reply Refusal → BytesHistory
    → Type 0
RecordsValue true before call (Err NoMemory) after = after ≡ before
RecordsValue true before call told after = RecordsOfBytes before call told after
RecordsValue false before call told after = (told ≡ Err BadValue) × (after ≡ before)

-- what comes of it to what is behind a handle
abbrev pub SendsBytes : Content → BCall Bytes → Bytes → Result Reply Refusal → Content → Type 0
SendsBytes (content.BroadcastOfBytes before) call bytes told next =
    (after : Picture Bytes)
    × (next ≡ content.BroadcastOfBytes after)
    × SendsValue (is_value bytes) before call told after
SendsBytes (content.RecordedBroadcastOfBytes before) call bytes told next =
    (after : BytesHistory)
    × (next ≡ content.RecordedBroadcastOfBytes after)
    × RecordsValue (is_value bytes) before call told after
SendsBytes (content.Broadcast p) call bytes told next =
    (told ≡ Err OtherValues) × (next ≡ content.Broadcast p)
SendsBytes (content.RecordedBroadcast h) call bytes told next =
    (told ≡ Err OtherValues) × (next ≡ content.RecordedBroadcast h)
SendsBytes other call bytes told next = (told ≡ Err NotOpen) × (next ≡ other)

-- a buffer into which bytes are put, as far as there is room for them; and that of the value of a
-- reply
abbrev pub with_bytes : Bytes → List ℕ → List ℕ
with_bytes bytes buffer =
    let count = min (length buffer) (length bytes) in
    take count bytes ++ drop count buffer

abbrev pub with_value : BReply Bytes → List ℕ → List ℕ
with_value (Value value) buffer = with_bytes value buffer
with_value reply buffer = buffer

-- one into which that of the last reply of a history is put, if there is one
abbrev pub with_last : Option (BReply Bytes) → List ℕ → List ℕ
with_last (Some reply) buffer = with_value reply buffer
with_last None buffer = buffer

-- nothing is put into it where the call was not made
abbrev pub shown_in : Result Reply Refusal → BReply Bytes → List ℕ → List ℕ
shown_in (Ok told) reply buffer = with_value reply buffer
shown_in (Err why) reply buffer = buffer

-- What comes of a call that gives a value into a buffer, in a channel where it is answered so. A
-- buffer in which not every value has room is too small, and no call is made.
abbrev pub GivesValue : {S : Type 0} → Bool → (Result Reply Refusal → S → Type 0) → BReply Bytes → S
    → List ℕ → Result Reply Refusal → S → List ℕ → Type 0
GivesValue true comes reply before buffer told after buffer' =
    (told ≡ Err SmallBuffer) × (after ≡ before) × (buffer' ≡ buffer)
GivesValue false comes reply before buffer told after buffer' =
    comes told after × (buffer' ≡ shown_in told reply buffer)

-- of a channel that keeps no history, and of one that keeps it
abbrev pub Answering : Picture Bytes → BCall Bytes → List ℕ → Result Reply Refusal → Picture Bytes
    → List ℕ → Type 0
Answering before call buffer told after buffer' =
    GivesValue (nat_lt (length buffer) 1024) (λ told after. AnswersOfBytes before call told after)
    (answer before call).0 before buffer told after buffer'

abbrev pub Recording : BytesHistory → BCall Bytes → List ℕ → Result Reply Refusal → BytesHistory
    → List ℕ → Type 0
Recording before call buffer told after buffer' =
    GivesValue (nat_lt (length buffer) 1024) (λ told after. RecordsOfBytes before call told after)
    (answer before.state call).0 before buffer told after buffer'

-- what comes of it to what is behind a handle
abbrev pub GivesBytes : Content → BCall Bytes → List ℕ → Result Reply Refusal → Content → List ℕ
    → Type 0
GivesBytes (content.BroadcastOfBytes before) call buffer told next buffer' =
    (after : Picture Bytes)
    × (next ≡ content.BroadcastOfBytes after)
    × Answering before call buffer told after buffer'
GivesBytes (content.RecordedBroadcastOfBytes before) call buffer told next buffer' =
    (after : BytesHistory)
    × (next ≡ content.RecordedBroadcastOfBytes after)
    × Recording before call buffer told after buffer'
GivesBytes (content.Broadcast p) call buffer told next buffer' =
    (told ≡ Err OtherValues) × (next ≡ content.Broadcast p) × (buffer' ≡ buffer)
GivesBytes (content.RecordedBroadcast h) call buffer told next buffer' =
    (told ≡ Err OtherValues) × (next ≡ content.RecordedBroadcast h) × (buffer' ≡ buffer)
GivesBytes other call buffer told next buffer' =
    (told ≡ Err NotOpen) × (next ≡ other) × (buffer' ≡ buffer)

-- and through a handle
abbrev pub Gives : Option Content → BCall Bytes → List ℕ → Reply → Option Content → List ℕ → Type 0
Gives (Some content) call buffer reply after buffer' =
    (told : Result Reply Refusal)
    × (next : Content)
    × (reply ≡ reply_of told)
    × (after ≡ Some next)
    × GivesBytes content call buffer told next buffer'
Gives None call buffer reply after buffer' =
    (reply ≡ reply_of (Err NotOpen)) × (after ≡ None) × (buffer' ≡ buffer)

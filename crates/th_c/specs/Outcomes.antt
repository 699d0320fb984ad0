-- What comes of a call through a handle.
use Rattle.std.specs.Prelude.{◌<◌, ◌≡◌, ℕ, true, false, Option, Some, None, Result, Ok, Err}
use Rattle.th_log.specs.History.{Machine, live_after}
use Rattle.th_registry.specs.History.{History, is_full, recorded}
use Rattle.th_c.specs.declared.content.Content.{Content}
use Rattle.th_c.specs.declared.outcome.Refusal.{Refusal}
use Rattle.th_c.specs.declared.outcome.Refusal.TheVariants.{NotOpen, WouldWait, LogFull, NoMemory, BadCapacity, BadVersion, BadLimit, NotRecorded, OtherValues, BadValue, SmallBuffer}
use Rattle.th_c.specs.declared.reply.Reply.{Reply}
use Rattle.th_c.specs.declared.status.TheConstants.{NOT_OPEN, WOULD_WAIT, LOG_FULL, NO_MEMORY, BAD_CAPACITY, BAD_VERSION, BAD_LIMIT, NOT_RECORDED, OTHER_VALUES, BAD_VALUE, SMALL_BUFFER}

-- the status that tells of a refusal
abbrev pub code_of : Refusal → ℕ
code_of NotOpen = NOT_OPEN
code_of WouldWait = WOULD_WAIT
code_of LogFull = LOG_FULL
code_of NoMemory = NO_MEMORY
code_of BadCapacity = BAD_CAPACITY
code_of BadVersion = BAD_VERSION
code_of BadLimit = BAD_LIMIT
code_of NotRecorded = NOT_RECORDED
code_of OtherValues = OTHER_VALUES
code_of BadValue = BAD_VALUE
code_of SmallBuffer = SMALL_BUFFER

-- what came of a call, as C sees it
abbrev pub reply_of : Result Reply Refusal → Reply
reply_of (Ok reply) = reply
reply_of (Err why) = record { status = code_of why; let_go = 0; number = 0 }

-- What a call of a channel with no history comes to: it is the machine's step; or it would wait; or
-- memory was refused, which is never so of a call that takes none in a channel that looks so.
abbrev pub Answers : {E S C R : Type 0} → Machine E S C R → (S → C → Reply)
    → (S → C → Type 0) → S → C → Result Reply Refusal → S → Type 0
Answers m tells takes_none before call (Ok reply) after =
    (m.ready before call ≡ true)
    × (reply ≡ tells before call)
    × (after ≡ (m.answer before call).1)
Answers m tells takes_none before call (Err WouldWait) after =
    (m.ready before call ≡ false) × (after ≡ before)
Answers m tells takes_none before call (Err NoMemory) after =
    (m.ready before call ≡ true) × (takes_none before call → ⊥) × (after ≡ before)
Answers m tells takes_none before call (Err why) after = ⊥

-- a call after which fewer handles are live
abbrev pub Spends : {E S C R : Type 0} → Machine E S C R → S → C → Type 0
Spends m before call = live_after m before call < m.live before

-- What a call of a channel with its history comes to: it is the machine's step, and one entry more;
-- or it would wait; or there is no room for the entry, or no memory, neither of a call that spends a
-- live handle.
abbrev pub Records : {E S C R : Type 0} → Machine E S C R → (S → C → Reply)
    → History S S C R → C → Result Reply Refusal → History S S C R → Type 0
Records m tells before call (Ok reply) after =
    (m.ready before.state call ≡ true)
    × (reply ≡ tells before.state call)
    × (after ≡ (recorded before call (m.answer before.state call)).1)
Records m tells before call (Err WouldWait) after =
    (m.ready before.state call ≡ false) × (after ≡ before)
Records m tells before call (Err LogFull) after =
    (is_full before (live_after m before.state call) ≡ true)
    × (Spends m before.state call → ⊥)
    × (after ≡ before)
Records m tells before call (Err NoMemory) after =
    (is_full before (live_after m before.state call) ≡ false)
    × (Spends m before.state call → ⊥)
    × (after ≡ before)
Records m tells before call (Err why) after = ⊥

-- Through a handle: where it stands for nothing the call is told so, and else the reply is that of
-- the content.
abbrev pub Through : (Content → Result Reply Refusal → Content → Type 0)
    → Option Content → Reply → Option Content → Type 0
Through does (Some content) reply after =
    (told : Result Reply Refusal)
    × (next : Content)
    × (reply ≡ reply_of told)
    × (after ≡ Some next)
    × does content told next
Through does None reply after = (reply ≡ reply_of (Err NotOpen)) × (after ≡ None)

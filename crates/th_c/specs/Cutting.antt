-- Histories that are cut, and read as texts.
use Rattle.std.specs.Prelude.{◌≡◌, ℕ, ◌++◌, List, drop, length, map, min, take, Option, Some, None, IsSome, Result, Ok, Err}
use Rattle.th_traces.specs.Traces.{broadcast_trace, watch_trace}
use Rattle.th_log.specs.History.{Piece}
use Rattle.th_model.specs.BroadcastPicture.{Picture}
use Rattle.th_model.specs.declared.broadcast.BCall.{BCall}
use Rattle.th_model.specs.declared.broadcast.BReply.{BReply}
use Rattle.th_model.specs.WatchPicture as watch
use Rattle.th_model.specs.declared.watch.WCall.{WCall}
use Rattle.th_model.specs.declared.watch.WReply.{WReply}
use Rattle.th_registry.specs.History.{cut, segment}
use Rattle.th_c.specs.declared.content.Content.{Content}
use Rattle.th_c.specs.declared.content.Content.TheVariants.{Broadcast, BroadcastHistory, BroadcastHistoryOfBytes, BroadcastOfBytes, RecordedBroadcast, RecordedBroadcastOfBytes, RecordedWatch, RecordedWatchOfBytes, Read, Watch, WatchHistory, WatchHistoryOfBytes, WatchOfBytes}
use Rattle.th_c.specs.declared.outcome.Refusal.{Refusal}
use Rattle.th_c.specs.declared.outcome.Refusal.TheVariants.{NoMemory, NotOpen, NotRecorded}
use Rattle.th_c.specs.declared.status.TheConstants.{DONE, IS_OPEN, NOT_OPEN}
use Rattle.th_c.specs.Making.{made, status_of}
use Rattle.th_c.specs.Outcomes.{code_of}
use Rattle.std.specs.Fmt.{decimal}
use Rattle.th_c.specs.SpelledValues.{broadcast_entry, broadcast_picture, watch_entry, watch_picture}

-- What comes of a cut of a broadcast channel: its present segment, and the channel goes on with the
-- next one; or there was no memory, there is no history, or it is no broadcast channel, and nothing
-- has changed.
abbrev pub CutsBroadcast : Content → Result Content Refusal → Content → Type 0
CutsBroadcast (RecordedBroadcast h) (Ok taken) after =
    (taken ≡ BroadcastHistory (segment h h.state)) × (after ≡ RecordedBroadcast (cut h h.state))
CutsBroadcast (RecordedBroadcast h) (Err NoMemory) after = after ≡ RecordedBroadcast h
CutsBroadcast (RecordedBroadcast h) (Err why) after = ⊥
CutsBroadcast (RecordedBroadcastOfBytes h) (Ok taken) after =
    (taken ≡ BroadcastHistoryOfBytes (segment h h.state))
    × (after ≡ RecordedBroadcastOfBytes (cut h h.state))
CutsBroadcast (RecordedBroadcastOfBytes h) (Err NoMemory) after =
    after ≡ RecordedBroadcastOfBytes h
CutsBroadcast (RecordedBroadcastOfBytes h) (Err why) after = ⊥
CutsBroadcast (Broadcast p) told after = (told ≡ Err NotRecorded) × (after ≡ Broadcast p)
CutsBroadcast (BroadcastOfBytes p) told after =
    (told ≡ Err NotRecorded) × (after ≡ BroadcastOfBytes p)
CutsBroadcast other told after = (told ≡ Err NotOpen) × (after ≡ other)

-- and of a watch channel
abbrev pub CutsWatch : Content → Result Content Refusal → Content → Type 0
CutsWatch (RecordedWatch h) (Ok taken) after =
    (taken ≡ WatchHistory (segment h h.state)) × (after ≡ RecordedWatch (cut h h.state))
CutsWatch (RecordedWatch h) (Err NoMemory) after = after ≡ RecordedWatch h
CutsWatch (RecordedWatch h) (Err why) after = ⊥
CutsWatch (RecordedWatchOfBytes h) (Ok taken) after =
    (taken ≡ WatchHistoryOfBytes (segment h h.state))
    × (after ≡ RecordedWatchOfBytes (cut h h.state))
CutsWatch (RecordedWatchOfBytes h) (Err NoMemory) after = after ≡ RecordedWatchOfBytes h
CutsWatch (RecordedWatchOfBytes h) (Err why) after = ⊥
CutsWatch (Watch p) told after = (told ≡ Err NotRecorded) × (after ≡ Watch p)
CutsWatch (WatchOfBytes p) told after = (told ≡ Err NotRecorded) × (after ≡ WatchOfBytes p)
CutsWatch other told after = (told ≡ Err NotOpen) × (after ≡ other)

-- Through the handle of a channel, into that of a trace: where the second stands for something, or
-- the first for nothing, nothing is cut.
abbrev pub Cuts : (Content → Result Content Refusal → Content → Type 0)
    → (channel trace : Option Content) → (status : ℕ) → (channel' trace' : Option Content) → Type 0
Cuts does channel (Some taken) status channel' trace' =
    (status ≡ IS_OPEN) × (channel' ≡ channel) × (trace' ≡ Some taken)
Cuts does None None status channel' trace' =
    (status ≡ NOT_OPEN) × (channel' ≡ None) × (trace' ≡ None)
Cuts does (Some content) None status channel' trace' =
    (told : Result Content Refusal)
    × (next : Content)
    × (status ≡ status_of told)
    × (channel' ≡ Some next)
    × (trace' ≡ made told)
    × does content told next

-- the trace of a segment, each value as it is spelled
abbrev pub broadcast_text : {T : Type 0} → (T → List ℕ)
    → Piece (Picture T) (BCall T) (BReply T) → List ℕ
broadcast_text spelled s =
    broadcast_trace (broadcast_picture spelled s.start) (map (broadcast_entry spelled) s.entries)

abbrev pub watch_text : {T : Type 0} → (T → List ℕ)
    → Piece (watch.Picture T) (WCall T) (WReply T) → List ℕ
watch_text spelled s =
    watch_trace (watch_picture spelled s.start) (map (watch_entry spelled) s.entries)

-- What is still to come of a trace, if it is one. A number is spelled by its digits, bytes as they
-- are.
abbrev pub to_come : Content → Option (List ℕ)
to_come (BroadcastHistory s) = Some (broadcast_text decimal s)
to_come (BroadcastHistoryOfBytes s) = Some (broadcast_text (λ value. value) s)
to_come (WatchHistory s) = Some (watch_text decimal s)
to_come (WatchHistoryOfBytes s) = Some (watch_text (λ value. value) s)
to_come (Read text) = Some text
to_come other = None

-- So many bytes of what is to come were put into the buffer: as many as there are, or as it has
-- room for. The rest is still to come.
abbrev pub Gives : List ℕ → (written : ℕ) → (buffer buffer' : List ℕ) → Content → Type 0
Gives text written buffer buffer' next =
    (written ≡ min (length buffer) (length text))
    × (buffer' ≡ take written text ++ drop written buffer)
    × (to_come next ≡ Some (drop written text))

-- a trace becomes the text that is to come of it; or there was no memory for it, or it is no trace
abbrev pub Prints : Content → Result (Unit {0}) Refusal → Content → Type 0
Prints before (Ok _) next = (text : List ℕ) × (to_come before ≡ Some text) × (next ≡ Read text)
Prints before (Err NoMemory) next = IsSome (to_come before) × (next ≡ before)
Prints before (Err NotOpen) next = (to_come before ≡ None) × (next ≡ before)
Prints before (Err why) next = ⊥

-- what comes of a reading of so many bytes
abbrev pub ReadsOn : Content → (buffer : List ℕ) → Result ℕ Refusal → (buffer' : List ℕ) → Content
    → Type 0
ReadsOn before buffer (Ok written) buffer' next =
    (text : List ℕ) × (to_come before ≡ Some text) × Gives text written buffer buffer' next
ReadsOn before buffer (Err NoMemory) buffer' next =
    IsSome (to_come before) × (buffer' ≡ buffer) × (next ≡ before)
ReadsOn before buffer (Err NotOpen) buffer' next =
    (to_come before ≡ None) × (buffer' ≡ buffer) × (next ≡ before)
ReadsOn before buffer (Err why) buffer' next = ⊥

-- its status, and how many bytes were written
abbrev pub reading_status : Result ℕ Refusal → ℕ
reading_status (Ok written) = DONE
reading_status (Err why) = code_of why

abbrev pub written_by : Result ℕ Refusal → ℕ
written_by (Ok written) = written
written_by (Err why) = 0

-- and through a handle
abbrev pub Reads : Option Content → (buffer : List ℕ) → (status written : ℕ) → (buffer' : List ℕ)
    → Option Content → Type 0
Reads None buffer status written buffer' after =
    (status ≡ NOT_OPEN) × (written ≡ 0) × (buffer' ≡ buffer) × (after ≡ None)
Reads (Some content) buffer status written buffer' after =
    (told : Result ℕ Refusal)
    × (next : Content)
    × (status ≡ reading_status told)
    × (written ≡ written_by told)
    × (after ≡ Some next)
    × ReadsOn content buffer told buffer' next

-- What comes of the making of what a handle is to stand for.
use Rattle.std.specs.Prelude.{◌<◌, ◌≡◌, ℕ, ◌≤◌, true, false, Option, Some, None, IsSome, Result, Ok, Err}
use Rattle.th_model.specs.Limits.{capacity_of}
use Rattle.th_model.specs.Names.{is_value}
use Rattle.th_model.specs.BroadcastMachine as broadcast
use Rattle.th_model.specs.BroadcastPicture as broadcast_picture
use Rattle.th_model.specs.WatchMachine as watch
use Rattle.th_model.specs.WatchPicture as watch_picture
use Rattle.th_c.specs.declared.content.Content.{Content}
use Rattle.th_c.specs.declared.content.Content.TheVariants.{Broadcast, BroadcastOfBytes, RecordedBroadcast, RecordedBroadcastOfBytes, RecordedWatch, RecordedWatchOfBytes, Watch, WatchOfBytes}
use Rattle.th_c.specs.declared.outcome.Refusal.{Refusal}
use Rattle.th_c.specs.declared.outcome.Refusal.TheVariants.{NoMemory, BadCapacity, BadLimit, BadValue, BadVersion}
use Rattle.th_c.specs.declared.status.TheConstants.{DONE, IS_OPEN}
use Rattle.th_registry.specs.History.{opened}
use Rattle.th_traces.specs.Spelled.{Bytes}
use Rattle.th_c.specs.Outcomes.{code_of}

-- a broadcast channel as the machine opens it; or why there is none
abbrev pub OpensBroadcast : (capacity base : ℕ) → Result Content Refusal → Type 0
OpensBroadcast capacity base (Ok content) =
    (in_force : ℕ)
    × (capacity_of capacity ≡ Some in_force)
    × (content ≡ Broadcast (broadcast_picture.see (broadcast.opened in_force base)))
OpensBroadcast capacity base (Err BadCapacity) = capacity_of capacity ≡ None
OpensBroadcast capacity base (Err NoMemory) = IsSome (capacity_of capacity)
OpensBroadcast capacity base (Err why) = ⊥

-- one of bytes
abbrev pub OpensBroadcastOfBytes : (capacity base : ℕ) → Result Content Refusal → Type 0
OpensBroadcastOfBytes capacity base (Ok content) =
    (in_force : ℕ)
    × (capacity_of capacity ≡ Some in_force)
    × (content ≡ BroadcastOfBytes (broadcast_picture.see (broadcast.opened in_force base)))
OpensBroadcastOfBytes capacity base (Err BadCapacity) = capacity_of capacity ≡ None
OpensBroadcastOfBytes capacity base (Err NoMemory) = IsSome (capacity_of capacity)
OpensBroadcastOfBytes capacity base (Err why) = ⊥

-- as many entries as a history may have
abbrev pub IsLimit : ℕ → Type 0
IsLimit limit = (0 < limit) × (limit ≤ 1000000)

-- one that keeps its history, of at most so many entries between two cuts
abbrev pub OpensRecordedBroadcast : (capacity base limit : ℕ) → Result Content Refusal → Type 0
OpensRecordedBroadcast capacity base limit (Ok content) =
    (in_force : ℕ)
    × (capacity_of capacity ≡ Some in_force)
    × IsLimit limit
    × let seen = broadcast_picture.see (broadcast.opened in_force base) in
    content ≡ RecordedBroadcast (opened limit 0 seen seen)
OpensRecordedBroadcast capacity base limit (Err BadCapacity) = capacity_of capacity ≡ None
OpensRecordedBroadcast capacity base limit (Err BadLimit) = IsLimit limit → ⊥
OpensRecordedBroadcast capacity base limit (Err NoMemory) =
    IsSome (capacity_of capacity) × IsLimit limit
OpensRecordedBroadcast capacity base limit (Err why) = ⊥

-- one of bytes
abbrev pub OpensRecordedBroadcastOfBytes : (capacity base limit : ℕ) → Result Content Refusal
    → Type 0
OpensRecordedBroadcastOfBytes capacity base limit (Ok content) =
    (in_force : ℕ)
    × (capacity_of capacity ≡ Some in_force)
    × IsLimit limit
    × let seen = broadcast_picture.see (broadcast.opened in_force base) in
    content ≡ RecordedBroadcastOfBytes (opened limit 0 seen seen)
OpensRecordedBroadcastOfBytes capacity base limit (Err BadCapacity) = capacity_of capacity ≡ None
OpensRecordedBroadcastOfBytes capacity base limit (Err BadLimit) = IsLimit limit → ⊥
OpensRecordedBroadcastOfBytes capacity base limit (Err NoMemory) =
    IsSome (capacity_of capacity) × IsLimit limit
OpensRecordedBroadcastOfBytes capacity base limit (Err why) = ⊥

-- and a watch channel
abbrev pub OpensWatch : (value version : ℕ) → Result Content Refusal → Type 0
OpensWatch value version (Ok content) =
    (1 ≤ version) × (content ≡ Watch (watch_picture.see (watch.opened value version)))
OpensWatch value version (Err BadVersion) = version ≡ 0
OpensWatch value version (Err NoMemory) = 1 ≤ version
OpensWatch value version (Err why) = ⊥

abbrev pub OpensRecordedWatch : (value version limit : ℕ) → Result Content Refusal → Type 0
OpensRecordedWatch value version limit (Ok content) =
    (1 ≤ version)
    × IsLimit limit
    × let seen = watch_picture.see (watch.opened value version) in
    content ≡ RecordedWatch (opened limit 0 seen seen)
OpensRecordedWatch value version limit (Err BadVersion) = version ≡ 0
OpensRecordedWatch value version limit (Err BadLimit) = IsLimit limit → ⊥
OpensRecordedWatch value version limit (Err NoMemory) = (1 ≤ version) × IsLimit limit
OpensRecordedWatch value version limit (Err why) = ⊥

-- one of bytes, which have to be a value
abbrev pub OpensWatchOfBytes : Bytes → (version : ℕ) → Result Content Refusal → Type 0
OpensWatchOfBytes bytes version (Ok content) =
    (1 ≤ version)
    × (is_value bytes ≡ true)
    × (content ≡ WatchOfBytes (watch_picture.see (watch.opened bytes version)))
OpensWatchOfBytes bytes version (Err BadVersion) = version ≡ 0
OpensWatchOfBytes bytes version (Err BadValue) = (1 ≤ version) × (is_value bytes ≡ false)
OpensWatchOfBytes bytes version (Err NoMemory) = (1 ≤ version) × (is_value bytes ≡ true)
OpensWatchOfBytes bytes version (Err why) = ⊥

abbrev pub OpensRecordedWatchOfBytes : Bytes → (version limit : ℕ) → Result Content Refusal → Type 0
OpensRecordedWatchOfBytes bytes version limit (Ok content) =
    (1 ≤ version)
    × IsLimit limit
    × (is_value bytes ≡ true)
    × let seen = watch_picture.see (watch.opened bytes version) in
    content ≡ RecordedWatchOfBytes (opened limit 0 seen seen)
OpensRecordedWatchOfBytes bytes version limit (Err BadVersion) = version ≡ 0
OpensRecordedWatchOfBytes bytes version limit (Err BadLimit) = IsLimit limit → ⊥
OpensRecordedWatchOfBytes bytes version limit (Err BadValue) =
    (1 ≤ version) × IsLimit limit × (is_value bytes ≡ false)
OpensRecordedWatchOfBytes bytes version limit (Err NoMemory) =
    (1 ≤ version) × IsLimit limit × (is_value bytes ≡ true)
OpensRecordedWatchOfBytes bytes version limit (Err why) = ⊥

-- the status of a making, and what there is then
abbrev pub status_of : Result Content Refusal → ℕ
status_of (Ok content) = DONE
status_of (Err why) = code_of why

abbrev pub made : Result Content Refusal → Option Content
made (Ok content) = Some content
made (Err why) = None

-- a handle that stands for nothing stands for what is made; any other stays as it is
abbrev pub Fills : (Result Content Refusal → Type 0) → Option Content → (status : ℕ)
    → Option Content → Type 0
Fills opens None status after =
    (came : Result Content Refusal)
    × (status ≡ status_of came)
    × (after ≡ made came)
    × opens came
Fills opens (Some content) status after = (status ≡ IS_OPEN) × (after ≡ Some content)

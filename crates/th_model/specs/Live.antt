-- How many handles are live, and which calls are made without memory from the copying of the call on.
use Rattle.std.specs.Prelude.{ℕ, ◌+◌, Option, is_some, length, if◌then◌else◌}
use Rattle.th_model.specs.BroadcastPicture as broadcast
use Rattle.th_model.specs.WatchPicture as watch
use Rattle.th_model.specs.declared.watch.WCall.{WCall}
use Rattle.th_model.specs.declared.watch.WCall.TheVariants.{Send, Replace, EditBy}

-- the senders and receivers of a broadcast picture
abbrev pub live_handles : {T : Type 0} → broadcast.Picture T → ℕ
live_handles p = length p.senders + length p.window.places

-- the senders and readers of a watch picture
abbrev pub live_watchers : {T : Type 0} → watch.Picture T → ℕ
live_watchers p = length p.senders + length p.readers

-- one number where the receiver or reader is there, else another
abbrev pub if_there : {X : Type 0} → Option X → ℕ → ℕ → ℕ
if_there found n m = if is_some found then n else m

-- calls that carry no value, so that a copy of one takes no memory
abbrev pub CarriesNoValue : {T : Type 0} → WCall T → Type 0
CarriesNoValue (Send tx v) = ⊥
CarriesNoValue (Replace tx v) = ⊥
CarriesNoValue (EditBy tx w) = ⊥
CarriesNoValue call = Unit {0}

-- calls of a watch channel that carry no value and are always answered
abbrev pub TakesNone : {T : Type 0} → WCall T → Type 0
TakesNone call = CarriesNoValue call × watch.TakesNoMemory call

-- Replies that wait to be written, and what is written of them.
use Rattle.std.specs.Prelude.{◌≡◌, ℕ, List, [], ◌++◌, Option, Result, Ok, Err}
use Rattle.std.specs.Io.KnownBytes.{Appends}
use Rattle.th_lines.specs.Device.{one_more}
use Rattle.th_lines.specs.Tally.{Tally}

-- Where the replies stand: what the writer holds, where that is known; how often it failed; and the bytes that wait to
-- be written.
pub record Output : Type 0 where
  pub written : Option (List ℕ)
  pub failures : ℕ
  pub waiting : List ℕ

-- of a writer whose contents are these, with bytes that wait
abbrev pub output : {W : Type 0} → (W → Option (List ℕ)) → Tally W → List ℕ → Output
output contents writer waiting =
    record { written = contents writer.device; failures = writer.failures; waiting = waiting }

-- these bytes were written
pub record WritesAll (bytes : List ℕ) (old new : Output) : Type 0 where
  pub wrote : Appends old.written new.written bytes
  pub same : new.failures ≡ old.failures

-- the writer failed, and had taken a front of these bytes
pub record WritesFront (bytes : List ℕ) (old new : Output) : Type 0 where
  pub shown : List ℕ
  pub unsaid : List ℕ
  pub wrote : Appends old.written new.written shown
  pub text : shown ++ unsaid ≡ bytes
  pub failed : new.failures ≡ one_more old.failures

-- these bytes came behind those that waited, and what waits now is the rest
pub record Adds (bytes : List ℕ) (old new : Output) : Type 0 where
  pub shown : List ℕ
  pub wrote : Appends old.written new.written shown
  pub text : old.waiting ++ bytes ≡ shown ++ new.waiting
  pub same : new.failures ≡ old.failures

-- by the result of a function: these bytes were written, or the writer failed
abbrev pub Writes : {A E : Type 0} → List ℕ → Output → Output → Result A E → Type 0
Writes bytes old new (Ok a) = WritesAll bytes old new
Writes bytes old new (Err e) = WritesFront bytes old new

-- these bytes came behind those that waited, or the writer failed
abbrev pub AddsOrFails : {A E : Type 0} → List ℕ → Output → Output → Result A E → Type 0
AddsOrFails bytes old new (Ok a) = Adds bytes old new
AddsOrFails bytes old new (Err e) = WritesFront (old.waiting ++ bytes) old new

-- all that waited was written and nothing waits, or the writer failed
abbrev pub Flushes : {A E : Type 0} → Output → Output → Result A E → Type 0
Flushes old new (Ok a) = WritesAll old.waiting old new × (new.waiting ≡ [])
Flushes old new (Err e) = WritesFront old.waiting old new

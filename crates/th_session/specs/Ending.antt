-- How a run over the lines of an input ends, a session's or a schedule's: which lines are answered, and what was written.
use Rattle.std.specs.Prelude.{◌≡◌, ◌⊎◌, ℕ, ◌+◌, ◌<◌, ◌≤◌, Bool, true, false, List, [], ◌++◌, length, take, Option}
use Rattle.std.specs.Io.KnownBytes.{Appends, Consumes, IsAtEnd}
use Rattle.th_lines.specs.Device.{kept_count}
use Rattle.th_lines.specs.Lines.{Line, lines_from, lines_of}
use Rattle.th_lines.specs.Tally.{Tally}

-- Where the devices of a run stand: what its reader still gives and what its writer holds, where that is known, and how
-- often the reader was called.
pub record Devices : Type 0 where
  pub remaining : Option (List ℕ)
  pub contents : Option (List ℕ)
  pub calls : ℕ

abbrev pub devices : {R W : Type 0} →
    (R → Option (List ℕ)) → Tally R → (W → Option (List ℕ)) → Tally W → Devices
devices remaining reader contents writer =
    record {
      remaining = remaining reader.device;
      contents = contents writer.device;
      calls = reader.calls;
    }

-- a front of this text was written
pub record AppendsFront (old new : Option (List ℕ)) (text : List ℕ) : Type 0 where
  pub shown : List ℕ
  pub unsaid : List ℕ
  pub wrote : Appends old new shown
  pub parts : shown ++ unsaid ≡ text

-- `answers lines text`: from the beginning on, these lines are answered by this text. At most so many lines may be.
module _ (answers : List Line → List ℕ → Type 0) (bound : ℕ) (old new : Devices) where
  -- The whole input was read, and its lines are answered.
  pub record WholeAnswered : Type 0 where
    pub input : List ℕ
    pub read : Consumes old.remaining new.remaining input
    pub whole : IsAtEnd new.remaining
    pub within : length (lines_of input) ≤ bound
    pub text : List ℕ
    pub answered : answers (lines_of input) text
    pub wrote : Appends old.contents new.contents text

  -- This much was read, and the lines in it whose LF came are answered.
  pub record AllAnswered : Type 0 where
    pub input : List ℕ
    pub read : Consumes old.remaining new.remaining input
    pub within : length (lines_from false [] input) ≤ bound
    pub text : List ℕ
    pub answered : answers (lines_from false [] input) text
    pub wrote : Appends old.contents new.contents text

  -- A line beyond the bound began in what was read, and the lines within it are answered.
  pub record PastLines : Type 0 where
    pub input : List ℕ
    pub read : Consumes old.remaining new.remaining input
    pub beyond : bound < length (lines_of input)
    pub text : List ℕ
    pub answered : answers (take bound (lines_of input)) text
    pub wrote : Appends old.contents new.contents text

  -- This much was read, and the first lines in it were answered, of which so much is written. At the end of the input
  -- what stands after its last LF is a line too.
  pub record FirstAnswered (writes : Option (List ℕ) → Option (List ℕ) → List ℕ → Type 0) :
      Type 0 where
    pub input : List ℕ
    pub read : Consumes old.remaining new.remaining input
    pub ended : Bool
    pub whole : ended ≡ true → IsAtEnd new.remaining
    pub first : List Line
    pub later : List Line
    pub lines : lines_from ended [] input ≡ first ++ later
    pub within : length first ≤ bound
    pub text : List ℕ
    pub answered : answers first text
    pub wrote : writes old.contents new.contents text

  -- A line beyond the bound began; or all reads were made, and the input had not ended.
  abbrev pub WasTooLong : (reads : ℕ) → Type 0
  WasTooLong reads =
      PastLines ⊎ (AllAnswered × (kept_count new.calls ≡ kept_count (old.calls + reads)))

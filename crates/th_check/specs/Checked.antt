-- What the answer of a check says of what was read.
use Rattle.std.specs.Prelude.{◌≡◌, ℕ, ◌+◌, ◌^◌, false, List, [], ◌++◌, min, Result, Ok, Err, Option}
use Rattle.std.specs.Io.KnownBytes.{Consumes, IsAtEnd}
use Rattle.th_lines.specs.Device.{kept_count, one_more}
use Rattle.th_lines.specs.Lines.{lines_from, lines_of}
use Rattle.th_check.specs.declared.fault.CheckFault.{CheckFault}
use Rattle.th_check.specs.declared.fault.CheckFault.TheVariants.{Read, TooLong, Short}
use Rattle.th_check.specs.declared.verdict.Verdict.{Verdict}
use Rattle.th_check.specs.declared.verdict.Verdict.TheVariants.{Legal}
use Rattle.th_check.specs.Points.{Point, start}
use Rattle.th_check.specs.Verdicts.{IsSo, Leads}

-- The verdict is on the whole text: it is so of what was read, whatever comes after it. At the end of the
-- input nothing does; and no text is legal before.
pub record Checked (reader reader' : Option (List ℕ)) (verdict : Verdict) : Type 0 where
  pub input : List ℕ
  pub read : Consumes reader reader' input
  pub so : (more : List ℕ) → (IsAtEnd reader' → more ≡ []) → IsSo (lines_of (input ++ more)) verdict
  pub whole : (count : ℕ) → verdict ≡ Legal count → IsAtEnd reader'

-- This was read, and none of its lines is bad or illegal.
pub record IsGoodSoFar (reader reader' : Option (List ℕ)) : Type 0 where
  pub input : List ℕ
  pub read : Consumes reader reader' input
  pub here : Point
  pub led : Leads start (lines_from false [] input) here

-- What a fault says: where the reader failed, or all reads were made, no line that came was bad or illegal.
abbrev pub Stopped : Option (List ℕ) → Option (List ℕ) → (calls calls' reads : ℕ) → CheckFault →
    Type 0
Stopped reader reader' calls calls' reads Read = IsGoodSoFar reader reader'
Stopped reader reader' calls calls' reads TooLong =
    IsGoodSoFar reader reader' × (kept_count calls' ≡ kept_count (calls + reads))
Stopped reader reader' calls calls' reads Short = Unit {0}

-- the reader's failures after a check that ended so
abbrev pub failures_of : {A : Type 0} → ℕ → Result A CheckFault → ℕ
failures_of n (Ok a) = n
failures_of n (Err Read) = one_more n
failures_of n (Err TooLong) = n
failures_of n (Err Short) = n

-- the reads that a check makes at most: never more than 2^32
abbrev pub within_most : ℕ → ℕ
within_most reads = min reads (2 ^ 32)

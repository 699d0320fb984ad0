-- What is told of a trace that is not legal.
use Rattle.std.specs.Prelude.{◌≡◌, ℕ, List, ◌++◌, map, nat_lt, ◌==◌, if◌then◌else◌}
use Rattle.th_check.specs.declared.parts.Joined.{Joined}
use Rattle.th_check.specs.declared.parts.Joined.TheVariants.{Judged, Apart}
use Rattle.th_check.specs.declared.verdict.Verdict.{Verdict}
use Rattle.th_check.specs.declared.verdict.Verdict.TheVariants.{Legal, Illegal, BadTrace}

-- what a terminal is given for a byte: itself where it is printable ASCII or a line's end, else `?`
abbrev pub plain : ℕ → ℕ
plain byte =
    if byte == 10 then 10 else (if nat_lt byte 32 then 63 else (if nat_lt 126 byte then 63 else byte))

-- plain bytes were appended, if any
abbrev pub AddsPlain : List ℕ → List ℕ → Type 0
AddsPlain old new = (bytes : List ℕ) × (new ≡ old ++ map plain bytes)

-- what is appended to a text, by the verdict
abbrev pub Explains : Verdict → List ℕ → List ℕ → Type 0
Explains (Legal count) old new = new ≡ old
Explains (Illegal number) old new = AddsPlain old new
Explains (BadTrace number) old new = AddsPlain old new

-- the same of what is said of a text that comes next in a history
abbrev pub ExplainsNext : Joined → List ℕ → List ℕ → Type 0
ExplainsNext (Judged said) old new = Explains said old new
ExplainsNext Apart old new = new ≡ old

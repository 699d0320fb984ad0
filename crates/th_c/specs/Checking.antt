-- What a check of a text tells C.
use Rattle.std.specs.Prelude.{◌≡◌, ℕ, List, Option, Some, None, IfSome}
use Rattle.th_lines.specs.Lines.{lines_of}
use Rattle.th_check.specs.Verdicts.{IsSo}
use Rattle.th_check.specs.declared.verdict.Verdict.{Verdict}
use Rattle.th_check.specs.declared.verdict.Verdict.TheVariants.{Legal, Illegal, BadTrace}
use Rattle.th_c.specs.declared.status.TheConstants.{BAD_TRACE, ILLEGAL, LEGAL, NO_MEMORY}

-- the status of a verdict, and its number; of none, since memory was refused, 0
abbrev pub status_of : Option Verdict → ℕ
status_of (Some (Legal count)) = LEGAL
status_of (Some (Illegal line)) = ILLEGAL
status_of (Some (BadTrace line)) = BAD_TRACE
status_of None = NO_MEMORY

abbrev pub number_of : Option Verdict → ℕ
number_of (Some (Legal count)) = count
number_of (Some (Illegal line)) = line
number_of (Some (BadTrace line)) = line
number_of None = 0

-- the verdict is so of the text's lines
abbrev pub Judges : List ℕ → Option Verdict → Type 0
Judges text said = IfSome said (λ verdict. IsSo (lines_of text) verdict)

abbrev pub Tells : List ℕ → (status number : ℕ) → Type 0
Tells text status number =
    (said : Option Verdict)
    × (status ≡ status_of said)
    × (number ≡ number_of said)
    × Judges text said

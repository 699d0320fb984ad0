-- What a check says of a text (docs/FORMATS.md, "Checks").
use Rattle.std.specs.Prelude.{◌≡◌, ℕ, ◌+◌, List, [], ◌∷◌, ◌++◌, length, Some, None}
use Rattle.th_lines.specs.Lines.{Line}
use Rattle.th_check.specs.declared.verdict.Verdict.{Verdict}
use Rattle.th_check.specs.declared.verdict.Verdict.TheVariants.{Legal, Illegal, BadTrace}
use Rattle.th_check.specs.Points.{Point, Does, start, ended_with}
use Rattle.th_check.specs.Stages.{On, Bad}
use Rattle.th_check.specs.Stages as turn

-- These lines lead from here to there: none of them is bad or illegal.
abbrev pub Leads : Point → List Line → Point → Type 0
Leads here [] there = there ≡ here
Leads here (line ∷ lines) there = (next : Point) × Does here line (On next) × Leads next lines there

-- All lines lead on, and the trace has ended with so many entries.
pub record IsLegalText (lines : List Line) (count : ℕ) : Type 0 where
  pub end : Point
  pub led : Leads start lines end
  pub ended : ended_with end ≡ Some count

-- The lines before this one lead on, and it is a reply of good form that is not the machine's there.
pub record IsIllegalAt (lines : List Line) (number : ℕ) : Type 0 where
  pub before : List Line
  pub line : Line
  pub later : List Line
  pub parts : lines ≡ before ++ line ∷ later
  pub here : Point
  pub led : Leads start before here
  pub illegal : Does here line turn.Illegal
  pub counted : number ≡ length before + 1

-- The next line is bad here; or there is none, and one is due.
abbrev pub IsBadHere : Point → List Line → Type 0
IsBadHere here [] = ended_with here ≡ None
IsBadHere here (line ∷ later) = Does here line Bad

-- The lines before this one lead on, and it is bad there, or due and missing.
pub record IsBadAt (lines : List Line) (number : ℕ) : Type 0 where
  pub before : List Line
  pub rest : List Line
  pub parts : lines ≡ before ++ rest
  pub here : Point
  pub led : Leads start before here
  pub bad : IsBadHere here rest
  pub counted : number ≡ length before + 1

-- what a verdict says of the lines of a text
abbrev pub IsSo : List Line → Verdict → Type 0
IsSo lines (Legal count) = IsLegalText lines count
IsSo lines (Illegal number) = IsIllegalAt lines number
IsSo lines (BadTrace number) = IsBadAt lines number

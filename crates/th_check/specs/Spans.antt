-- What the code holds where a trace has ended, as a part of a history.
use Rattle.std.specs.Prelude.{◌≡◌, ℕ, Some}
use Rattle.th_check.specs.declared.parts.Span.{Span}
use Rattle.th_check.specs.declared.point.Spot.{Spot}
use Rattle.th_check.specs.Joined.{IsSoundPicture, Part, part_at}
use Rattle.th_check.specs.Judging.{Holds}
use Rattle.th_check.specs.Points.{Point, ended_with}

-- the code holds a point at which a trace has ended
abbrev pub IsEnded : Spot → Type 0
IsEnded held =
    (here : Point) × (count : ℕ) × Holds here held × (ended_with here ≡ Some count)

-- these are the pictures of the part that has ended there
pub record Spans (part : Part) (span : Span) : Type 0 where
  pub from : span.from ≡ part.from
  pub to : span.to ≡ part.to
  pub sound : IsSoundPicture part.from

-- the pictures of whatever part has ended at what the code holds
abbrev pub IsSpan : Spot → Span → Type 0
IsSpan held span =
    (here : Point) (part : Part) → Holds here held → part_at here ≡ Some part → Spans part span

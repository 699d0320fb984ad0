-- What the lines of a picture have told so far, and what one more tells (docs/FORMATS.md,
-- "Traces").
use Rattle.std.specs.Prelude.{◌≡◌, Bool, true, false, Option, Some, None, Result, Ok, Err, IsSome, if◌then◌else◌}
use Rattle.th_lines.specs.declared.fault.LineFault.{LineFault}
use Rattle.th_lines.specs.declared.fault.LineFault.TheVariants.{BadLine, Short}

-- a line of a picture tells more of it, or that it is whole
pub data Tells (P : Type 0) : Type 0 where
  More : (picture : P) → Tells P
  Whole : Tells P

-- what is read where it may stand, and nothing where it may not
abbrev pub allowed : {A B : Type 0} → (A → Bool) → (A → B) → Option A → Option B
allowed may tells None = None
allowed may tells (Some read) = if may read then Some (tells read) else None

module _ {P : Type 0} where
  -- What a further line did to a draft, by what the line tells: Ok is what it tells, false where it
  -- tells more. A line that tells nothing is bad. Short comes only for one that tells something;
  -- after it, as after a bad one, the draft is as it was.
  abbrev pub TakesLine : Result Bool LineFault → (old new : P) → Option (Tells P) → Type 0
  TakesLine (Ok false) old new told = told ≡ Some (More new)
  TakesLine (Ok true) old new told = (told ≡ Some Whole) × (new ≡ old)
  TakesLine (Err BadLine) old new told = (told ≡ None) × (new ≡ old)
  TakesLine (Err Short) old new told = IsSome told × (new ≡ old)

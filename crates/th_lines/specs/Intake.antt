-- Bytes that came, and the lines that are found in them.
use Rattle.std.specs.Prelude.{◌≡◌, ◌⊎◌, ℕ, ◌+◌, ◌<◌, ◌≤◌, Bool, true, false, List, [], ◌∷◌, ◌++◌, length, take, drop, Option, Some, None}
use Rattle.std.specs.Borrow.{Bor}
use Rattle.std.specs.Io.KnownBytes.{Consumes, IsAtEnd, Keeps}
use Rattle.th_lines.specs.Lines.{Line, Good, Long, line_of, lines_from, has_no_lf}
use Rattle.th_lines.specs.declared.counted.Moved.{Moved}
use Rattle.th_lines.specs.declared.counted.Moved.TheVariants.{Bytes, Again, Failed}

-- the first LF stands behind so many bytes
pub record HasLfAt (bytes : List ℕ) (count : ℕ) : Type 0 where
  pub within : count < length bytes
  pub parts : bytes ≡ take count bytes ++ 10 ∷ drop (count + 1) bytes
  pub first : has_no_lf (take count bytes) ≡ true

-- the most bytes that come by one read
abbrev pub most_read : ℕ
most_read = 65536

-- the same bytes, or both so many that they are too long for a line
abbrev pub IsSameLine : List ℕ → List ℕ → Type 0
IsSameLine kept bytes = (kept ≡ bytes) ⊎ ((4096 < length kept) × (4096 < length bytes))

-- What came and was not handed out: of the next line what was looked at already, and the bytes behind it that nobody
-- looked at yet.
pub record Came : Type 0 where
  pub begun : List ℕ
  pub ahead : List ℕ

abbrev pub nothing_came : Came
nothing_came = record { begun = []; ahead = [] }

-- the lines of what came and of what may come after it
abbrev pub lines_after : Bool → Came → List ℕ → List Line
lines_after ended c more = lines_from ended c.begun (c.ahead ++ more)

-- the line that was handed out last, and what came after it
pub record Reading : Type 0 where
  pub line : List ℕ
  pub came : Came

abbrev pub nothing_read : Reading
nothing_read = record { line = []; came = nothing_came }

-- The next line was looked for. Where it is whole it was handed out; else nothing is ahead.
abbrev pub Finds : Came → Bool → Reading → Type 0
Finds old true new = (new.came.begun ≡ []) × ((ended : Bool) (more : List ℕ) →
    lines_after ended old more ≡ line_of true new.line ∷ lines_after ended new.came more)
Finds old false new = (new.came.ahead ≡ []) × ((ended : Bool) (more : List ℕ) →
    lines_after ended old more ≡ lines_after ended new.came more)

-- so many lines that came whole were handed out, one after another
pub record Passes (count : ℕ) (old new : Came) : Type 0 where
  pub passed : List Line
  pub counted : length passed ≡ count
  pub lines : (ended : Bool) (more : List ℕ) →
      lines_after ended old more ≡ passed ++ lines_after ended new more
  pub begun : old.begun ≡ [] → new.begun ≡ []

-- The line that was handed out, before an LF, and those that came whole behind it: these are the first of them, so many.
pub record IsRow (i : Reading) (count : ℕ) (row : List Line) : Type 0 where
  pub counted : length row ≡ count
  pub first : (ended : Bool) (more : List ℕ) → (later : List Line) ×
      (line_of true i.line ∷ lines_from ended [] (i.came.ahead ++ more) ≡ row ++ later)

-- At the end of the input what stands after the last LF was handed out, if it is a line.
abbrev pub Ends : Came → Bool → Reading → Type 0
Ends old true new =
    (0 < length old.begun) × (new ≡ record { line = old.begun; came = nothing_came })
Ends old false new = (old.begun ≡ []) × (new.came ≡ nothing_came)

-- a line as its bytes without its end, none where it is too long
abbrev pub line_given : Option (Bor (List ℕ)) → Line
line_given None = Long
line_given (Some bytes) = Good bytes.now

-- The reader was asked for more: bytes came, none only at its end; or nothing did.
abbrev pub Fills : Option (List ℕ) → Option (List ℕ) → Moved → Came → Came → Type 0
Fills reader reader' (Bytes n) old new = IsSameLine new.begun old.begun × (length new.ahead ≡ n)
    × Consumes reader reader' new.ahead × (n ≡ 0 → IsAtEnd reader')
Fills reader reader' Again old new =
    IsSameLine new.begun old.begun × (new.ahead ≡ []) × Keeps reader reader'
Fills reader reader' Failed old new =
    IsSameLine new.begun old.begun × (new.ahead ≡ []) × Keeps reader reader'

-- where in a buffer of so many bytes the line lies that was handed out, the one that has begun, and what is ahead
pub record IsPlaced (bytes line_from line_to begun ahead_from ahead_to : ℕ) : Type 0 where
  pub line : line_from ≤ line_to
  pub line_end : line_to ≤ bytes
  pub next : begun ≤ ahead_from
  pub ahead : ahead_from ≤ ahead_to
  pub ahead_end : ahead_to ≤ bytes
  pub size : bytes ≡ 4097 + most_read

-- Lines that are read are fed to a taker, one after another: what it took, and why no further line is fed.
use Rattle.std.specs.Prelude.{◌≡◌, ◌⊎◌, ℕ, ◌+◌, ◌*◌, ◌<◌, ◌≤◌, Bool, true, false, List, [], ◌∷◌, ◌++◌, length, Option, Some, None, Result, Ok, Err, IfErr}
use Rattle.std.specs.Io.KnownBytes.{Consumes, IsAtEnd}
use Rattle.th_lines.specs.Device.{kept_count, one_more}
use Rattle.th_lines.specs.Intake.{Came, Finds, IsRow, Reading, lines_after, most_read, nothing_came}
use Rattle.th_lines.specs.Lines.{Line, line_of, lines_from, lines_of}
use Rattle.th_lines.specs.declared.feeder.Fed.{Fed}
use Rattle.th_lines.specs.declared.feeder.Fed.TheVariants.{Ended, Stopped, Full, Failed, Spent}

-- What was read of an input: the line that was handed out last; what came after it; how many lines were handed out, and
-- how many may be; and whether the input has ended.
pub record Feeding : Type 0 where
  pub line : List ℕ
  pub came : Came
  pub taken : ℕ
  pub limit : ℕ
  pub ended : Bool

-- before anything was read
abbrev pub beginning : ℕ → Feeding
beginning limit =
    record { line = []; came = nothing_came; taken = 0; limit = limit; ended = false }

-- a line has begun only where it may still be handed out
pub record IsBounded (came : Came) (taken limit : ℕ) : Type 0 where
  pub within : taken ≤ limit
  pub begun : 0 < length came.begun → taken < limit

-- what it shows of the input itself: the line that was handed out last, and what came after it
abbrev pub reading : Feeding → Reading
reading f = record { line = f.line; came = f.came }

-- as many lines were handed out as may be, and a further one has begun
pub record IsFull (f : Feeding) : Type 0 where
  pub bound : f.taken ≡ f.limit
  pub beyond : 0 < length f.came.begun + length f.came.ahead

-- The next line was handed out; or no further one is whole, or may be handed out.
abbrev pub HandsOut : Feeding → Bool → Feeding → Type 0
HandsOut old true new = (old.taken < old.limit)
    × Finds old.came true (reading new)
    × (new ≡ record old { line = new.line; came = new.came })
HandsOut old false new = ((new.taken ≡ new.limit) ⊎ (new.came.ahead ≡ []))
    × ((ended : Bool) (more : List ℕ) →
    lines_after ended old.came more ≡ lines_after ended new.came more)
    × (new ≡ record old { line = new.line; came = new.came })

-- From the line that was handed out on, these lines, at least one, were handed out and taken.
pub record HasPassed (old : Feeding) (row : List Line) (new : Feeding) : Type 0 where
  pub some : 0 < length row
  pub lines : (ended : Bool) (more : List ℕ) → line_of true old.line ∷ lines_after ended old.came more
      ≡ row ++ lines_after ended new.came more
  pub same : new ≡ record old {
    line = new.line;
    came = new.came;
    taken = old.taken + length row;
  }

-- These are the first lines of any text that begins with these bytes; or, where they are all bytes, of the text that
-- they are.
abbrev pub AreFirst : Bool → List ℕ → List Line → Type 0
AreFirst all bytes lines = (ended : Bool) (more : List ℕ) →
    (all ≡ true → (ended ≡ true) × (more ≡ [])) →
    (later : List Line) × (lines_from ended [] (bytes ++ more) ≡ lines ++ later)

-- the reader's failures, by why no further line is fed
abbrev pub failures_by : {E : Type 0} → ℕ → Fed E → ℕ
failures_by n Failed = one_more n
failures_by n fed = n

abbrev pub failures_so_far : {E : Type 0} → ℕ → Option (Fed E) → ℕ
failures_so_far n None = n
failures_so_far n (Some fed) = failures_by n fed

-- `took from lines here`: a taker that stood there took these lines, and stands here. `halts from lines why here`: it
-- was handed them, and has stopped.
module _ {P E : Type 0} (took : P → List Line → P → Type 0)
    (halts : P → List Line → E → P → Type 0) where
  -- where so many lines were taken, these more were, or the taker has stopped with the last of them
  abbrev pub TakesAll : {A : Type 0} → (taken : ℕ) → List Line → P → Result A E → P → Type 0
  TakesAll taken row old (Ok a) new = (from : P) (lines : List Line) → taken ≡ length lines →
      took from lines old → took from (lines ++ row) new
  TakesAll taken row old (Err why) new = (from : P) (lines : List Line) → taken ≡ length lines →
      took from lines old → halts from (lines ++ row) why new

  -- where so many lines were taken, one line more was, or the taker has stopped at it
  abbrev pub Takes : {A : Type 0} → (taken : ℕ) → Line → P → Result A E → P → Type 0
  Takes taken line old result new = TakesAll taken (line ∷ []) old result new

  -- Of the lines that are there the first ones were taken together, so many, or none; or the taker has stopped with the last
  -- of them.
  pub record TakesRow {A : Type 0} (taken most : ℕ) (there : Reading) (old : P) (count : ℕ)
      (result : Result A E) (new : P) : Type 0 where
    pub row : List Line
    pub is : IsRow there count row
    pub within : count ≤ most
    pub some : IfErr result (λ _. 0 < count)
    pub takes : TakesAll taken row old result new

  -- From the line on that was handed out, lines were taken, and handed out; or the taker has stopped with the last of them.
  pub record TakesOn {A : Type 0} (f : Feeding) (old : P) (result : Result A E) (f' : Feeding)
      (new : P) : Type 0 where
    pub row : List Line
    pub passed : HasPassed f row f'
    pub takes : TakesAll f.taken row old result new

  -- nothing is held back, or the taker has stopped
  abbrev pub Settles : {A : Type 0} → (P → Type 0) → P → Result A E → P → Type 0
  Settles is_settled old (Ok a) new =
      ((from : P) (lines : List Line) → took from lines old → took from lines new) × is_settled new
  Settles is_settled old (Err why) new = (from : P) (lines : List Line) →
      took from lines old → halts from lines why new

  -- where the reader stood and stands, and where the taker stood
  module _ (reader reader' : Option (List ℕ)) (old : P) where
    -- By so many reads at most this was read, and these lines in it were taken. What is left of it is still to come.
    pub record Underway (reads : ℕ) (f : Feeding) (new : P) : Type 0 where
      pub input : List ℕ
      pub read : Consumes reader reader' input
      pub few : length input ≤ most_read * reads
      pub done : List Line
      pub lines : (ended : Bool) (more : List ℕ) →
          lines_from ended [] (input ++ more) ≡ done ++ lines_after ended f.came more
      pub counted : f.taken ≡ length done
      pub more : f.ended ≡ false
      pub stands : took old done new

    -- This was read, its first lines were handed out, and the taker has stopped.
    pub record Halted (f : Feeding) (why : E) (new : P) : Type 0 where
      pub input : List ℕ
      pub read : Consumes reader reader' input
      pub whole : f.ended ≡ true → IsAtEnd reader'
      pub done : List Line
      pub lines : AreFirst f.ended input done
      pub counted : f.taken ≡ length done
      pub stands : halts old done why new

    -- The whole input was read, and its lines were taken.
    pub record Finished (f : Feeding) (new : P) : Type 0 where
      pub input : List ℕ
      pub read : Consumes reader reader' input
      pub whole : IsAtEnd reader'
      pub counted : f.taken ≡ length (lines_of input)
      pub within : f.taken ≤ f.limit
      pub stands : took old (lines_of input) new

    -- by why no further line is fed; and what holds where all reads were made
    abbrev pub Stands : (P → Type 0) → Type 0 → ℕ → Fed E → Feeding → P → Type 0
    Stands is_settled spent reads Ended f new = Finished f new
    Stands is_settled spent reads (Stopped why) f new = Halted f why new
    Stands is_settled spent reads Full f new = Underway reads f new × IsFull f
    Stands is_settled spent reads Failed f new =
        Underway reads f new × (f.came.ahead ≡ []) × is_settled new
    Stands is_settled spent reads Spent f new =
        Underway reads f new × (f.came.ahead ≡ []) × spent

    -- the same; or more is to be read
    abbrev pub GoesOn : (P → Type 0) → ℕ → Option (Fed E) → Feeding → P → Type 0
    GoesOn is_settled reads None f new = Underway reads f new
    GoesOn is_settled reads (Some fed) f new = Stands is_settled ⊥ reads fed f new

  -- it comes to this from wherever the reading had begun, once the taker had taken nothing
  abbrev pub Feeds : (P → Type 0) → Option (List ℕ) → Option (List ℕ) → (calls calls' reads : ℕ) →
      P → Fed E → Feeding → P → Type 0
  Feeds is_settled reader reader' calls calls' reads old fed f new = took old [] old →
      Stands reader reader' old is_settled
      (kept_count calls' ≡ kept_count (calls + reads)) reads fed f new

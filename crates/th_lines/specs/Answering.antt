-- Lines are answered one after another, each by a text, and the texts are written.
use Rattle.std.specs.Prelude.{◌≡◌, ℕ, Bool, true, false, List, [], ◌∷◌, ◌++◌}
use Rattle.std.specs.List.{concat}
use Rattle.th_lines.specs.Lines.{Line}
use Rattle.th_lines.specs.Output.{Output, Adds, WritesAll, WritesFront}

-- these bytes came behind those that waited, or the writer failed
abbrev pub Says : Bool → List ℕ → Output → Output → Type 0
Says true bytes before after = Adds bytes before after
Says false bytes before after = WritesFront (before.waiting ++ bytes) before after

-- all of these bytes were written, or the writer failed within them
abbrev pub Ended : Bool → List ℕ → Output → Output → Type 0
Ended true bytes old new = WritesAll bytes old new
Ended false bytes old new = WritesFront bytes old new

-- `turn s line text s'`: in s the line may be answered by this text, and then s' follows.
module _ {S : Type 0} (turn : S → Line → List ℕ → S → Type 0) where
  -- these lines were answered in turn, each by one text
  abbrev pub Turned : List Line → S → List (List ℕ) → S → Type 0
  Turned [] s [] s' = s' ≡ s
  Turned [] s (t ∷ ts) s' = ⊥
  Turned (l ∷ ls) s [] s' = ⊥
  Turned (l ∷ ls) s (t ∷ ts) s' = (mid : S) × turn s l t mid × Turned ls mid ts s'

  -- These lines were answered, and their texts came behind what waited.
  pub record Answers (old : S × Output) (lines : List Line) (new : S × Output) : Type 0 where
    pub texts : List (List ℕ)
    pub turned : Turned lines old.0 texts new.0
    pub said : Adds (concat texts) old.1 new.1

  -- Of these lines those that were done were answered, and none is any more. Their texts came behind what waited; or, where
  -- they are not whole, the writer failed.
  pub record Breaks (whole : Bool) (old : S × Output) (lines : List Line)
      (new : S × Output) : Type 0 where
    pub done : List Line
    pub later : List Line
    pub texts : List (List ℕ)
    pub parts : lines ≡ done ++ later
    pub turned : Turned done old.0 texts new.0
    pub said : Says whole (concat texts) old.1 new.1

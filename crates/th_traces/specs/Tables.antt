-- How the lines of a trace are read: by tables of words (docs/FORMATS.md, "Traces").
use Rattle.std.specs.Prelude.{ℕ, ◌<◌, ◌^◌, Bool, true, List, [], ◌∷◌, map, Option, Some, None}
use Rattle.th_model.specs.declared.handles.RxId.{RxId}
use Rattle.th_model.specs.declared.handles.TxId.{TxId}
use Rattle.th_lines.specs.Fields.{Rest, cut, ended, last, number_last, number_then, value_last, by_word}
use Rattle.th_traces.specs.Spelled.{Bytes}

-- words, each with what reads the fields behind it
abbrev pub Table : Type 0 → Type 0
Table A = List (Bytes × (Rest → Option A))

-- the handles with a number
abbrev pub tx : ℕ → TxId
tx number = record { 0 = number }

abbrev pub rx : ℕ → RxId
rx number = record { 0 = number }

abbrev pub IsNumber : ℕ → Type 0
IsNumber n = n < 2 ^ 64

module _ {A : Type 0} where
  -- what a table reads in some bytes
  abbrev pub by_table : Table A → List ℕ → Option A
  by_table table bytes = by_word table (cut bytes).0 (cut bytes).1

  -- words before a number that is the last field
  abbrev pub numbered : List (Bytes × (ℕ → A)) → Table A
  numbered entries = map (λ e. (e.0, number_last e.1)) entries

  -- a number and a value as the last fields
  abbrev pub number_value_last : (ℕ → Bytes → A) → Rest → Option A
  number_value_last read = number_then (λ n. value_last (read n))

  -- what is read in all that stands behind a word and a space
  abbrev pub behind : Bytes → (List ℕ → Option A) → List ℕ → Option A
  behind word read line = by_word ((word, last read) ∷ []) (cut line).0 (cut line).1

  -- a reply that hands back the value of its call, if the call has one
  abbrev pub handing : Option Bytes → (Bytes → A) → Rest → Option A
  handing None read rest = None
  handing (Some value) read rest = ended (read value) rest

-- memory is asked for each value
abbrev pub each_pair : ℕ × Bytes → Bool
each_pair pair = true

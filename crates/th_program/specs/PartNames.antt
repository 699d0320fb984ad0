-- Names of files that are parts of a topic's history (docs/SERVER.md, "Traces on disk").
use Rattle.std.specs.Prelude.{◌≡◌, ◌<◌, ◌≤◌, ◌+◌, ◌-◌, ◌/◌, ◌%◌, ◌^◌, ◌==◌, ℕ, zero, suc, Bool, List, [], ◌∷◌, ◌++◌, codes, drop, length, not, Option, Some, None, IfSome, Result, Ok, Err}
use Rattle.std.specs.List.{suffix_len}
use Rattle.std.specs.Str.Parse.{AllDigits, digits_value}
use Rattle.th_program.specs.declared.part_names.Misplaced.{Misplaced}
use Rattle.th_program.specs.declared.part_names.Place.{Place}

-- the last so many decimal digits of a number, with zeros in front
unfoldable pub digits_of : (count : ℕ) → ℕ → List ℕ
digits_of zero n = []
digits_of (suc count) n = digits_of count (n / 10) ++ (48 + n % 10) ∷ []

-- what stands behind a topic's name in that of a part which begins with so manieth an event
abbrev pub part_end : ℕ → List ℕ
part_end number = 46 ∷ (digits_of 20 number ++ codes ".trace")

-- `TOPIC.NUMBER.trace`, the number with 20 digits
abbrev pub part_name : List ℕ → ℕ → List ℕ
part_name topic number = topic ++ part_end number

abbrev pub is_no_slash : ℕ → Bool
is_no_slash b = not (b == 47)

-- the name of the file with this path: what stands behind the last slash, or all of it
abbrev pub file_of : List ℕ → List ℕ
file_of path = drop (length path - suffix_len is_no_slash path) path

-- The file with this path is named as a part of a topic's history is: `TOPIC.NUMBER.trace`, with 20 digits.
pub record IsNamed (path topic digits : List ℕ) : Type 0 where
  pub is : file_of path ≡ topic ++ 46 ∷ (digits ++ codes ".trace")
  pub twenty : length digits ≡ 20
  pub all : AllDigits 10 digits

-- it is not named so
abbrev pub IsUnnamed : List ℕ → Type 0
IsUnnamed path = (topic digits : List ℕ) → IsNamed path topic digits → ⊥

-- by its name, if it has one, it is the part of this topic's history that begins with the event of this number
abbrev pub IsPartAt : List ℕ → ℕ → List ℕ → Type 0
IsPartAt topic number path = (other digits : List ℕ) → IsNamed path other digits
    → (other ≡ topic) × (digits_value 10 digits ≡ number) × (number < 2 ^ 64)

-- Of a history that begins with the event `first` of the topic, this may be the file whose entries come behind `before`
-- and up to `count`. Events have numbers up to 2^64 - 1.
pub record Stands (topic : List ℕ) (first before count : ℕ) (path : List ℕ) : Type 0 where
  pub named : IsPartAt topic (first + before) path
  pub to : first + count ≤ 2 ^ 64

-- a number below 2^64, and none above
abbrev pub Says : ℕ → Option ℕ → Type 0
Says value None = 2 ^ 64 ≤ value
Says value (Some n) = value ≡ n

-- the name says this topic and this number
abbrev pub SaysPart : List ℕ → List ℕ → Option ℕ → Type 0
SaysPart path topic number =
    (digits : List ℕ) × IsNamed path topic digits × Says (digits_value 10 digits) number

-- a history that is known to stand there, if anywhere, begins with this event
abbrev pub Agrees : Option Place → List ℕ → ℕ → Type 0
Agrees None topic first = Unit {0}
Agrees (Some p) topic first = (topic ≡ p.topic.now) × (first ≡ p.first)

-- a history of so many entries keeps its place where none of its events has a number above 2^64 - 1
abbrev pub HasRoom : Option Place → (count : ℕ) → Result (Option Place) Misplaced → Type 0
HasRoom place count (Ok found) =
    (found ≡ place) × IfSome place (λ p. p.first + count ≤ 2 ^ 64)
HasRoom None count (Err e) = ⊥
HasRoom (Some p) count (Err e) = p.first + count ≤ 2 ^ 64 → ⊥

-- how a history goes on with a file, by the names; the first one that is named as a part says where it stands
abbrev pub GoesOn : Option Place → (before count : ℕ) → List ℕ
    → Result (Option Place) Misplaced → Type 0
GoesOn place before count path (Ok None) = (place ≡ None) × IsUnnamed path
GoesOn place before count path (Ok (Some p)) = Agrees place p.topic.now p.first
    × Stands p.topic.now p.first before count path
    × (1 ≤ p.first)
    × (place ≡ None → (digits : List ℕ) × IsNamed path p.topic.now digits)
GoesOn place before count path (Err e) = (topic : List ℕ) (first : ℕ) → 1 ≤ first
    → Agrees place topic first → Stands topic first before count path → ⊥

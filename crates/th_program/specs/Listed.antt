-- Names of files that are listed in a text (docs/FORMATS.md, "Files").
use Rattle.std.specs.Prelude.{ℕ, List, [], ◌∷◌, codes, Option, ◌==◌, if◌then◌else◌}
use Rattle.std.specs.Str.{bytes_eq}

-- one byte more in front of the first name
abbrev pub with_byte : ℕ → List (List ℕ) → List (List ℕ)
with_byte b [] = (b ∷ []) ∷ []
with_byte b (name ∷ later) = (b ∷ name) ∷ later

-- the names in a text, each ended by this byte, the last one maybe by the end of the text
unfoldable pub names_in : ℕ → List ℕ → List (List ℕ)
names_in mark [] = []
names_in mark (b ∷ later) =
    if b == mark then [] ∷ names_in mark later else with_byte b (names_in mark later)

-- the byte that ends them: NUL where the text has one, else LF
abbrev pub mark_of : List ℕ → ℕ
mark_of [] = 10
mark_of (b ∷ later) = if b == 0 then 0 else mark_of later

abbrev pub listed : List ℕ → List (List ℕ)
listed text = names_in (mark_of text) text

-- what is known of a list: `-` is standard input
abbrev pub held_by : (List ℕ → Option (List ℕ)) → (input : Option (List ℕ)) → List ℕ
    → Option (List ℕ)
held_by holds input list = if bytes_eq list (codes "-") then input else holds list

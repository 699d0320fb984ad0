-- What a text tells of files and their sums, and which files it does not tell of (docs/FORMATS.md, "Anchors").
use Rattle.std.specs.Prelude.{◌≡◌, ◌==◌, ◌+◌, ◌-◌, ◌&&◌, ◌||◌, not, nat_le, ℕ, Bool, List, [], ◌∷◌, ◌++◌, codes, drop, take, length, map, Option, Some, None, IfSome, MatchBool, if◌then◌else◌}
use Rattle.std.specs.Ordering.{is_lt, nat_cmp}
use Rattle.std.specs.Cmp.Lexicographic.{slice_cmp}
use Rattle.std.specs.List.{filter_map, list_all, list_any, suffix_len}
use Rattle.std.specs.Option.{option_map}
use Rattle.std.specs.Borrow.{Bor}
use Rattle.std.specs.Str.{bytes_eq}
use Rattle.hex.specs.Hex.{encode_lower}
use Rattle.sha2.specs.Sha256.{sha256}
use Rattle.th_program.specs.Listed.{names_in}
use Rattle.th_program.specs.PartNames.{file_of}
use Rattle.th_program.specs.declared.anchors.Anchor.{Anchor}
use Rattle.th_program.specs.declared.anchors.Summed.{Summed}
use Rattle.th_program.specs.declared.whole.Lack.{Lack}
use Rattle.th_program.specs.declared.whole.Lack.TheVariants as lack

-- what is told of a file: its path, and its sum in hexadecimal digits
abbrev pub AnchorLine : Type 0
AnchorLine = List ℕ × List ℕ

-- what the code has of it, and of all, if anything is told
abbrev pub told_of : Anchor → AnchorLine
told_of anchor = (anchor.path.now, anchor.digits.now)

abbrev pub told_if : Option (Bor (List Anchor)) → Option (List AnchorLine)
told_if = option_map (λ anchors. map told_of anchors.now)

abbrev pub is_no_blank : ℕ → Bool
is_no_blank b = not (b == 32)

-- what stands before the last blank of a line, and the word behind it
abbrev pub split_last : List ℕ → List ℕ × List ℕ
split_last line = let word = suffix_len is_no_blank line in
    (take (length line - word - 1) line, drop (length line - word) line)

abbrev pub is_digit : ℕ → Bool
is_digit b = nat_le 48 b && nat_le b 57

abbrev pub is_hex_digit : ℕ → Bool
is_hex_digit b = is_digit b || (nat_le 97 b && nat_le b 102)

-- the word is a sum
abbrev pub is_sum : List ℕ → Bool
is_sum word = length word == 64 && list_all is_hex_digit word

-- the word is the path of a part of a topic's history: it ends with `.`, 20 digits and `.trace`
abbrev pub is_part_end : List ℕ → Bool
is_part_end end = bytes_eq (take 1 end) (codes ".")
    && (list_all is_digit (take 20 (drop 1 end))
    && bytes_eq (drop 20 (drop 1 end)) (codes ".trace"))

abbrev pub is_part : List ℕ → Bool
is_part word = nat_le 27 (length word) && is_part_end (drop (length word - 27) word)

-- what a line tells of a file, if it ends with the words `anchor PATH SUM`
abbrev pub anchor_of : List ℕ → Option AnchorLine
anchor_of line =
    let (front, sum) = split_last line in
    let (start, path) = split_last front in
    let (before, word) = split_last start in
    if bytes_eq word (codes "anchor") && (is_part path && is_sum sum) then Some (path, sum)
    else None

-- what the lines of a text tell
abbrev pub anchors_in : List ℕ → List AnchorLine
anchors_in text = filter_map anchor_of (names_in 10 text)

-- this is told of the file with this path, by its name, and this sum
abbrev pub is_of : List ℕ → List ℕ → AnchorLine → Bool
is_of path digits told = bytes_eq told.1 digits && bytes_eq (file_of told.0) (file_of path)

-- a file that was summed: its path, and its sum
abbrev pub SummedFile : Type 0
SummedFile = List ℕ × List ℕ

-- what the code has of the last one, and the sum that the next one goes on with
abbrev pub summed_of : Option Summed → Option SummedFile
summed_of = option_map (λ s. (s.path.now, s.sum.0))

abbrev pub sum_in : Option SummedFile → List ℕ
sum_in None = []
sum_in (Some file) = file.1

-- the anchors tell of it
abbrev pub is_told : List AnchorLine → SummedFile → Bool
is_told anchors file = list_any (is_of file.0 (encode_lower file.1)) anchors

-- what stands before the number in the path of a part: the start, and the topic
abbrev pub front_of : List ℕ → List ℕ
front_of path = take (length path - 26) path

-- the path is that of a later part of the same topic and start
abbrev pub is_later : List ℕ → List ℕ → Bool
is_later path later =
    bytes_eq (front_of later) (front_of path) && is_lt (slice_cmp nat_cmp path later)

-- the anchors tell of one
abbrev pub has_later : List AnchorLine → List ℕ → Bool
has_later anchors path = list_any (λ told. is_later path told.0) anchors

-- by what they tell of this file
abbrev pub has_rest : List AnchorLine → SummedFile → Bool
has_rest anchors file =
    list_any (λ told. is_of file.0 (encode_lower file.1) told && has_later anchors told.0) anchors

-- what files lack that the anchors tell of, where this is the last one
abbrev pub rest_of : List AnchorLine → Option SummedFile → Option Lack
rest_of anchors None = None
rest_of anchors (Some last) = if has_rest anchors last then Some lack.Rest else None

module _ (holds : List ℕ → Option (List ℕ)) (anchors : List AnchorLine) where
  -- Each of these files has a sum, of the one before it and of its bytes, where they are known. The first one that the anchors
  -- do not tell of is lacking, by its number; else, what they tell of behind the last one.
  abbrev pub LackFrom : (at : ℕ) → Option SummedFile → List (List ℕ) → Option Lack → Type 0
  LackFrom at before [] found = found ≡ rest_of anchors before
  LackFrom at before (path ∷ later) found = (sum : List ℕ)
      × IfSome (holds path) (λ bytes. sum ≡ sha256 (sum_in before ++ bytes))
      × MatchBool (is_told anchors (path, sum))
      (LackFrom (at + 1) (Some (path, sum)) later found) (found ≡ Some (lack.Anchor at))

-- the same where anchors are given
abbrev pub LackBy : (List ℕ → Option (List ℕ)) → Option (List AnchorLine) → List (List ℕ) → Option Lack
    → Type 0
LackBy holds None names found = found ≡ None
LackBy holds (Some anchors) names found = LackFrom holds anchors 0 None names found

-- What is told of files and their sums, line by line, and file by file.
use Rattle.std.proofs.Common.{◌≡◌, ◌≢◌, ◌∙◌, ℕ, ◌+◌, ◌-◌, ◌<◌, ◌≤◌, Bool, true, false, List, [], ◌∷◌, ◌++◌, All, length, take, drop, get_or, map, refl, sym, ap, ap₂, subst, arith, append_assoc, append-nil, Option, Some, None}
use Rattle.std.specs.Prelude.{IfSome, MatchBool, option_to_list}
use Rattle.std.specs.List.{cons_option, filter_map, suffix_len}
use Rattle.std.proofs.lemmas.List.{drop_all, drop_more, take_rest}
use Rattle.sha2.specs.Sha256.{sha256}
use Rattle.th_program.specs.Anchors.{AnchorLine, LackFrom, SummedFile, anchor_of, anchors_in, is_no_blank, is_told, split_last, sum_in}
use Rattle.th_program.specs.Listed.{names_in}
use Rattle.th_program.specs.declared.whole.Lack.{Lack}
use Rattle.th_program.specs.declared.whole.Lack.TheVariants as lack
use Rattle.th_program.proofs.Listing.{names_none}
use Rattle.th_program.proofs.PartNames.{IsOther, last_mark, no_mark}

-- the last word of a line with a blank at this place and none behind it, and of one with none at all
pub word_at : (line : List ℕ) (i : ℕ) → i < length line → get_or line i 0 ≡ 32
    → ((k : ℕ) → i + 1 ≤ k → k < length line → get_or line k 0 ≢ 32)
    → (take i line, take (length line - (i + 1)) (drop (i + 1) line)) ≡ split_last line
word_at line i low is later =
    let at : i + 1 ≡ length line - suffix_len is_no_blank line = last_mark 32 line i low is later in
    let pair = λ (front word : List ℕ). let p : List ℕ × List ℕ = (front, word) in p in
    ap₂ pair (ap (λ (k : ℕ). take k line) (omega (arith, at))) (take_rest line (i + 1) ∙ ap (λ (k : ℕ). drop k line) at)

pub word_alone : (line : List ℕ) → All (IsOther 32) line → ([], line) ≡ split_last line
word_alone line none =
    let count : suffix_len is_no_blank line ≡ length line = no_mark 32 line none in
    let whole : 0 ≡ length line - suffix_len is_no_blank line = omega (arith, count) in
    let front : 0 ≡ length line - suffix_len is_no_blank line - 1 = omega (arith, count) in
    let pair = λ (front word : List ℕ). let p : List ℕ × List ℕ = (front, word) in p in
    ap₂ pair (ap (λ (k : ℕ). take k line) front) (ap (λ (k : ℕ). drop k line) whole)

added : (found : Option AnchorLine) (later : List AnchorLine) → option_to_list found ++ later ≡ cons_option found later
added None later = refl
added (Some told) later = refl

-- one line more
pub line_read : (text line : List ℕ) (later : List (List ℕ)) (at : ℕ) (so_far all : List AnchorLine)
    → names_in 10 (drop at text) ≡ line ∷ later
    → so_far ++ filter_map anchor_of (names_in 10 (drop at text)) ≡ all
    → (so_far ++ option_to_list (anchor_of line)) ++ filter_map anchor_of later ≡ all
line_read text line later at so_far all is told =
    append_assoc so_far (option_to_list (anchor_of line)) (filter_map anchor_of later)
    ∙ ap (λ (l : List AnchorLine). so_far ++ l) (added (anchor_of line) (filter_map anchor_of later))
    ∙ ap (λ (ls : List (List ℕ)). so_far ++ filter_map anchor_of ls) (sym is) ∙ told

-- and no more
pub text_read : (text : List ℕ) (at : ℕ) (so_far : List AnchorLine) → length text ≤ at
    → so_far ++ filter_map anchor_of (names_in 10 (drop at text)) ≡ anchors_in text → so_far ≡ anchors_in text
text_read text at so_far past told =
    sym (append-nil so_far)
    ∙ ap (λ (ls : List (List ℕ)). so_far ++ filter_map anchor_of ls) (sym (ap (names_in 10) (drop_all at text past) ∙ names_none 10)) ∙ told

module _ (holds : List ℕ → Option (List ℕ)) (anchors : List AnchorLine) (at : ℕ) (before : Option SummedFile) (path sum : List ℕ)
    (later : List (List ℕ)) (is : IfSome (holds path) (λ bytes. sum ≡ sha256 (sum_in before ++ bytes))) where
  abbrev Goes : Option Lack → Bool → Type 0
  Goes found told = MatchBool told (LackFrom holds anchors (at + 1) (Some (path, sum)) later found) (found ≡ Some (lack.Anchor at))

  -- the anchors tell of a file, or do not
  pub told_on : (found : Option Lack) → is_told anchors (path, sum) ≡ true
      → LackFrom holds anchors (at + 1) (Some (path, sum)) later found → LackFrom holds anchors at before (path ∷ later) found
  told_on found told goes = (sum, is, subst (Goes found) (sym told) goes)

  pub told_never : is_told anchors (path, sum) ≡ false → LackFrom holds anchors at before (path ∷ later) (Some (lack.Anchor at))
  told_never told = (sum, is, subst (Goes (Some (lack.Anchor at))) (sym told) refl)

-- the names from one of them on
pub names_from : {A : Type 0} (f : A → List ℕ) (xs : List A) (i : ℕ) (x : A) → i < length xs → x ≡ get_or xs i x
    → map f (drop i xs) ≡ f x ∷ map f (drop (i + 1) xs)
names_from {A} f xs i x low is =
    ap (map f) (drop_more xs i x low) ∙ ap (λ (y : A). f y ∷ map f (drop (i + 1) xs)) (sym is)

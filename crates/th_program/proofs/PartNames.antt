-- What is so of the names of parts.
use Rattle.std.proofs.Common.{◌≡◌, ℕ, zero, suc, ◌+◌, ◌-◌, ◌/◌, ◌%◌, ◌<◌, ◌≤◌, List, [], ◌∷◌, ◌++◌, length, drop, set, refl, ap, ◌∙◌, sym, Bool, true, false, arith, append_assoc}
use Rattle.std.proofs.Common.{All, get_or, ◌^◌, ◌≢◌, Err, Ok, Result, inl, inr, length-append, subst, take}
use Rattle.std.proofs.Math.Seq.{drop-append_seam, take-append_seam}
use Rattle.std.proofs.lemmas.List.{append_cancel_right, take_rest}
use Rattle.std.proofs.lemmas.Grind.{common_steps}
use Rattle.std.proofs.lemmas.Slice.Eq.{bytes_eq-Decides}
use Rattle.std.proofs.lemmas.Str.Parse.{IsNumeralModel, digit_from_value, numerals_by_value, parse_digits, tells_digits}
use Rattle.std.specs.List.{suffix_len}
use Rattle.std.specs.Str.Parse.{AllDigits, ParsesUnsigned, digits_value}
use Rattle.std.specs.Prelude.{◌&&◌, ◌==◌, codes, nat_lt, nat_le, not}
use Rattle.std.specs.Str.{IsAscii, bytes_eq}
use Rattle.std.specs.List.{list_all}
use Rattle.std.proofs.lemmas.Str.Ascii.{IsAscii-cons, IsAscii-nil, IsAscii-push}
use Rattle.std.proofs.lemmas.Bool.{cases_lt, eq-eqb, false≢true, ne_eqb}
use Rattle.std.proofs.lemmas.List.Elements.{All-get_or}
use Rattle.std.proofs.lemmas.List.Sums.{suffix_len_is}
use Rattle.std.proofs.lemmas.List.{drop-set}
use Rattle.th_model.specs.Names.{is_name, is_name_byte}
use Rattle.th_program.specs.PartNames.{IsNamed, digits_of, file_of, is_no_slash}

-- a digit is one
digit_is_ascii : (n : ℕ) → 48 + n % 10 < 128
digit_is_ascii n = grind arith

pub digits_are_ascii : (count n : ℕ) → IsAscii (digits_of count n)
unfolding digits_of
digits_are_ascii zero n = IsAscii-nil
digits_are_ascii (suc count) n =
    IsAscii-push (digits_of count (n / 10)) (48 + n % 10) (digits_are_ascii count (n / 10)) (digit_is_ascii n)

-- one digit more in front of those that stand there
digit_more : (count n : ℕ) (later : List ℕ)
    → digits_of count (n / 10) ++ (48 + n % 10) ∷ later ≡ digits_of (suc count) n ++ later
unfolding digits_of
digit_more count n later = sym (append_assoc (digits_of count (n / 10)) ((48 + n % 10) ∷ []) later)

pub digit_written : (at rest : ℕ) (digits : List ℕ) → 0 < at → at ≤ length digits
    → digits_of (at - 1) (rest / 10) ++ drop (at - 1) (set digits (at - 1) (48 + rest % 10))
    ≡ digits_of at rest ++ drop at digits
digit_written at rest digits low room =
    let one : suc (at - 1) ≡ at = omega (arith, low) in
    let two : at - 1 + 1 ≡ at = omega (arith, low) in
    ap (λ (ds : List ℕ). digits_of (at - 1) (rest / 10) ++ ds) (drop-set digits (at - 1) (48 + rest % 10) (omega (arith, low, room)))
    ∙ digit_more (at - 1) rest (drop (at - 1 + 1) digits)
    ∙ ap (λ (k : ℕ). digits_of k rest ++ drop (at - 1 + 1) digits) one
    ∙ ap (λ (k : ℕ). digits_of at rest ++ drop k digits) two

-- where all stand there
pub digits_stand : (at rest : ℕ) (digits : List ℕ) → at ≡ 0 → digits_of at rest ++ drop at digits ≡ digits
unfolding digits_of
digits_stand at rest digits none = ap (λ (k : ℕ). digits_of k rest ++ drop k digits) none

both : (a b : Bool) → (a && b) ≡ true → (a ≡ true) × (b ≡ true)
both true b e = (refl, e)
both false b e = absurd (false≢true e)

-- a name's bytes are ASCII
byte_is_ascii : (b : ℕ) → is_name_byte b ≡ true → b < 128
byte_is_ascii b e = grind arith

bytes_are_ascii : (bs : List ℕ) → list_all is_name_byte bs ≡ true → IsAscii bs
bytes_are_ascii [] e = IsAscii-nil
bytes_are_ascii (b ∷ bs) e =
    let (so, rest) = both (is_name_byte b) (list_all is_name_byte bs) e in
    IsAscii-cons b bs (byte_is_ascii b so) (bytes_are_ascii bs rest)

pub name_is_ascii : (bs : List ℕ) → is_name bs ≡ true → IsAscii bs
name_is_ascii bs e =
    let short = (both (nat_lt 0 (length bs)) _ e).1 in
    bytes_are_ascii bs (both (nat_le (length bs) 32) _ short).1

-- a name is its pieces, one behind the other
pub named_by : (t d e : List ℕ) {a b c x y : List ℕ} → a ≡ [] → b ≡ a ++ t → c ≡ b ++ 46 ∷ [] → x ≡ c ++ d → y ≡ x ++ e
    → y ≡ t ++ 46 ∷ (d ++ e)
named_by t d e {a} {b} {c} {x} {y} none topic dot digits end =
    end ∙ ap (λ (l : List ℕ). l ++ e) (digits ∙ ap (λ (l : List ℕ). l ++ d) (dot
    ∙ ap (λ (l : List ℕ). l ++ 46 ∷ []) (topic ∙ ap (λ (l : List ℕ). l ++ t) none)))
    ∙ append_assoc (t ++ 46 ∷ []) d e ∙ append_assoc t (46 ∷ []) (d ++ e)

-- what stands behind the last such byte of bytes that have it at this place and nowhere behind it, and of those that do not have it
abbrev pub is_other : ℕ → ℕ → Bool
is_other mark b = not (b == mark)

pub last_mark : (mark : ℕ) (bs : List ℕ) (i : ℕ) → i < length bs → get_or bs i 0 ≡ mark
    → ((k : ℕ) → i + 1 ≤ k → k < length bs → get_or bs k 0 ≢ mark)
    → i + 1 ≡ length bs - suffix_len (is_other mark) bs
last_mark mark bs i low is later =
    let passes : (k : ℕ) → i + 1 ≤ k → k < length bs → is_other mark (get_or bs k 0) ≡ true =
    λ k up down. ap not (ne_eqb (get_or bs k 0) mark (later k up down)) in
    let fails : 0 < i + 1 → is_other mark (get_or bs (i + 1 - 1) 0) ≡ false =
    λ some. let same : i + 1 - 1 ≡ i = omega arith in
    ap (λ (j : ℕ). is_other mark (get_or bs j 0)) same ∙ ap not (eq-eqb (get_or bs i 0) mark is) in
    let count = suffix_len_is (is_other mark) bs (i + 1) 0 (omega (arith, low)) passes fails in
    omega (arith, count, low)

abbrev pub IsOther : ℕ → ℕ → Type 0
IsOther mark b = b ≢ mark

pub no_mark : (mark : ℕ) (bs : List ℕ) → All (IsOther mark) bs → suffix_len (is_other mark) bs ≡ length bs
no_mark mark bs none =
    let passes : (k : ℕ) → 0 ≤ k → k < length bs → is_other mark (get_or bs k 0) ≡ true =
    λ k up down. ap not (ne_eqb (get_or bs k 0) mark (All-get_or (IsOther mark) bs k 0 down none)) in
    let count = suffix_len_is (is_other mark) bs 0 0 (omega arith) passes (λ some. absurd (omega (arith, some))) in
    omega (arith, count)

-- the file's name of a path with a slash at this place and none behind it, and of one with none at all
pub file_at : (path : List ℕ) (i : ℕ) → i < length path → get_or path i 0 ≡ 47
    → ((k : ℕ) → i + 1 ≤ k → k < length path → get_or path k 0 ≢ 47)
    → take (length path - (i + 1)) (drop (i + 1) path) ≡ file_of path
file_at path i low is later = take_rest path (i + 1) ∙ ap (λ (k : ℕ). drop k path) (last_mark 47 path i low is later)

pub file_alone : (path : List ℕ) → All (IsOther 47) path → path ≡ file_of path
file_alone path none =
    let count : suffix_len is_no_slash path ≡ length path = no_mark 47 path none in
    let all : 0 ≡ length path - suffix_len is_no_slash path = omega (arith, count) in
    ap (λ (k : ℕ). drop k path) all

own : IsNumeralModel (AllDigits 10) (digits_value 10)
own = numerals_by_value (AllDigits 10) tells_digits

-- digits are text, and are read as their number where there is room for it
pub digits_are_text : (ds : List ℕ) → AllDigits 10 ds → IsAscii ds
digits_are_text [] all = IsAscii-nil
digits_are_text (c ∷ cs) all = IsAscii-cons c cs (omega (arith, digit_from_value c all.0)) (digits_are_text cs all.1)

pub number_is : {E : Type 0} (ds : List ℕ) (n : ℕ) (r : Result ℕ E) → r ≡ Ok n → ParsesUnsigned 64 10 ds r → AllDigits 10 ds
    → digits_value 10 ds ≡ n
number_is {E} ds n r is read all =
    sym (parse_digits own {E = E} 64 ds (Ok n) (subst (λ (x : Result ℕ E). ParsesUnsigned 64 10 ds x) is read) all).1

pub number_none : {E : Type 0} (ds : List ℕ) (e : E) (r : Result ℕ E) → r ≡ Err e → ParsesUnsigned 64 10 ds r → AllDigits 10 ds
    → 0 < length ds → 2 ^ 64 ≤ digits_value 10 ds
number_none {E} ds e r is read all some = elim (cases_lt (digits_value 10 ds) (2 ^ 64)) [
  | inl low ↦ absurd (parse_digits own {E = E} 64 ds (Err e) (subst (λ (x : Result ℕ E). ParsesUnsigned 64 10 ds x) is read) all (some, low))
  | inr high ↦ high
]

-- a part's name in its pieces
named : (t d : List ℕ) → t ++ 46 ∷ (d ++ codes ".trace") ≡ (t ++ 46 ∷ d) ++ codes ".trace"
named t d = sym (append_assoc t (46 ∷ d) (codes ".trace"))

pub front_of : (name t d front : List ℕ) → name ≡ t ++ 46 ∷ (d ++ codes ".trace") → name ≡ front ++ codes ".trace"
    → front ≡ t ++ 46 ∷ d
front_of name t d front is ends = append_cancel_right front (t ++ 46 ∷ d) (codes ".trace") (sym ends ∙ is ∙ named t d)

pub never_without : (name t d : List ℕ) → name ≡ t ++ 46 ∷ (d ++ codes ".trace")
    → ((front : List ℕ) → name ≢ front ++ codes ".trace") → ⊥
never_without name t d is none = none (t ++ 46 ∷ d) (is ∙ named t d)

pub front_is_long : (front t d : List ℕ) → length d ≡ 20 → front ≡ t ++ 46 ∷ d → length front ≡ length t + 21
front_is_long front t d twenty is = ap length is ∙ length-append t (46 ∷ d) ∙ omega (arith, twenty)

pieces : (front t d : List ℕ) → length d ≡ 20 → front ≡ t ++ 46 ∷ d
    → (front ≡ (t ++ 46 ∷ []) ++ d) × (length front - 20 ≡ length (t ++ 46 ∷ []))
pieces front t d twenty is = (
  is ∙ sym (append_assoc t (46 ∷ []) d),
  omega (arith, front_is_long front t d twenty is, length-append t (46 ∷ [])),
)

pub digits_behind : (front t d : List ℕ) → length d ≡ 20 → front ≡ t ++ 46 ∷ d → drop (length front - 20) front ≡ d
digits_behind front t d twenty is =
    let (whole, at) = pieces front t d twenty is in
    ap (λ (k : ℕ). drop k front) at ∙ ap (drop (length (t ++ 46 ∷ []))) whole ∙ drop-append_seam (t ++ 46 ∷ []) d

pub topic_before : (front t d : List ℕ) → length d ≡ 20 → front ≡ t ++ 46 ∷ d → take (length front - 20) front ≡ t ++ 46 ∷ []
topic_before front t d twenty is =
    let (whole, at) = pieces front t d twenty is in
    ap (λ (k : ℕ). take k front) at ∙ ap (take (length (t ++ 46 ∷ []))) whole ∙ take-append_seam (t ++ 46 ∷ []) d

-- a name of its pieces
pub whole : (name front t head digits : List ℕ) → name ≡ front ++ codes ".trace" → front ≡ head ++ digits
    → head ≡ t ++ 46 ∷ [] → name ≡ t ++ 46 ∷ (digits ++ codes ".trace")
whole name front t head digits ends parts dot =
    ends ∙ ap (λ (l : List ℕ). l ++ codes ".trace") (parts ∙ ap (λ (l : List ℕ). l ++ digits) dot
    ∙ append_assoc t (46 ∷ []) digits) ∙ sym (named t digits)

pub same_topic : (u t : List ℕ) (r : Bool) → r ≡ bytes_eq u t → r ≡ true → u ≡ t
same_topic u t r is same = grind (arith, common_steps, bytes_eq-Decides u t)

-- a name is that of one part alone
pub same_name : (path t u d e : List ℕ) → IsNamed path t d → IsNamed path u e → (t ≡ u) × (d ≡ e)
same_name path t u d e one other =
    let front : List ℕ = t ++ 46 ∷ d in
    let is : front ≡ u ++ 46 ∷ e = front_of (file_of path) u e front other.is (one.is ∙ named t d) in
    let topic : t ++ 46 ∷ [] ≡ u ++ 46 ∷ [] = sym (topic_before front t d one.twenty refl) ∙ topic_before front u e other.twenty is in
    (append_cancel_right t u (46 ∷ []) topic, sym (digits_behind front t d one.twenty refl) ∙ digits_behind front u e other.twenty is)

-- Lines that were printed are read as they stand.
use Rattle.std.proofs.Common.{◌≡◌, ℕ, zero, suc, ◌+◌, ◌-◌, ◌<◌, ◌≤◌, ◌^◌, Bool, true, false, cond, eqb, List, [], ◌∷◌, ◌++◌, length, map, take, get_or, refl, ap, ap₂, ◌∙◌, append_assoc, arith, length-append}
use Rattle.std.specs.Prelude.{◌&&◌, codes, nat_le}
use Rattle.std.specs.Fmt.{decimal}
use Rattle.std.specs.Io.BufRead.{ends_with_byte}
use Rattle.std.specs.List.{AllByRecursion, list_all}
use Rattle.std.proofs.lemmas.Bool.{le-ltb, leb-true, ne_eqb}
use Rattle.std.proofs.lemmas.Fmt.{length-decimal-le}
use Rattle.std.proofs.lemmas.List.Folds.{list_all-append}
use Rattle.th_model.specs.Names.{is_value_byte}
use Rattle.th_lines.specs.Commands.{IsValue}
use Rattle.th_lines.specs.Fields.{is_digit}
use Rattle.th_lines.specs.Lines.{Line, Good, Long, has_no_lf, line_of, lines_of}
use Rattle.th_lines.proofs.LineLaws.{at_lf}
use Rattle.th_lines.proofs.Numbers.{and_both, and_parts, decimal-digits}
use Rattle.th_traces.specs.declared.head.Head.{Head}
use Rattle.th_traces.specs.declared.picture.Picture.{Picture}
use Rattle.th_traces.specs.Shown.{Spells}
use Rattle.th_traces.specs.Spelled.{Bytes, PictureFields, call_line, end_line, entry_lines, kept_line, line, picture_lines, receiver_line, reply_line, sender_line, start_line, text, trace_lines}
use Rattle.th_traces.specs.Tables.{IsNumber}
use Rattle.th_traces.proofs.Further.{not_true}
use Rattle.th_check.specs.Histories.{HasHistory, IsTrace}

-- none of the bytes is LF or CR, and there are so many at most
pub record IsPlain (most : ℕ) (bytes : List ℕ) : Type 0 where
  pub free : list_all is_value_byte bytes ≡ true
  pub short : length bytes ≤ most

abbrev pub IsLine : Bytes → Type 0
IsLine line = IsPlain 4096 line

no_lf : (bytes : List ℕ) → list_all is_value_byte bytes ≡ true → has_no_lf bytes ≡ true
no_lf [] h = refl
no_lf (b ∷ bs) h =
    let both = and_parts _ _ h in
    and_both _ _ (and_parts _ _ both.0).0 (no_lf bs both.1)

no_cr : (bytes : List ℕ) (k : ℕ) → list_all is_value_byte bytes ≡ true → eqb (get_or bytes k 0) 13 ≡ false
no_cr [] k h = refl
no_cr (b ∷ bs) zero h = not_true (eqb b 13) (and_parts _ _ (and_parts _ _ h).0).1
no_cr (b ∷ bs) (suc k) h = no_cr bs k (and_parts _ _ h).1

and_false : (a b : Bool) → b ≡ false → (a && b) ≡ false
and_false true b h = h
and_false false b h = refl

not_cut : (bytes : List ℕ) → list_all is_value_byte bytes ≡ true → ends_with_byte 13 bytes ≡ false
not_cut bytes h = and_false _ _ (no_cr bytes (length bytes - 1) h)

read_again : (line : Bytes) → IsLine line → line_of true line ≡ Good line
read_again line p = ap (λ (b : Bool). cond b Long (Good (cond (ends_with_byte 13 line) (take (length line - 1) line) line)))
    (le-ltb 4096 (length line) p.short)
    ∙ ap (λ (b : Bool). Good (cond b (take (length line - 1) line) line)) (not_cut line p.free)

-- the lines of a text
pub lines_again : (lines : List Bytes) → AllByRecursion IsLine lines → lines_of (text lines) ≡ map Good lines
lines_again [] h = refl
lines_again (l ∷ ls) h = ap lines_of (append_assoc l (10 ∷ []) (text ls))
    ∙ at_lf true l (text ls) (no_lf l h.0.free)
    ∙ ap₂ (λ (x : Line) (xs : List Line). x ∷ xs) (read_again l h.0) (lines_again ls h.1)

-- words, numbers and values
pub word : (most : ℕ) (bytes : Bytes) → (list_all is_value_byte bytes && nat_le (length bytes) most) ≡ true → IsPlain most bytes
word most bytes h =
    let both = and_parts _ _ h in
    record { free = both.0; short = leb-true _ _ both.1 }

digit : (b : ℕ) → is_digit b ≡ true → is_value_byte b ≡ true
digit b h =
    let low : 48 ≤ b = leb-true _ _ (and_parts _ _ h).0 in
    let lf : eqb b 10 ≡ false = ne_eqb b 10 (λ e. omega (arith, e, low)) in
    let cr : eqb b 13 ≡ false = ne_eqb b 13 (λ e. omega (arith, e, low)) in
    rw (lf, cr) refl

digits : (bytes : List ℕ) → list_all is_digit bytes ≡ true → list_all is_value_byte bytes ≡ true
digits [] h = refl
digits (b ∷ bs) h =
    let both = and_parts _ _ h in
    and_both _ _ (digit b both.0) (digits bs both.1)

pub number : (most n : ℕ) → 20 ≤ most → IsNumber n → IsPlain most (decimal n)
number most n room h =
    let few : n < 10 ^ 20 = omega (arith, h) in
    record { free = digits (decimal n) (decimal-digits n h); short = omega (arith, room, length-decimal-le 20 n (omega arith) few h) }

pub value : (bytes : Bytes) → IsValue bytes → IsPlain 1024 bytes
value bytes h =
    let both = and_parts _ _ (and_parts _ _ h).1 in
    record { free = both.1; short = leb-true _ _ both.0 }

-- the most bytes of a line of fields that have so many each
abbrev pub room : ℕ → List Bytes → ℕ
room most [] = 0
room most (f ∷ fs) = suc most + room most fs

fields : (most : ℕ) (fs : List Bytes) → AllByRecursion (IsPlain most) fs → IsPlain (room most fs) (line fs)
fields most [] h = record { free = refl; short = omega arith }
fields most (f ∷ []) h = record { free = h.0.free; short = omega (arith, h.0.short) }
fields most (f ∷ g ∷ fs) h =
    let rest = fields most (g ∷ fs) h.1 in
    record {
      free = list_all-append is_value_byte f (32 ∷ line (g ∷ fs)) ∙ and_both _ _ h.0.free rest.free;
      short = omega (arith, h.0.short, rest.short, length-append f (32 ∷ line (g ∷ fs)));
    }

-- a line of fields, and one with a mark before them
pub plain : (most : ℕ) (fs : List Bytes) → AllByRecursion (IsPlain most) fs → room most fs ≤ 4000 → IsLine (line fs)
plain most fs h few =
    let l = fields most fs h in
    record { free = l.free; short = omega (arith, l.short, few) }

pub marked : (mark : Bytes) (most : ℕ) (fs : List Bytes) → IsPlain 2 mark → AllByRecursion (IsPlain most) fs → room most fs ≤ 4000
    → IsLine (mark ++ line fs)
marked mark most fs m h few =
    let l = fields most fs h in
    record {
      free = list_all-append is_value_byte mark (line fs) ∙ and_both _ _ m.free l.free;
      short = omega (arith, m.short, l.short, few, length-append mark (line fs));
    }

-- lines of entries: behind a mark and a word stand a number, another field, or both
module _ (mark name : Bytes) (m : (list_all is_value_byte mark && nat_le (length mark) 2) ≡ true)
    (w : (list_all is_value_byte name && nat_le (length name) 1024) ≡ true) where
  pub last_said : (last : Bytes) → IsPlain 1024 last → IsLine (mark ++ line (name ∷ last ∷ []))
  last_said last h = marked mark 1024 (name ∷ last ∷ []) (word 2 mark m) (word 1024 name w, (h, tt)) (omega arith)

  pub number_said : (n : ℕ) → IsNumber n → IsLine (mark ++ line (name ∷ decimal n ∷ []))
  number_said n h = last_said (decimal n) (number 1024 n (omega arith) h)

  pub value_said : (n : ℕ) (v : Bytes) → IsNumber n → IsValue v → IsLine (mark ++ line (name ∷ decimal n ∷ v ∷ []))
  value_said n v h k =
      marked mark 1024 (name ∷ decimal n ∷ v ∷ []) (word 2 mark m) (word 1024 name w, (number 1024 n (omega arith) h, (value v k, tt)))
      (omega arith)

pub all_both : {A : Type 0} (P : A → Type 0) (xs ys : List A) → AllByRecursion P xs → AllByRecursion P ys → AllByRecursion P (xs ++ ys)
all_both P [] ys h k = k
all_both P (x ∷ xs) ys h k = (h.0, all_both P xs ys h.1 k)

pub all_map : {A B : Type 0} (P : A → Type 0) (Q : B → Type 0) (f : A → B) → ((a : A) → P a → Q (f a)) → (xs : List A)
    → AllByRecursion P xs → AllByRecursion Q (map f xs)
all_map P Q f ok [] h = tt
all_map P Q f ok (x ∷ xs) h = (ok x h.0, all_map P Q f ok xs h.1)

-- the lines of a picture
abbrev pub IsStanding : ℕ × Bytes → Type 0
IsStanding rx = IsNumber rx.0 × IsPlain 1024 rx.1

pub record ArePlainFields (t : PictureFields) : Type 0 where
  pub head : IsLine (line t.head)
  pub start : IsLine (start_line t)
  pub kept : AllByRecursion IsValue t.kept
  pub senders : AllByRecursion IsNumber t.senders
  pub receivers : AllByRecursion IsStanding t.receivers

-- the numbers of live handles
pub senders_plain : (next : ℕ) → next < 2 ^ 64 → (senders : List ℕ) → AllByRecursion (λ k. (0 < k) × (k < next)) senders
    → AllByRecursion IsNumber senders
senders_plain next fits [] h = tt
senders_plain next fits (x ∷ xs) h = (omega (arith, h.0.1, fits), senders_plain next fits xs h.1)

kept_plain : (v : Bytes) → IsValue v → IsLine (kept_line v)
kept_plain v h = plain 1024 (codes "KEEP" ∷ v ∷ []) (word 1024 (codes "KEEP") refl, (value v h, tt)) (omega arith)

sender_plain : (tx : ℕ) → IsNumber tx → IsLine (sender_line tx)
sender_plain tx h =
    plain 1024 (codes "TX" ∷ decimal tx ∷ []) (word 1024 (codes "TX") refl, (number 1024 tx (omega arith) h, tt)) (omega arith)

receiver_plain : (rx : ℕ × Bytes) → IsStanding rx → IsLine (receiver_line rx)
receiver_plain rx h =
    plain 1024 (codes "RX" ∷ decimal rx.0 ∷ rx.1 ∷ []) (word 1024 (codes "RX") refl, (number 1024 rx.0 (omega arith) h.0, (h.1, tt)))
    (omega arith)

pub picture_plain : (t : PictureFields) → ArePlainFields t → AllByRecursion IsLine (picture_lines t)
picture_plain t h =
    let begin : AllByRecursion IsLine (codes "BEGIN" ∷ []) = (word 4096 (codes "BEGIN") refl, tt) in
    let rxs = all_both IsLine (map receiver_line t.receivers) (codes "BEGIN" ∷ [])
    (all_map IsStanding IsLine receiver_line receiver_plain t.receivers h.receivers) begin in
    let txs = all_both IsLine (map sender_line t.senders) (map receiver_line t.receivers ++ codes "BEGIN" ∷ [])
    (all_map IsNumber IsLine sender_line sender_plain t.senders h.senders) rxs in
    (h.head, (h.start, all_both IsLine (map kept_line t.kept) _ (all_map IsValue IsLine kept_line kept_plain t.kept h.kept) txs))

-- the lines of entries
abbrev pub IsEntryPlain : List Bytes × List Bytes → Type 0
IsEntryPlain e = IsLine (call_line e.0) × IsLine (reply_line e.1)

pub entries_plain : (es : List (List Bytes × List Bytes)) → AllByRecursion IsEntryPlain es → AllByRecursion IsLine (entry_lines es)
entries_plain [] h = tt
entries_plain (e ∷ es) h = (h.0.0, (h.0.1, entries_plain es h.1))

pub end_plain : (count : ℕ) → IsNumber count → IsLine (end_line count)
end_plain count h =
    plain 1024 (codes "END" ∷ decimal count ∷ []) (word 1024 (codes "END") refl, (number 1024 count (omega arith) h, tt)) (omega arith)

-- the lines of a whole trace are those of its picture, and below them those of its history
pub traced : (t : PictureFields) (es : List (List Bytes × List Bytes)) (h : Head) (p : Picture) (count : ℕ) → ArePlainFields t
    → AllByRecursion IsEntryPlain es → IsNumber (length es)
    → Spells h p (picture_lines t) → HasHistory h p (entry_lines es ++ end_line (length es) ∷ []) count
    → IsTrace (lines_of (text (trace_lines t es))) count
traced t es h p count told each few spelled history = record {
  front = picture_lines t;
  below = entry_lines es ++ end_line (length es) ∷ [];
  parts = lines_again (trace_lines t es)
      (all_both IsLine (picture_lines t) _ (picture_plain t told)
      (all_both IsLine (entry_lines es) (end_line (length es) ∷ []) (entries_plain es each) (end_plain (length es) few, tt)));
  kind = h;
  shown = p;
  spelled = spelled;
  history = history;
}

-- The lines of bytes that come in parts.
use Rattle.std.proofs.Common.{◌≡◌, inl, inr, ℕ, zero, suc, ◌+◌, ◌<◌, Bool, true, false, cond, eqb, List, [], ◌∷◌, ◌++◌, length, take, drop, get_or, refl, sym, ap, ◌∙◌, append_assoc, append-nil, arith, tests, rules, length-append, nat_lt, take-append-drop, ◌-◌, ◌≤◌, length-take, length-drop, subst, slice_range, Option}
use Rattle.std.specs.Prelude.{◌&&◌, not}
use Rattle.std.proofs.lemmas.Bool.{false≢true, eqb-true}
use Rattle.std.proofs.lemmas.List.{drop_more, drop-take, drop-drop, take-take}
use Rattle.th_lines.specs.Lines.{line_of, last_line, lines_from, has_no_lf}
use Rattle.th_lines.specs.Intake.{IsSameLine, Came, Reading, Finds, Fills, HasLfAt}
use Rattle.th_lines.specs.Device.{ReadMoved, bytes_moved}
use Rattle.th_lines.specs.declared.counted.Moved.{Moved}
use Rattle.th_lines.specs.declared.counted.Moved.TheVariants.{Bytes, Again, Failed}
use Rattle.std.specs.Io.KnownBytes.{Consumes}
use Rattle.std.proofs.Math.Seq.{take-add, take-append_seam}

-- a byte that is no LF, before others
other : (b : ℕ) (rest : Bool) → (not (eqb b 10) && rest) ≡ true → (eqb b 10 ≡ false) × (rest ≡ true)
other b rest h = elim (eqb b 10) as (λ t. (not t && rest) ≡ true → (t ≡ false) × (rest ≡ true)) [
  | true ↦ λ k. absurd (false≢true k)
  | false ↦ λ k. (refl, k)
] h

-- the lines at bytes without an LF, and at the first LF
pub lines_from-part : (ended : Bool) (held part more : List ℕ) → has_no_lf part ≡ true
    → lines_from ended held (part ++ more) ≡ lines_from ended (held ++ part) more
lines_from-part ended held [] more h = ap (λ (l : List ℕ). lines_from ended l more) (sym (append-nil held))
lines_from-part ended held (b ∷ part) more h =
    let o = other b (has_no_lf part) h in
    let here = o.0 in
    let later = lines_from-part ended (held ++ b ∷ []) part more o.1 in
    rw here (later ∙ ap (λ (l : List ℕ). lines_from ended l more) (append_assoc held (b ∷ []) part))

pub lines_from-lf : (ended : Bool) (held part more : List ℕ) → has_no_lf part ≡ true
    → lines_from ended held (part ++ 10 ∷ more) ≡ line_of true (held ++ part) ∷ lines_from ended [] more
lines_from-lf ended held part more h = lines_from-part ended held part (10 ∷ more) h

-- what came first of a line that is too long doesn't matter
is_long : (x : List ℕ) → 4096 < length x → nat_lt 4096 (length x) ≡ true
is_long x p = search (rules, tests)

long_last : (ended : Bool) (x y : List ℕ) → 4096 < length x → 4096 < length y → last_line ended x ≡ last_line ended y
long_last ended [] y p q = absurd (omega arith)
long_last ended (a ∷ x) [] p q = absurd (omega arith)
long_last ended (a ∷ x) (b ∷ y) p q = rw (is_long (a ∷ x) p, is_long (b ∷ y) q) refl

long_line : (x y : List ℕ) → 4096 < length x → 4096 < length y → line_of true x ≡ line_of true y
long_line x y p q = rw (is_long x p, is_long y q) refl

lines_from-long : (ended : Bool) (x y more : List ℕ) → 4096 < length x → 4096 < length y → lines_from ended x more ≡ lines_from ended y more
lines_from-long ended x y [] p q = long_last ended x y p q
lines_from-long ended x y (b ∷ more) p q =
    let l = long_line x y p q in
    let later = lines_from-long ended (x ++ b ∷ []) (y ++ b ∷ []) more (omega (arith, length-append x (b ∷ [])))
    (omega (arith, length-append y (b ∷ []))) in
    elim (eqb b 10) as (λ t. cond t (line_of true x ∷ lines_from ended [] more) (lines_from ended (x ++ b ∷ []) more)
    ≡ cond t (line_of true y ∷ lines_from ended [] more) (lines_from ended (y ++ b ∷ []) more)) [
      | true ↦ ap (λ z. z ∷ lines_from ended [] more) l
      | false ↦ later
    ]

pub lines_from-same : (ended : Bool) (kept bytes more : List ℕ) → IsSameLine kept bytes
    → lines_from ended kept more ≡ lines_from ended bytes more
lines_from-same ended kept bytes more (inl e) = ap (λ (l : List ℕ). lines_from ended l more) e
lines_from-same ended kept bytes more (inr l) = lines_from-long ended kept bytes more l.0 l.1

-- before the end of the input what stands after the last LF is no line
pub last_line-none : (held : List ℕ) → last_line false held ≡ []
last_line-none [] = refl
last_line-none (b ∷ held) = refl

-- at the end it is one
pub last_line-one : (held : List ℕ) → 0 < length held → last_line true held ≡ line_of false held ∷ []
last_line-one [] h = absurd (omega arith)
last_line-one (b ∷ held) h = refl

-- bytes begin a line
pub lines_from-some : (held bytes : List ℕ) → 0 < length held + length bytes → 0 < length (lines_from true held bytes)
lines_from-some [] [] h = absurd (omega arith)
lines_from-some (b ∷ held) [] h = omega arith
lines_from-some held (b ∷ bytes) h =
    let later = lines_from-some (held ++ b ∷ []) bytes (omega (arith, length-append held (b ∷ []))) in
    elim (eqb b 10) as (λ t. 0 < length (cond t (line_of true held ∷ lines_from true [] bytes) (lines_from true (held ++ b ∷ []) bytes))) [
      | true ↦ omega arith
      | false ↦ later
    ]

-- the bytes before the first LF hold none
no_lf-before : (bytes : List ℕ) (k : ℕ) → ((j : ℕ) → j < k → eqb (get_or bytes j 0) 10 ≡ true → ⊥) → has_no_lf (take k bytes) ≡ true
no_lf-before [] zero h = refl
no_lf-before [] (suc k) h = refl
no_lf-before (b ∷ bs) zero h = refl
no_lf-before (b ∷ bs) (suc k) h =
    let later : has_no_lf (take k bs) ≡ true = no_lf-before bs k (λ j lt e. h (suc j) (omega arith) e) in
    elim (eqb b 10) as (λ t. (t ≡ true → ⊥) → (not t && has_no_lf (take k bs)) ≡ true) [
      | true ↦ λ no. absurd (no refl)
      | false ↦ λ no. later
    ] (h 0 (omega arith))

pub no_lf-all : (bytes : List ℕ) → ((j : ℕ) → j < length bytes → eqb (get_or bytes j 0) 10 ≡ true → ⊥) → has_no_lf bytes ≡ true
no_lf-all [] h = refl
no_lf-all (b ∷ bs) h =
    let later : has_no_lf bs ≡ true = no_lf-all bs (λ j lt e. h (suc j) (omega arith) e) in
    elim (eqb b 10) as (λ t. (t ≡ true → ⊥) → (not t && has_no_lf bs) ≡ true) [
      | true ↦ λ no. absurd (no refl)
      | false ↦ λ no. later
    ] (h 0 (omega arith))

split_at : (bytes : List ℕ) (k : ℕ) → k < length bytes → eqb (get_or bytes k 0) 10 ≡ true → bytes ≡ take k bytes ++ 10 ∷ drop (k + 1) bytes
split_at bytes k h e = sym (take-append-drop k bytes)
    ∙ ap (λ (l : List ℕ). take k bytes ++ l) (drop_more bytes k 0 h)
    ∙ ap (λ (b : ℕ). take k bytes ++ b ∷ drop (k + 1) bytes) (eqb-true (get_or bytes k 0) 10 e)

-- where the first LF was found
pub lf_at : (bytes : List ℕ) (count : ℕ) → count < length bytes → eqb (get_or bytes count 0) 10 ≡ true
    → ((j : ℕ) → j < count → eqb (get_or bytes j 0) 10 ≡ true → ⊥) → HasLfAt bytes count
lf_at bytes count high here before = record {
  within = high;
  parts = split_at bytes count high here;
  first = no_lf-before bytes count before;
}

-- two parts of a buffer, one behind the other
range_both : (buffer : List ℕ) (a b c : ℕ) → a ≤ b → b ≤ c
    → slice_range buffer a b ++ slice_range buffer b c ≡ slice_range buffer a c
range_both buffer a b c low high =
    let j : ℕ = b - a in
    let k : ℕ = c - b in
    let mid : a + j ≡ b = omega arith in
    let all : j + k ≡ c - a = omega arith in
    ap (λ (n : ℕ). take j (drop a buffer) ++ take k (drop n buffer)) (sym mid)
    ∙ ap (λ (l : List ℕ). take j (drop a buffer) ++ take k l) (sym (drop-drop j a buffer))
    ∙ sym (take-add j k (drop a buffer))
    ∙ ap (λ (n : ℕ). take n (drop a buffer)) all

range_none : (buffer : List ℕ) (a : ℕ) → slice_range buffer a a ≡ []
range_none buffer a =
    let none : a - a ≡ 0 = omega arith in
    ap (λ (n : ℕ). take n (drop a buffer)) none

-- A buffer, where the next line has begun and what is ahead; the buffer as it was looked at.
module _ (buffer looked_at : List ℕ) (begun from to : ℕ) (low : begun ≤ from) (high : from ≤ to) (same : looked_at ≡ buffer) where
  abbrev here : Came
  here = record { begun = slice_range buffer begun from; ahead = slice_range buffer from to }

  ahead_same : slice_range looked_at from to ≡ slice_range buffer from to
  ahead_same = ap (λ (l : List ℕ). slice_range l from to) same

  -- no line is whole
  pub finds_none : (line : List ℕ) → has_no_lf (slice_range looked_at from to) ≡ true
      → Finds here false (record { line = line; came = record { begun = slice_range buffer begun to; ahead = slice_range buffer to to } })
  finds_none line free = (
    range_none buffer to,
    λ ended more.
        lines_from-part ended here.begun here.ahead more (subst (λ (l : List ℕ). has_no_lf l ≡ true) ahead_same free)
        ∙ ap (λ (l : List ℕ). lines_from ended l more) (range_both buffer begun from to low high)
        ∙ ap (λ (l : List ℕ). lines_from ended (slice_range buffer begun to) (l ++ more)) (sym (range_none buffer to)),
  )

  module _ (count : ℕ) (lf : HasLfAt (slice_range looked_at from to) count) where
    lf_here : HasLfAt here.ahead count
    lf_here = subst (λ (l : List ℕ). HasLfAt l count) ahead_same lf

    within : count + 1 ≤ to - from
    within = omega (arith, lf_here.within, length-take (to - from) (drop from buffer))

    -- what stands before the LF, and what follows it
    front : slice_range buffer from (from + count) ≡ take count here.ahead
    front =
        let all : from + count - from ≡ count = omega arith in
        ap (λ (n : ℕ). take n (drop from buffer)) all ∙ sym (take-take count (to - from) (drop from buffer) (omega (arith, within)))

    rest : slice_range buffer (from + count + 1) to ≡ drop (count + 1) here.ahead
    rest =
        let at : from + count + 1 ≡ from + (count + 1) = omega arith in
        let j : ℕ = to - (from + (count + 1)) in
        let all : (count + 1) + j ≡ to - from = omega (arith, within) in
        ap (λ (n : ℕ). slice_range buffer n to) at
        ∙ ap (λ (l : List ℕ). take j l) (sym (drop-drop (count + 1) from buffer))
        ∙ sym (drop-take (count + 1) j (drop from buffer))
        ∙ ap (λ (n : ℕ). drop (count + 1) (take n (drop from buffer))) all

    line : slice_range buffer begun (from + count) ≡ here.begun ++ take count here.ahead
    line = sym (range_both buffer begun from (from + count) low (omega arith))
        ∙ ap (λ (l : List ℕ). here.begun ++ l) front

    -- the line is whole
    abbrev found : Reading
    found = record {
      line = slice_range buffer begun (from + count);
      came = record { begun = slice_range buffer (from + count + 1) (from + count + 1); ahead = slice_range buffer (from + count + 1) to };
    }

    pub finds_line : Finds here true found
    finds_line = (
      range_none buffer (from + count + 1),
      λ ended more.
          let part : List ℕ = take count here.ahead in
          let later : List ℕ = drop (count + 1) here.ahead in
          ap (λ (l : List ℕ). lines_from ended here.begun (l ++ more)) lf_here.parts
          ∙ ap (λ (l : List ℕ). lines_from ended here.begun l) (append_assoc part (10 ∷ later) more)
          ∙ lines_from-lf ended here.begun part (later ++ more) lf_here.first
          ∙ ap (λ (l : List ℕ). line_of true l ∷ lines_from ended [] (later ++ more)) (sym line)
          ∙ ap (λ (l : List ℕ). line_of true found.line ∷ lines_from ended l (later ++ more)) (sym (range_none buffer (from + count + 1)))
          ∙ ap (λ (l : List ℕ). line_of true found.line ∷ lines_from ended found.came.begun (l ++ more)) (sym rest),
    )

-- the front of a buffer is the same, and so are its parts
pub range_front : (old new : List ℕ) (from front : ℕ) → from ≤ front → take front new ≡ take front old
    → slice_range new from front ≡ slice_range old from front
range_front old new from front low e =
    let part : (l : List ℕ) → slice_range l from front ≡ drop from (take front l) = λ l.
    let all : from + (front - from) ≡ front = omega arith in
    sym (drop-take from (front - from) l) ∙ ap (λ (n : ℕ). drop from (take n l)) all in
    part new ∙ ap (λ (l : List ℕ). drop from l) e ∙ sym (part old)

-- a buffer whose bytes were lent and came back
pub lent_back : (len : ℕ) (now old : List ℕ) → length now ≡ len → take len (now ++ drop (length now) old) ≡ now
lent_back len now old e = ap (λ (n : ℕ). take n (now ++ drop (length now) old)) (sym e) ∙ take-append_seam now (drop (length now) old)

-- a read that moved so many bytes
pub moved_within : (r r' : Option (List ℕ)) (moved : Moved) (bytes : List ℕ) → ReadMoved r r' moved bytes → bytes_moved moved ≤ length bytes
moved_within r r' (Bytes n) bytes m = m.0
moved_within r r' Again bytes m = omega arith
moved_within r r' Failed bytes m = omega arith

-- a buffer was filled behind byte 4,097
pub fills : (r r' : Option (List ℕ)) (moved : Moved) (buffer : List ℕ) (begun : ℕ) (old : Came) → 4097 < length buffer
    → ReadMoved r r' moved (drop 4097 buffer) → IsSameLine (slice_range buffer begun 4097) old.begun
    → Fills r r' moved old
    (record { begun = slice_range buffer begun 4097; ahead = slice_range buffer 4097 (4097 + bytes_moved moved) })
fills r r' (Bytes n) buffer begun old room m same =
    let all : (4097 + n) - 4097 ≡ n = omega arith in
    let part : slice_range buffer 4097 (4097 + n) ≡ take n (drop 4097 buffer) = ap (λ (k : ℕ). take k (drop 4097 buffer)) all in (
      same,
      ap length part ∙ omega (arith, m.0, length-take n (drop 4097 buffer)),
      subst (λ (l : List ℕ). Consumes r r' l) (sym part) m.1,
      λ none. m.2 none (omega (arith, length-drop 4097 buffer)),
    )
fills r r' Again buffer begun old room m same = (same, range_none buffer 4097, m)
fills r r' Failed buffer begun old room m same = (same, range_none buffer 4097, m)

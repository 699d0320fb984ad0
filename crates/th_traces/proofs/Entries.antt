-- What tables of words find, and that they find it again in its spelling.
use Rattle.std.proofs.Common.{◌≡◌, ℕ, Bool, true, false, List, [], ◌∷◌, ◌++◌, refl, sym, ap, ◌∙◌, Option, Some, None, subst, option_map, cond}
use Rattle.std.specs.Fmt.{decimal}
use Rattle.std.specs.Str.{bytes_eq}
use Rattle.std.proofs.lemmas.Option.{none-some, same_Some}
use Rattle.th_lines.specs.Commands.{IsValue}
use Rattle.th_lines.specs.Fields.{Rest, cut, field_then, last, number_last, number_of, value_last, by_word}
use Rattle.th_lines.proofs.Grammar.{joined, Finds, table-finds, field-found, last-found, number_then-found, number_then-again, value_last-found, value-again, cut-joins}
use Rattle.th_lines.proofs.Tables.{◌&◌}
use Rattle.th_traces.specs.Spelled.{Bytes}
use Rattle.th_traces.specs.Tables.{IsNumber, Table, behind, by_table, handing, number_value_last, numbered}

module _ {A : Type 0} where
  -- an entry of a number and a value
  pub number_value-finds : (P : List ℕ → A → Type 0) (word : Bytes) (read : ℕ → Bytes → A)
      → ((n : ℕ) (v : Bytes) → IsNumber n → IsValue v → P (word ++ 32 ∷ (decimal n ++ 32 ∷ v)) (read n v))
      → Finds P (word, number_value_last read)
  number_value-finds P word read ok rest a h =
      let n = number_then-found (λ (n : ℕ). value_last (read n)) rest a h in
      let v = value_last-found (read n.0) n.1 a n.4 in
      let at : rest ≡ Some (decimal n.0 ++ 32 ∷ v.0) = n.2 ∙ ap (λ (r : Rest). Some (joined (decimal n.0) r)) v.1 in
      subst (λ (r : Rest). P (joined word r) a) (sym at)
      (subst (λ (b : A). P (word ++ 32 ∷ (decimal n.0 ++ 32 ∷ v.0)) b) v.3 (ok n.0 v.0 n.3 v.2))

  pub number_value-again : (read : ℕ → Bytes → A) (n : ℕ) (v : Bytes) → IsNumber n → IsValue v
      → number_value_last read (Some (decimal n ++ 32 ∷ v)) ≡ Some (read n v)
  number_value-again read n v h k = number_then-again (λ (n : ℕ). value_last (read n)) n (Some v) h ∙ value-again (read n) v k

  -- no entry of a number finds anything where there is none
  no_number : (read : ℕ → A) (rest : Rest) → number_last (λ n. n) rest ≡ None → number_last read rest ≡ None
  no_number read None h = refl
  no_number read (Some digits) h = at (number_of digits) h
    where
      at : (found : Option ℕ) → option_map (λ n. n) found ≡ None → option_map read found ≡ None
      at None e = refl
      at (Some n) e = absurd (none-some n (sym e))

  neither : (b : Bool) (one other : Option A) → one ≡ None → other ≡ None → cond b one other ≡ None
  neither true one other h k = h
  neither false one other h k = k

  pub numberless : (entries : List (Bytes × (ℕ → A))) (word : Bytes) (rest : Rest) → number_last (λ n. n) rest ≡ None
      → by_word (numbered entries) word rest ≡ None
  numberless [] word rest h = refl
  numberless (entry ∷ entries) word rest h = neither (bytes_eq word entry.0) _ _ (no_number entry.1 rest h) (numberless entries word rest h)

  -- an entry that hands a value back
  pub handing-finds : (P : List ℕ → A → Type 0) (word : Bytes) (back : Option Bytes) (read : Bytes → A)
      → ((v : Bytes) → back ≡ Some v → P word (read v)) → Finds P (word, handing back read)
  handing-finds P word None read ok rest a h = absurd (none-some a h)
  handing-finds P word (Some v) read ok None a h = subst (P word) (same_Some _ _ h) (ok v refl)
  handing-finds P word (Some v) read ok (Some bytes) a h = absurd (none-some a h)

  pub handing-again : (back : Option Bytes) (read : Bytes → A) (v : Bytes) → back ≡ Some v → handing back read None ≡ Some (read v)
  handing-again back read v h = ap (λ (o : Option Bytes). handing o read None) h

  -- an entry whose further words are in a table
  pub table-entry : (P : List ℕ → A → Type 0) (word : Bytes) (table : Table A)
      → ((field : List ℕ) (rest : Rest) (a : A) → by_word table field rest ≡ Some a → P (word ++ 32 ∷ joined field rest) a)
      → Finds P (word, field_then (by_word table))
  table-entry P word table ok rest a h =
      let f = field-found (by_word table) rest a h in
      subst (λ (r : Rest). P (joined word r) a) (sym f.2) (ok f.0 f.1 a f.3)

  -- what a table finds in some bytes
  pub by_table-found : (P : List ℕ → A → Type 0) (table : Table A)
      → ((word : List ℕ) (rest : Rest) (a : A) → by_word table word rest ≡ Some a → P (joined word rest) a) → (bytes : List ℕ) (a : A)
      → by_table table bytes ≡ Some a → P bytes a
  by_table-found P table finds bytes a h = subst (λ (b : List ℕ). P b a) (sym (cut-joins bytes)) (finds (cut bytes).0 (cut bytes).1 a h)

  -- what is found behind a word
  abbrev IsBehind : Bytes → (List ℕ → Option A) → List ℕ → A → Type 0
  IsBehind word read line a = (bytes : List ℕ) × (line ≡ word ++ 32 ∷ bytes) × (read bytes ≡ Some a)

  pub behind-found : (word : Bytes) (read : List ℕ → Option A) (line : List ℕ) (a : A) → behind word read line ≡ Some a
      → IsBehind word read line a
  behind-found word read line a h =
      by_table-found (IsBehind word read) ((word, last read) ∷ []) (table-finds (IsBehind word read) ((word, last read) ∷ []) (finds & tt))
      line a h
    where
      finds : Finds (IsBehind word read) (word, last read)
      finds rest a h =
          let l = last-found read rest a h in
          subst (λ (r : Rest). IsBehind word read (joined word r) a) (sym l.1) (l.0, refl, l.2)

  -- what is found behind a letter is so, and the line its spelling
  pub spelled-found : (letter : Bytes) (IsSo : A → Type 0) (spell : A → Bytes) (table : Table A)
      → ((word : List ℕ) (rest : Rest) (a : A) → by_word table word rest ≡ Some a → IsSo a × (joined word rest ≡ spell a))
      → (text : List ℕ) (a : A) → behind letter (by_table table) text ≡ Some a → IsSo a × (text ≡ letter ++ 32 ∷ spell a)
  spelled-found letter IsSo spell table finds text a h =
      let b = behind-found letter (by_table table) text a h in
      let s = by_table-found (λ bytes a. IsSo a × (bytes ≡ spell a)) table finds b.0 a b.2 in
      (s.0, b.1 ∙ ap (λ (bytes : List ℕ). letter ++ 32 ∷ bytes) s.1)

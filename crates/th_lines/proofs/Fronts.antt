-- A line's front of name's bytes, and what stands behind it.
use Rattle.std.proofs.Common.{◌≡◌, ℕ, zero, suc, ◌+◌, ◌-◌, ◌<◌, Bool, true, false, List, [], ◌∷◌, ◌++◌, length, get_or, take, drop, refl, sym, ap, ◌∙◌, arith, Option, Some, None, cond, eqb, subst}
use Rattle.std.specs.Prelude.{◌&&◌}
use Rattle.std.specs.List.{list_all, prefix_len}
use Rattle.std.proofs.lemmas.Bool.{ne_eqb, false≢true}
use Rattle.std.proofs.lemmas.List.{append-nil, get_or-drop, length-drop, take-append-drop}
use Rattle.std.proofs.lemmas.List.Sums.{prefix_len_stops}
use Rattle.std.proofs.lemmas.Option.{cond_some, none-some}
use Rattle.th_model.specs.Names.{front_name, is_name, is_name_byte}
use Rattle.th_lines.specs.Fields.{Rest, cut, name_then}
use Rattle.th_lines.proofs.Grammar.{joined, name_bytes, name-again, no_space}
use Rattle.th_lines.proofs.Numbers.{and_both, and_parts}

-- the bytes in front are a name's
front-step : (b : ℕ) (bs : List ℕ) (t : Bool) → is_name_byte b ≡ t
    → list_all is_name_byte (take (prefix_len is_name_byte bs) bs) ≡ true
    → list_all is_name_byte (take (cond t (1 + prefix_len is_name_byte bs) 0) (b ∷ bs)) ≡ true
front-step b bs false h rest = refl
front-step b bs true h rest =
    let one : 1 + prefix_len is_name_byte bs ≡ suc (prefix_len is_name_byte bs) = omega arith in
    rw one (and_both _ _ h rest)

front-all : (bs : List ℕ) → list_all is_name_byte (take (prefix_len is_name_byte bs) bs) ≡ true
front-all [] = refl
front-all (b ∷ bs) = front-step b bs (is_name_byte b) refl (front-all bs)

-- a byte that no name has begins a field only where the field is empty
cut-begins : (b : ℕ) (bs : List ℕ) (t : Bool) → is_name_byte b ≡ false
    → list_all is_name_byte (cond {A = List ℕ × Rest} t ([], Some bs) (b ∷ (cut bs).0, (cut bs).1)).0 ≡ true
    → (cond {A = List ℕ × Rest} t ([], Some bs) (b ∷ (cut bs).0, (cut bs).1)).0 ≡ []
cut-begins b bs true bad h = refl
cut-begins b bs false bad h = absurd (false≢true (sym bad ∙ (and_parts _ _ h).0))

-- the first field is this front, or has another byte than a name's
cut-seam : (bs : List ℕ) (k : ℕ) → list_all is_name_byte (take k bs) ≡ true
    → (k < length bs → is_name_byte (get_or bs k 0) ≡ false) → list_all is_name_byte (cut bs).0 ≡ true → (cut bs).0 ≡ take k bs
cut-seam [] zero all next is = refl
cut-seam [] (suc k) all next is = refl
cut-seam (b ∷ bs) zero all next is =
    let bad : is_name_byte b ≡ false = next (omega arith) in
    cut-begins b bs (eqb b 32) bad is
cut-seam (b ∷ bs) (suc k) all next is =
    let parts = and_parts _ _ all in
    let here = no_space b parts.0 in
    let both : (is_name_byte b && list_all is_name_byte (cut bs).0) ≡ true = rw here at is in
    let rest = cut-seam bs k parts.1 (λ lt. next (omega arith)) (and_parts _ _ both).1 in
    rw here (ap (λ (l : List ℕ). b ∷ l) rest)

-- a field goes on where another byte than a space follows
cut-on : (name : List ℕ) (b : ℕ) (bs : List ℕ) → list_all is_name_byte name ≡ true → is_name_byte b ≡ false → ((b ≡ 32) → ⊥)
    → list_all is_name_byte (cut (name ++ (b ∷ bs))).0 ≡ false
cut-on [] b bs all bad other = rw (ne_eqb b 32 other, bad) refl
cut-on (c ∷ name) b bs all bad other =
    let parts = and_parts _ _ all in
    let here = no_space c parts.0 in
    let rest = cut-on name b bs parts.1 bad other in
    rw (here, parts.0, rest) refl

and-false : (x y : Bool) → (x && (y && false)) ≡ false
and-false true true = refl
and-false true false = refl
and-false false y = refl

bad-name : (field : List ℕ) → list_all is_name_byte field ≡ false → is_name field ≡ false
bad-name field h = rw h (and-false _ _)

not-true : (b : Bool) → ((b ≡ true) → ⊥) → b ≡ false
not-true true h = absurd (h refl)
not-true false h = refl

-- what stands in front is a name, and the next byte is none of a name's
module _ (bs name behind : List ℕ) (h : front_name bs ≡ Some (name, behind)) where
  at : (is_name (take (prefix_len is_name_byte bs) bs) ≡ true)
      × (◌≡◌ {A = List ℕ × List ℕ} (take (prefix_len is_name_byte bs) bs, drop (prefix_len is_name_byte bs) bs) (name, behind))
  at = cond_some _ _ _ h

  named : is_name name ≡ true
  named = subst (λ (l : List ℕ). is_name l ≡ true) (ap (λ (f : List ℕ × List ℕ). f.0) at.1) at.0

  parts : bs ≡ name ++ behind
  parts = sym (take-append-drop (prefix_len is_name_byte bs) bs) ∙ ap (λ (f : List ℕ × List ℕ). f.0 ++ f.1) at.1

  stops : (b : ℕ) (rest : List ℕ) → behind ≡ b ∷ rest → is_name_byte b ≡ false
  stops b rest e =
      let k : ℕ = prefix_len is_name_byte bs in
      let dropped : drop k bs ≡ b ∷ rest = ap (λ (f : List ℕ × List ℕ). f.1) at.1 ∙ e in
      let long : length (drop k bs) ≡ length bs - k = length-drop k bs in
      let some : length (drop k bs) ≡ suc (length rest) = ap (λ (l : List ℕ). length l) dropped in
      let here : get_or bs k 0 ≡ b = sym (get_or-drop k bs 0 0 ∙ ap (λ (n : ℕ). get_or bs n 0) (omega arith))
      ∙ ap (λ (l : List ℕ). get_or l 0 0) dropped in
      subst (λ (n : ℕ). is_name_byte n ≡ false) here (prefix_len_stops is_name_byte bs 0 (omega (arith, long, some)))

module _ {A : Type 0} (next : List ℕ → Rest → Option A) (bs : List ℕ) where
  -- a name alone
  pub front-alone : (name behind : List ℕ) → front_name bs ≡ Some (name, behind) → behind ≡ [] → name_then next (Some bs) ≡ next name None
  front-alone name behind h e =
      let whole : bs ≡ joined name None = parts bs name behind h ∙ ap (λ (l : List ℕ). name ++ l) e ∙ append-nil name in
      rw whole (name-again next name None (named bs name behind h))

  -- a name up to the first space
  pub front-more : (name behind rest : List ℕ) → front_name bs ≡ Some (name, behind) → behind ≡ 32 ∷ rest
      → name_then next (Some bs) ≡ next name (Some rest)
  front-more name behind rest h e =
      let whole : bs ≡ joined name (Some rest) = parts bs name behind h ∙ ap (λ (l : List ℕ). name ++ l) e in
      rw whole (name-again next name (Some rest) (named bs name behind h))

  -- none, as another byte ends it
  pub front-other : (name behind : List ℕ) (b : ℕ) (rest : List ℕ) → front_name bs ≡ Some (name, behind) → behind ≡ b ∷ rest
      → ((b ≡ 32) → ⊥) → name_then next (Some bs) ≡ None
  front-other name behind b rest h e other =
      let whole : bs ≡ name ++ (b ∷ rest) = parts bs name behind h ∙ ap (λ (l : List ℕ). name ++ l) e in
      let on = cut-on name b rest (name_bytes name (named bs name behind h)) (stops bs name behind h b rest e) other in
      rw (whole, bad-name _ on) refl

  -- none, as it is too short or too long
  pub front-none : front_name bs ≡ None → name_then next (Some bs) ≡ None
  front-none h =
      let k : ℕ = prefix_len is_name_byte bs in
      let found : is_name (take k bs) ≡ true → front_name bs ≡ Some (take k bs, drop k bs) = λ front. rw front refl in
      let seam = cut-seam bs k (front-all bs) (λ lt. prefix_len_stops is_name_byte bs 0 lt) in
      let none : (is_name (cut bs).0 ≡ true) → ⊥ = λ name.
      let front : is_name (take k bs) ≡ true = subst (λ (l : List ℕ). is_name l ≡ true) (seam (name_bytes (cut bs).0 name)) name in
      none-some _ (sym h ∙ found front) in
      rw (not-true _ none) refl

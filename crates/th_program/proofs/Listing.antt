-- Names that are read from a list.
use Rattle.std.proofs.Common.{◌≡◌, ◌≢◌, ◌∙◌, ℕ, ◌+◌, ◌-◌, ◌<◌, ◌≤◌, Bool, List, [], ◌∷◌, ◌++◌, length, take, drop, get_or, refl, sym, ap, arith, append-nil, append_assoc, length-drop}
use Rattle.std.specs.Prelude.{if◌then◌else◌}
use Rattle.std.proofs.lemmas.Bool.{eq-eqb, ne_eqb}
use Rattle.std.proofs.lemmas.List.{drop_all, drop_more, get_or-drop, length-take-le, take_more}
use Rattle.th_program.specs.Listed.{names_in, with_byte}

-- bytes in front of the first name
abbrev pub glued : List ℕ → List (List ℕ) → List (List ℕ)
glued [] names = names
glued (b ∷ bs) names = with_byte b (glued bs names)

glued_more : (bs : List ℕ) (b : ℕ) (names : List (List ℕ)) → glued (bs ++ b ∷ []) names ≡ glued bs (with_byte b names)
glued_more [] b names = refl
glued_more (c ∷ bs) b names = ap (with_byte c) (glued_more bs b names)

glued_whole : (bs : List ℕ) (names : List (List ℕ)) → glued bs ([] ∷ names) ≡ bs ∷ names
glued_whole [] names = refl
glued_whole (b ∷ bs) names = ap (with_byte b) (glued_whole bs names)

glued_last : (bs : List ℕ) → 0 < length bs → glued bs [] ≡ bs ∷ []
glued_last [] some = absurd (omega (arith, some))
glued_last (b ∷ []) some = refl
glued_last (b ∷ c ∷ bs) some = ap (with_byte b) (glued_last (c ∷ bs) (omega arith))

names_byte : (mark b : ℕ) (later : List ℕ) → b ≢ mark → names_in mark (b ∷ later) ≡ with_byte b (names_in mark later)
unfolding names_in
names_byte mark b later other =
    ap (λ (t : Bool). if t then [] ∷ names_in mark later else with_byte b (names_in mark later)) (ne_eqb b mark other)

names_mark : (mark b : ℕ) (later : List ℕ) → b ≡ mark → names_in mark (b ∷ later) ≡ [] ∷ names_in mark later
unfolding names_in
names_mark mark b later is =
    ap (λ (t : Bool). if t then [] ∷ names_in mark later else with_byte b (names_in mark later)) (eq-eqb b mark is)

pub names_none : (mark : ℕ) → names_in mark [] ≡ []
unfolding names_in
names_none mark = refl

module _ (mark : ℕ) (text : List ℕ) (from : ℕ) where
  -- the bytes of a name up to some place
  pub record IsInName (at : ℕ) : Type 0 where
    pub up : from ≤ at
    pub within : at ≤ length text
    pub is : names_in mark (drop from text) ≡ glued (take (at - from) (drop from text)) (names_in mark (drop at text))

  pub name_begins : from < length text → IsInName from
  name_begins low = record {
    up = omega arith;
    within = omega (arith, low);
    is =
        let none : from - from ≡ 0 = omega arith in
        sym (ap (λ (k : ℕ). glued (take k (drop from text)) (names_in mark (drop from text))) none);
  }

  pub name_more : (at : ℕ) → at < length text → get_or text at 0 ≢ mark → IsInName at → IsInName (at + 1)
  name_more at low other so_far =
      let b = get_or text at 0 in
      let k = at - from in
      let xs = drop from text in
      let later = names_in mark (drop (at + 1) text) in
      let up = so_far.up in
      let here : names_in mark (drop at text) ≡ with_byte b later =
      ap (names_in mark) (drop_more text at 0 low) ∙ names_byte mark b (drop (at + 1) text) other in
      let place : from + k ≡ at = omega (arith, up) in
      let count : k + 1 ≡ at + 1 - from = omega (arith, up) in
      let read : get_or xs k 0 ≡ b = get_or-drop from text k 0 ∙ ap (λ (j : ℕ). get_or text j 0) place in
      let front : take (at + 1 - from) xs ≡ take k xs ++ b ∷ [] =
      ap (λ (j : ℕ). take j xs) (sym count) ∙ take_more xs k 0 (omega (arith, low, up, length-drop from text))
      ∙ ap (λ (x : ℕ). take k xs ++ x ∷ []) read in
      record {
        up = omega (arith, up);
        within = omega (arith, low);
        is = so_far.is ∙ ap (glued (take k xs)) here ∙ sym (glued_more (take k xs) b later)
            ∙ ap (λ (l : List ℕ). glued l later) (sym front);
      }

  abbrev pub IsNameTo : ℕ → Type 0
  IsNameTo at = names_in mark (drop from text) ≡ take (at - from) (drop from text) ∷ names_in mark (drop (at + 1) text)

  pub name_ends : (at : ℕ) → at < length text → get_or text at 0 ≡ mark → IsInName at → IsNameTo at
  name_ends at low is so_far =
      so_far.is ∙ ap (glued (take (at - from) (drop from text)))
      (ap (names_in mark) (drop_more text at 0 low) ∙ names_mark mark (get_or text at 0) (drop (at + 1) text) is)
      ∙ glued_whole (take (at - from) (drop from text)) (names_in mark (drop (at + 1) text))

  pub list_ends : (at : ℕ) → from < length text → length text ≤ at → IsInName at → IsNameTo at
  list_ends at some past so_far =
      let bytes = take (at - from) (drop from text) in
      let none : names_in mark (drop at text) ≡ [] = ap (names_in mark) (drop_all at text past) ∙ names_none mark in
      let long : length bytes ≡ at - from =
      length-take-le (at - from) (drop from text) (omega (arith, length-drop from text, so_far.within)) in
      let later : names_in mark (drop (at + 1) text) ≡ [] =
      ap (names_in mark) (drop_all (at + 1) text (omega (arith, past))) ∙ names_none mark in
      so_far.is ∙ ap (glued bytes) none ∙ glued_last bytes (omega (arith, long, some, past, so_far.up))
      ∙ ap (λ (l : List (List ℕ)). bytes ∷ l) (sym later)

-- one name more
pub name_read : (mark : ℕ) (text : List ℕ) (at end : ℕ) (names : List (List ℕ)) → IsNameTo mark text at end
    → names ++ names_in mark (drop at text) ≡ names_in mark text
    → (names ++ take (end - at) (drop at text) ∷ []) ++ names_in mark (drop (end + 1) text) ≡ names_in mark text
name_read mark text at end names one so_far =
    append_assoc names (take (end - at) (drop at text) ∷ []) (names_in mark (drop (end + 1) text))
    ∙ ap (λ (l : List (List ℕ)). names ++ l) (sym one) ∙ so_far

-- and no more
pub list_read : (mark : ℕ) (text : List ℕ) (at : ℕ) (names : List (List ℕ)) → length text ≤ at
    → names ++ names_in mark (drop at text) ≡ names_in mark text → names ≡ names_in mark text
list_read mark text at names past so_far =
    sym (append-nil names)
    ∙ ap (λ (l : List (List ℕ)). names ++ l) (sym (ap (names_in mark) (drop_all at text past) ∙ names_none mark)) ∙ so_far

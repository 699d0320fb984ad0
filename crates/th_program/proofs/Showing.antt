-- A name that is printed in pieces.
use Rattle.std.proofs.Common.{◌≡◌, ◌∙◌, ℕ, zero, suc, ◌+◌, ◌-◌, ◌<◌, ◌≤◌, Bool, true, false, List, [], ◌∷◌, ◌++◌, length, take, drop, get_or, refl, sym, ap, subst, arith, append-nil, append_assoc, length-drop, Option, Some, None}
use Rattle.std.specs.Io.KnownBytes.{Appends}
use Rattle.std.proofs.KnownBytes.{Appends-trans}
use Rattle.std.specs.Prelude.{if◌then◌else◌}
use Rattle.std.proofs.lemmas.List.{drop-drop, drop_all, drop_more, get_or-drop, take_more}
use Rattle.th_program.specs.Shown.{are_control, control_at, is_control, mark, shown}

-- a byte that is none
abbrev alone : Bool → ℕ
alone t = if t then 1 else 0

abbrev paired : Bool → Bool → ℕ
paired t u = if t then 1 else if u then 2 else 0

plain_alone : (t : Bool) (b : ℕ) → alone t ≡ 0 → (if t then 63 else b) ≡ b
plain_alone true b e = absurd (omega (arith, e))
plain_alone false b e = refl

plain_first : (t u : Bool) (b : ℕ) (all later : List ℕ) → paired t u ≡ 0
    → (if t then 63 ∷ all else if u then 63 ∷ later else b ∷ all) ≡ b ∷ all
plain_first true u b all later e = absurd (omega (arith, e))
plain_first false true b all later e = absurd (omega (arith, e))
plain_first false false b all later e = refl

shown_plain : (b : ℕ) (later : List ℕ) → control_at (b ∷ later) ≡ 0 → shown (b ∷ later) ≡ b ∷ shown later
unfolding shown
shown_plain b [] e = ap (λ (x : ℕ). x ∷ []) (plain_alone (is_control b) b e)
shown_plain b (c ∷ later) e = plain_first (is_control b) (are_control b c) b (shown (c ∷ later)) (shown later) e

-- one that is
marked_alone : (t : Bool) (b : ℕ) → 0 < alone t → (if t then 63 else b) ∷ [] ≡ 63 ∷ drop (alone t) (b ∷ [])
marked_alone true b low = refl
marked_alone false b low = absurd (omega (arith, low))

marked_first : (t u : Bool) (b c : ℕ) (later : List ℕ) → 0 < paired t u
    → (if t then 63 ∷ shown (c ∷ later) else if u then 63 ∷ shown later else b ∷ shown (c ∷ later))
    ≡ 63 ∷ shown (drop (paired t u) (b ∷ c ∷ later))
marked_first true u b c later low = refl
marked_first false true b c later low = refl
marked_first false false b c later low = absurd (omega (arith, low))

nothing_shown : (n b : ℕ) → 0 < n → shown (drop n (b ∷ [])) ≡ drop n (b ∷ [])
unfolding shown
nothing_shown zero b low = absurd (omega (arith, low))
nothing_shown (suc zero) b low = refl
nothing_shown (suc (suc n)) b low = refl

shown_marked : (xs : List ℕ) → 0 < control_at xs → shown xs ≡ 63 ∷ shown (drop (control_at xs) xs)
unfolding shown
shown_marked [] low = absurd (omega (arith, low))
shown_marked (b ∷ []) low = marked_alone (is_control b) b low
    ∙ ap (λ (l : List ℕ). 63 ∷ l) (sym (nothing_shown (control_at (b ∷ [])) b low))
shown_marked (b ∷ c ∷ later) low = marked_first (is_control b) (are_control b c) b c later low

marked : (xs : List ℕ) → shown xs ≡ mark (control_at xs) ++ shown (drop (control_at xs) xs)
marked xs = by (control_at xs) refl
  where
    by : (n : ℕ) → control_at xs ≡ n → shown xs ≡ mark n ++ shown (drop n xs)
    by zero e = refl
    by (suc n) e = shown_marked xs (omega (arith, e)) ∙ ap (λ (k : ℕ). 63 ∷ shown (drop k xs)) e

pub marked_at : (name : List ℕ) (end n : ℕ) → n ≡ control_at (drop end name)
    → shown (drop end name) ≡ mark n ++ shown (drop (end + n) name)
marked_at name end n e = marked (drop end name)
    ∙ ap (λ (k : ℕ). mark k ++ shown (drop k (drop end name))) (sym e)
    ∙ ap (λ (l : List ℕ). mark n ++ shown l) (drop-drop n end name)

-- how many bytes a control character has that stands at some place
first_control : (b : ℕ) (later : List ℕ) → is_control b ≡ true → control_at (b ∷ later) ≡ 1
first_control b [] e = ap alone e
first_control b (c ∷ later) e = ap (λ (t : Bool). paired t (are_control b c)) e

last_plain : (b : ℕ) → is_control b ≡ false → control_at (b ∷ []) ≡ 0
last_plain b e = ap alone e

two_bytes : (b c : ℕ) (later : List ℕ) (u : Bool) → is_control b ≡ false → are_control b c ≡ u
    → control_at (b ∷ c ∷ later) ≡ paired false u
two_bytes b c later u e pair = ap (λ (t : Bool). paired t (are_control b c)) e
    ∙ ap (paired false) pair

module _ (name : List ℕ) (i : ℕ) where
  pub control_past : length name ≤ i → 0 ≡ control_at (drop i name)
  control_past past = sym (ap control_at (drop_all i name past))

  module _ (low : i < length name) where
    pub control_one : is_control (get_or name i 0) ≡ true → 1 ≡ control_at (drop i name)
    control_one e = sym (ap control_at (drop_more name i 0 low) ∙ first_control (get_or name i 0) (drop (i + 1) name) e)

    pub control_end : is_control (get_or name i 0) ≡ false → length name ≤ i + 1 → 0 ≡ control_at (drop i name)
    control_end e past = sym (ap control_at (drop_more name i 0 low)
        ∙ ap (λ (l : List ℕ). control_at (get_or name i 0 ∷ l)) (drop_all (i + 1) name past) ∙ last_plain (get_or name i 0) e)

    pub control_two : (u : Bool) → is_control (get_or name i 0) ≡ false → i + 1 < length name
        → are_control (get_or name i 0) (get_or name (i + 1) 0) ≡ u → paired false u ≡ control_at (drop i name)
    control_two u e more pair = sym (ap control_at (drop_more name i 0 low)
        ∙ ap (λ (l : List ℕ). control_at (get_or name i 0 ∷ l)) (drop_more name (i + 1) 0 more)
        ∙ two_bytes (get_or name i 0) (get_or name (i + 1) 0) (drop (i + 1 + 1) name) u e pair)

-- the plain bytes up to some place
pub plain_more : (name : List ℕ) (from at : ℕ) → from ≤ at → at < length name → control_at (drop at name) ≡ 0
    → shown (drop from name) ≡ take (at - from) (drop from name) ++ shown (drop at name)
    → shown (drop from name) ≡ take (at + 1 - from) (drop from name) ++ shown (drop (at + 1) name)
plain_more name from at up low none so_far =
    let b = get_or name at 0 in
    let k = at - from in
    let xs = drop from name in
    let later = shown (drop (at + 1) name) in
    let here : drop at name ≡ b ∷ drop (at + 1) name = drop_more name at 0 low in
    let one : shown (drop at name) ≡ b ∷ later =
    ap shown here ∙ shown_plain b (drop (at + 1) name) (sym (ap control_at here) ∙ none) in
    let place : from + k ≡ at = omega (arith, up) in
    let count : k + 1 ≡ at + 1 - from = omega (arith, up) in
    let read : get_or xs k 0 ≡ b = get_or-drop from name k 0 ∙ ap (λ (j : ℕ). get_or name j 0) place in
    let front : take (at + 1 - from) xs ≡ take k xs ++ b ∷ [] =
    ap (λ (j : ℕ). take j xs) (sym count) ∙ take_more xs k 0 (omega (arith, low, up, length-drop from name))
    ∙ ap (λ (x : ℕ). take k xs ++ x ∷ []) read in
    so_far ∙ ap (λ (l : List ℕ). take k xs ++ l) one ∙ sym (append_assoc (take k xs) (b ∷ []) later)
    ∙ ap (λ (l : List ℕ). l ++ later) (sym front)

-- a name is written up to some place
pub record IsShownTo (name : List ℕ) (old now : Option (List ℕ)) (at : ℕ) : Type 0 where
  pub done : List ℕ
  pub wrote : Appends old now done
  pub rest : done ++ shown (drop at name) ≡ shown name

nothing : (o : Option (List ℕ)) → Appends o o []
nothing None = tt
nothing (Some l) = sym (append-nil l)

pub shown_begins : (name : List ℕ) (old : Option (List ℕ)) → IsShownTo name old old 0
shown_begins name old = record { done = []; wrote = nothing old; rest = refl }

pub shown_next : (name : List ℕ) (old now mid new : Option (List ℕ)) (at end n : ℕ) → IsShownTo name old now at
    → shown (drop at name) ≡ take (end - at) (drop at name) ++ shown (drop end name)
    → Appends now mid (take (end - at) (drop at name)) → n ≡ control_at (drop end name) → Appends mid new (mark n)
    → IsShownTo name old new (end + n)
shown_next name old now mid new at end n to plain wrote control marks =
    let piece = take (end - at) (drop at name) in
    let later = shown (drop (end + n) name) in
    record {
      done = to.done ++ (piece ++ mark n);
      wrote = Appends-trans old now new to.done (piece ++ mark n) to.wrote (Appends-trans now mid new piece (mark n) wrote marks);
      rest = append_assoc to.done (piece ++ mark n) later
          ∙ ap (λ (l : List ℕ). to.done ++ l) (append_assoc piece (mark n) later
          ∙ ap (λ (l : List ℕ). piece ++ l) (sym (marked_at name end n control)) ∙ sym plain)
          ∙ to.rest;
    }

none_shown : shown [] ≡ []
unfolding shown
none_shown = refl

pub shown_ends : (name : List ℕ) (old new : Option (List ℕ)) (at : ℕ) → length name ≤ at → IsShownTo name old new at
    → Appends old new (shown name)
shown_ends name old new at past to =
    let whole : to.done ≡ shown name =
    sym (append-nil to.done) ∙ ap (λ (l : List ℕ). to.done ++ l) (sym (ap shown (drop_all at name past) ∙ none_shown)) ∙ to.rest in
    subst (λ (l : List ℕ). Appends old new l) whole to.wrote

-- Topics that are looked through, and those that come behind them.
use Rattle.std.proofs.Common.{◌≡◌, ◌∙◌, inl, inr, ◌⊎◌, ℕ, ◌+◌, ◌<◌, ◌≤◌, Bool, true, false, cond, subst, List, [], ◌∷◌, ◌++◌, Option, Some, None, refl, ap, sym, take, drop, length, get_or}
use Rattle.std.specs.Prelude.{nat_eq, if◌then◌else◌}
use Rattle.std.specs.Cmp.Lexicographic.{pointwise}
use Rattle.std.specs.Option.{option_or}
use Rattle.std.proofs.lemmas.List.{take_all, drop_more}
use Rattle.std.proofs.lemmas.Slice.Eq.{bytes_eq-Decides}
use Rattle.th_registry.specs.declared.opening.Found.{Found}
use Rattle.th_shared.specs.Cache.{Learns, named}

-- lists with the same front are the same where it is all of both
pub same_front : (n : ℕ) (one other : List ℕ) → take n one ≡ take n other → length one ≤ n → length other ≤ n → one ≡ other
same_front n one other same here there = sym (take_all n one here) ∙ same ∙ take_all n other there

module _ (q : List ℕ) (topics : List (List ℕ × Found)) (i : ℕ) (d : List ℕ × Found) (within : i < length topics) where
  at_front : named q (drop i topics)
      ≡ cond (pointwise nat_eq q (get_or topics i d).0) (Some (get_or topics i d).1) (named q (drop (i + 1) topics))
  at_front = ap (λ (l : List (List ℕ × Found)). named q l) (drop_more topics i d within)

  -- where a topic has another name, those behind it are looked through
  pub passed : pointwise nat_eq q (get_or topics i d).0 ≡ false → named q (drop i topics) ≡ named q (drop (i + 1) topics)
  passed other = at_front ∙ ap (λ (b : Bool). cond b (Some (get_or topics i d).1) (named q (drop (i + 1) topics))) other

-- one more topic behind the others is found where none of them has the name, and it has
abbrev IsBehind : (q name : List ℕ) → Found → List (List ℕ × Found) → Option Found → Type 0
IsBehind q name found topics other = (option_or (named q (topics ++ (name, found) ∷ [])) other ≡ option_or (named q topics) other)
    ⊎ ((q ≡ name) × (option_or (named q (topics ++ (name, found) ∷ [])) other ≡ Some found))

alone : (q name : List ℕ) (found : Found) (other : Option Found) (b : Bool) → (b ≡ true → q ≡ name) →
    (option_or (cond b (Some found) None) other ≡ other) ⊎ ((q ≡ name) × (option_or (cond b (Some found) None) other ≡ Some found))
alone q name found other true same = inr (same refl, refl)
alone q name found other false same = inl refl

on : (q name : List ℕ) (found : Found) (t : Found) (ts : List (List ℕ × Found)) (other : Option Found) (b : Bool) →
    IsBehind q name found ts other →
    (option_or (cond b (Some t) (named q (ts ++ (name, found) ∷ []))) other ≡ option_or (cond b (Some t) (named q ts)) other)
    ⊎ ((q ≡ name) × (option_or (cond b (Some t) (named q (ts ++ (name, found) ∷ []))) other ≡ Some found))
on q name found t ts other true more = inl refl
on q name found t ts other false more = more

pub behind : (q name : List ℕ) (found : Found) (topics : List (List ℕ × Found)) (other : Option Found) → IsBehind q name found topics other
behind q name found [] other = alone q name found other (pointwise nat_eq q name) (bytes_eq-Decides q name).0
behind q name found (t ∷ ts) other = on q name found t.1 ts other (pointwise nat_eq q t.0) (behind q name found ts other)

-- one more topic was put behind the few, where there was memory for it
pub pushed : (name : List ℕ) (found : Found) (few few' others : List (List ℕ × Found)) (b : Bool)
    → few' ≡ (if b then few ++ (name, found) ∷ [] else few)
    → Learns (record { few = few; others = others }) (record { few = few'; others = others }) name found
pushed name found few few' others true is q =
    subst (λ (l : List (List ℕ × Found)). (option_or (named q l) (named q others) ≡ option_or (named q few) (named q others))
    ⊎ ((q ≡ name) × (option_or (named q l) (named q others) ≡ Some found))) (sym is) (behind q name found few (named q others))
pushed name found few few' others false is q = inl (ap (λ (l : List (List ℕ × Found)). option_or (named q l) (named q others)) is)

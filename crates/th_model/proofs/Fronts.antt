-- The name at the front of bytes.
use Rattle.std.proofs.Common.{◌≡◌, ℕ, zero, suc, ◌+◌, ◌-◌, ◌<◌, ◌≤◌, Bool, true, false, List, [], ◌∷◌, ◌++◌, length, take, drop, get_or, replicate, Some, cond, eqb, refl, sym, ap, subst, ◌∙◌, arith, inl, inr}
use Rattle.std.specs.List.{list_all, prefix_len}
use Rattle.std.proofs.lemmas.Bool.{cases_eq, cases_lt, le-leb, lt-ltb, eq-eqb, ne_eqb, cond-true, cond-false}
use Rattle.std.proofs.lemmas.List.{length-take-le, length-drop, take-append-drop, take_all, length-append, get_or-take, get_or-drop}
use Rattle.std.proofs.lemmas.List.Elements.{All-from_get_or}
use Rattle.std.proofs.lemmas.List.Folds.{prefix_len-append}
use Rattle.std.proofs.lemmas.List.Sums.{prefix_len-le-length, prefix_len_passes, prefix_len_stops, prefix_len_is, list_all-from_AllPass}
use Rattle.th_model.specs.Names.{front_name, is_name, is_name_byte}

-- a run that ends within the first n is the whole run, and one of all n goes on behind them
module _ (p : ℕ → Bool) (bs : List ℕ) (n : ℕ) (le : n ≤ length bs) where
  parts : prefix_len p bs ≡ cond (eqb (prefix_len p (take n bs)) n) (n + prefix_len p (drop n bs)) (prefix_len p (take n bs))
  parts = ap (prefix_len p) (sym (take-append-drop n bs)) ∙ prefix_len-append p (take n bs) (drop n bs)
      ∙ ap (λ k. cond (eqb (prefix_len p (take n bs)) k) (k + prefix_len p (drop n bs)) (prefix_len p (take n bs))) (length-take-le n bs le)

  pub run-ends : prefix_len p (take n bs) < n → prefix_len p (take n bs) ≡ prefix_len p bs
  run-ends short = sym (parts ∙ cond-false _ _ _ (ne_eqb (prefix_len p (take n bs)) n (λ whole. omega (arith, short, whole))))

  pub run-goes-on : (k : ℕ) → k ≡ prefix_len p (take n bs) → n ≤ k → (k ≡ n) × (k + prefix_len p (drop k bs) ≡ prefix_len p bs)
  run-goes-on k found whole =
      let all : k ≡ n = omega (arith, found, whole, prefix_len-le-length p (take n bs), length-take-le n bs le) in
      (all, ap (λ m. m + prefix_len p (drop m bs)) all ∙ sym (parts ∙ cond-true _ _ _ (eq-eqb _ _ (sym found ∙ all))))

-- the first h bytes and the last h
module _ (bs : List ℕ) (h : ℕ) (le : h ≤ length bs) where
  last : length (drop (length bs - h) bs) ≡ h
  last = omega (arith, length-drop (length bs - h) bs, le)

  whole-last : take h (drop (length bs - h) bs) ≡ drop (length bs - h) bs
  whole-last = take_all h (drop (length bs - h) bs) (omega (arith, last))

  pub ends-are : take h bs ++ take h (drop (length bs - h) bs) ≡ take h bs ++ drop (length bs - h) bs
  ends-are = ap (λ zs. take h bs ++ zs) whole-last

  pub ends-long : length (take h bs ++ take h (drop (length bs - h) bs)) ≡ h + h
  ends-long =
      let both = length-append (take h bs) (take h (drop (length bs - h) bs)) in
      omega (arith, both, length-take-le h bs le, ap length whole-last, last)

-- the first h bytes and the last h, which together are all of them, tested as one run of r
module _ (p : ℕ → Bool) (bs : List ℕ) (h r : ℕ) (le : h ≤ length bs) (most : length bs ≤ h + h)
    (found : r ≡ prefix_len p (take h bs ++ drop (length bs - h) bs)) where
  abbrev back : ℕ
  back = length bs - h

  abbrev first : ℕ
  first = prefix_len p (take h bs)

  abbrev rest : ℕ
  rest = prefix_len p (drop back bs)

  joined : r ≡ cond (eqb first h) (h + rest) first
  joined = found ∙ prefix_len-append p (take h bs) (drop back bs)
      ∙ ap (λ k. cond (eqb first k) (k + rest) first) (length-take-le h bs le)

  at-most : first ≤ h
  at-most = omega (arith, prefix_len-le-length p (take h bs), length-take-le h bs le)

  both : h ≤ r → (first ≡ h) × (r ≡ h + rest)
  both full = elim (cases_eq first h) [
    | inl whole ↦ (whole, joined ∙ cond-true _ _ _ (eq-eqb first h whole))
    | inr short ↦ absurd (omega (arith, full, at-most, short, joined ∙ cond-false _ _ _ (ne_eqb first h short)))
  ]

  passes-on : first ≡ h → (k : ℕ) → k < back + rest → p (get_or bs k 0) ≡ true
  passes-on whole k before = elim (cases_lt k h) [
    | inl early ↦ ap p (sym (get_or-take h bs k 0 early)) ∙ prefix_len_passes p (take h bs) k 0 (omega (arith, early, whole))
    | inr later ↦
        let at : back + (k - back) ≡ k = omega (arith, later, le, most) in
        ap (λ j. p (get_or bs j 0)) (sym at) ∙ ap p (sym (get_or-drop back bs (k - back) 0))
        ∙ prefix_len_passes p (drop back bs) (k - back) 0 (omega (arith, before, at))
  ]

  pub ends-late : h ≤ r → back + (r - h) ≡ prefix_len p bs
  ends-late full =
      let long = length-drop back bs in
      let end : back + (r - h) ≡ back + rest = omega (arith, (both full).1) in
      end
      ∙ sym (prefix_len_is p bs (back + rest) 0 (omega (arith, prefix_len-le-length p (drop back bs), long)) (passes-on (both full).0)
      (λ short. ap p (sym (get_or-drop back bs rest 0)) ∙ prefix_len_stops p (drop back bs) 0 (omega (arith, short, long))))

-- lanes behind a run that fail add nothing to it
pub ends-before : (p : ℕ → Bool) (xs : List ℕ) (n b : ℕ) → p b ≡ false → prefix_len p (xs ++ replicate n b) ≡ prefix_len p xs
ends-before p [] zero b fails = refl
ends-before p [] (suc n) b fails = cond-false _ _ _ fails
ends-before p (x ∷ xs) n b fails = ap (λ m. cond (p x) (1 + m) 0) (ends-before p xs n b fails)

-- the bytes before the first that no name has, where they are some and not too many
module _ (bs : List ℕ) (n : ℕ) (found : n ≡ prefix_len is_name_byte bs) (some : n ≡ 0 → ⊥) (most : n ≤ 32) where
  long : length (take n bs) ≡ n
  long = length-take-le n bs (omega (arith, found, prefix_len-le-length is_name_byte bs))

  passes : list_all is_name_byte (take n bs) ≡ true
  passes = list_all-from_AllPass is_name_byte (take n bs) (All-from_get_or (λ b. is_name_byte b ≡ true) (take n bs) 0 (λ i inside.
      ap is_name_byte (get_or-take n bs i 0 (omega (arith, inside, long)))
      ∙ prefix_len_passes is_name_byte bs i 0 (omega (arith, inside, long, found))))

  pub front-is-name : is_name (take n bs) ≡ true
  front-is-name = rw (long, lt-ltb 0 n (omega (arith, some)), le-leb n 32 most, passes) refl

  pub front-name : front_name bs ≡ Some (take n bs, drop n bs)
  front-name =
      let name : is_name (take (prefix_len is_name_byte bs) bs) ≡ true = subst (λ m. is_name (take m bs) ≡ true) found front-is-name in
      rw name (ap (λ m. Some (take m bs, drop m bs)) (sym found))

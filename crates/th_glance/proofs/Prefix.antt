-- Beginnings of one list, and lists of glances.
use Rattle.std.proofs.Common.{◌≡◌, ℕ, zero, suc, ◌+◌, ◌*◌, ◌/◌, ◌%◌, ◌≤◌, ◌⊎◌, inl, inr, Bool, true, false, eqb, eq-eqb, ne_eqb, List, [], ◌∷◌, ◌++◌, length, Some, slice_get, refl, ap, sym, ◌∙◌, arith, append_assoc, length-append, ⊎_elim}
use mathlib.Core.List.{IsPrefix}
use Rattle.th_glance.specs.declared.glance.Glance.{Glance}
use Rattle.th_glance.specs.Lists.{glance_of, bit, word_of, last_of, last_count, IsCounted}

-- each list begins with itself
pub prefix_self : {A : Type 0} (xs : List A) → IsPrefix xs xs
prefix_self [] = ([], refl)
prefix_self (x ∷ xs) = (let r = prefix_self xs in r.0, ap (λ ys. x ∷ ys) (prefix_self xs).1)

pub prefix_trans : {A : Type 0} (xs ys zs : List A) → IsPrefix xs ys → IsPrefix ys zs → IsPrefix xs zs
prefix_trans xs ys zs p q = (p.0 ++ q.0, sym (append_assoc xs p.0 q.0) ∙ (ap (λ w. w ++ q.0) p.1 ∙ q.1))

pub prefix_length : {A : Type 0} (xs ys : List A) → IsPrefix xs ys → length xs ≤ length ys
prefix_length xs ys p = omega (arith, sym (ap length p.1) ∙ length-append xs p.0)

pub last-snoc : (gs : List Glance) (g : Glance) → last_of (gs ++ g ∷ []) ≡ g
last-snoc [] g = refl
last-snoc (x ∷ []) g = refl
last-snoc (x ∷ y ∷ ys) g = last-snoc (y ∷ ys) g

-- the last glance stands behind all others
pub get-last : (x : Glance) (xs : List Glance) → slice_get (x ∷ xs) (length xs) ≡ Some (last_of (x ∷ xs))
get-last x [] = refl
get-last x (y ∷ ys) = get-last y ys

-- the last count is one less than the number of glances
pub count-length : (gs : List Glance) → IsCounted gs → last_count gs + 1 ≡ length gs
count-length [] c = absurd (omega arith)
count-length (x ∷ xs) c = let last : last_count (x ∷ xs) ≡ length xs = c.1 (length xs) (last_of (x ∷ xs)) (get-last x xs) in omega arith

-- a glance of a list with one more is of the list, or that one
pub get-snoc : (gs : List Glance) (g : Glance) (k : ℕ) (h : Glance) → slice_get (gs ++ g ∷ []) k ≡ Some h → (slice_get gs k ≡ Some h)
    ⊎ ((k ≡ length gs) × (g ≡ h))
get-snoc [] g zero h e = inr (refl, cc (e))
get-snoc [] g (suc k) h e = absurd (cc (e))
get-snoc (x ∷ xs) g zero h e = inl e
get-snoc (x ∷ xs) g (suc k) h e = ⊎_elim (λ t. inl t) (λ (t : (k ≡ length xs) × (g ≡ h)). inr (ap suc t.0, t.1)) (get-snoc xs g k h e)

pub counted-snoc : (gs : List Glance) (closed : Bool) → IsCounted gs → IsCounted (gs ++ glance_of (last_count gs + 1) closed ∷ [])
counted-snoc gs closed c = let n = count-length gs c in let g : Glance = glance_of (last_count gs + 1) closed in (
  omega (arith, length-append gs (g ∷ [])),
  λ k h e.
      ⊎_elim (λ (t : slice_get gs k ≡ Some h). c.1 k h t)
      (λ (t : (k ≡ length gs) × (g ≡ h)). let same : last_count gs + 1 ≡ h.count = ap (λ (z : Glance). z.count) t.1 in omega arith)
      (get-snoc gs g k h e),
)

same_parts : (a c : ℕ) (b d : Bool) → 2 * a + bit b ≡ 2 * c + bit d → glance_of a b ≡ glance_of c d
same_parts a c true true e = let n : a ≡ c = omega arith in ap (λ (z : ℕ). glance_of z true) n
same_parts a c true false e = absurd (omega arith)
same_parts a c false true e = absurd (omega arith)
same_parts a c false false e = let n : a ≡ c = omega arith in ap (λ (z : ℕ). glance_of z false) n

-- a word says one glance
pub word-injective : (g h : Glance) → word_of g ≡ word_of h → g ≡ h
word-injective g h e = same_parts g.count h.count g.closed h.closed e

parts_of : (n c : ℕ) (b : Bool) → n ≡ 2 * c + bit b → glance_of (n / 2) (eqb (n % 2) 1) ≡ glance_of c b
parts_of n c true e = let half : n / 2 ≡ c = omega arith in let odd : n % 2 ≡ 1 = omega arith in
    λ i. glance_of (half i) (eq-eqb (n % 2) 1 odd i)
parts_of n c false e = let half : n / 2 ≡ c = omega arith in let even : n % 2 ≡ 0 = omega arith in
    λ i. glance_of (half i) (ne_eqb (n % 2) 1 (λ odd. omega arith) i)

-- the glance that a word says
pub word-parts : (n : ℕ) (g : Glance) → n ≡ word_of g → glance_of (n / 2) (eqb (n % 2) 1) ≡ g
word-parts n g e = parts_of n g.count g.closed e

-- a longer list has a greater count
pub count-rises : (xs ys : List Glance) → IsCounted xs → IsCounted ys → IsPrefix xs ys → last_count xs ≤ last_count ys
count-rises xs ys c d p = let n = count-length xs c in let m = count-length ys d in let l = prefix_length xs ys p in omega arith

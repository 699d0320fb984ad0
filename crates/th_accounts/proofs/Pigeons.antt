-- Numbers below n, each once, are at most n; and where they are n, each is there.
use Rattle.std.proofs.Common.{◌≡◌, ◌≢◌, ℕ, zero, suc, ◌+◌, ◌<◌, ◌≤◌, ◌⊎◌, true, false, cond, eqb, List, [], ◌∷◌, length, refl, sym, subst, inl, inr, arith}
use Rattle.std.specs.List.{AllByRecursion}
use Rattle.std.proofs.lemmas.Bool.{eqb-true, eqb-false}

abbrev pub Apart : List ℕ → Type 0
Apart [] = Unit {0}
Apart (x ∷ xs) = AllByRecursion (λ y. y ≢ x) xs × Apart xs

abbrev pub Below : ℕ → List ℕ → Type 0
Below n xs = AllByRecursion (λ x. x < n) xs

abbrev pub Has : ℕ → List ℕ → Type 0
Has k [] = ⊥
Has k (x ∷ xs) = (k ≡ x) ⊎ Has k xs

-- without the first k
abbrev without : ℕ → List ℕ → List ℕ
without k [] = []
without k (x ∷ xs) = cond (eqb x k) xs (x ∷ without k xs)

all-without : (P : ℕ → Type 0) (k : ℕ) (xs : List ℕ) → AllByRecursion P xs → AllByRecursion P (without k xs)
all-without P k [] h = tt
all-without P k
    (x ∷ xs) h = elim (eqb x k) as (λ b. AllByRecursion P (cond b xs (x ∷ without k xs)))
    [ true ↦ h.1 | false ↦ (h.0, all-without P k xs h.1) ]

apart-without : (k : ℕ) (xs : List ℕ) → Apart xs → Apart (without k xs)
apart-without k [] h = tt
apart-without k
    (x ∷ xs) h = elim (eqb x k) as (λ b. Apart (cond b xs (x ∷ without k xs)))
    [ true ↦ h.1 | false ↦ (all-without (λ y. y ≢ x) k xs h.0, apart-without k xs h.1) ]

length-without : (k : ℕ) (xs : List ℕ) → length xs ≤ length (without k xs) + 1
length-without k [] = omega arith
length-without k
    (x ∷ xs) = elim (eqb x k) as (λ b. length (x ∷ xs) ≤ length (cond b xs (x ∷ without k xs)) + 1)
    [ true ↦ omega arith | false ↦ omega (arith, length-without k xs) ]

both : (m : ℕ) (xs : List ℕ) → Below (suc m) xs → AllByRecursion (λ y. y ≢ m) xs → Below m xs
both m [] b a = tt
both m (x ∷ xs) b a = (omega (arith, b.0, a.0), both m xs b.1 a.1)

below-without : (m : ℕ) (xs : List ℕ) → Apart xs → Below (suc m) xs → Below m (without m xs)
below-without m [] a b = tt
below-without m (x ∷ xs) a b = elim (eqb x m) as (λ t. eqb x m ≡ t → Below m (cond t xs (x ∷ without m xs))) [
  | true ↦ λ e. both m xs b.1 (subst (λ z. AllByRecursion (λ y. y ≢ z) xs) (eqb-true x m e) a.0)
  | false ↦ λ e. (omega (arith, b.0, eqb-false x m e), below-without m xs a.1 b.1)
] refl

pub few : (n : ℕ) (xs : List ℕ) → Apart xs → Below n xs → length xs ≤ n
few zero [] a b = omega arith
few zero (x ∷ xs) a b = absurd (omega (arith, b.0))
few (suc m) xs a b = omega (arith, length-without m xs, few m (without m xs) (apart-without m xs a) (below-without m xs a b))

found : (k : ℕ) (xs : List ℕ) → Has k xs ⊎ AllByRecursion (λ y. y ≢ k) xs
found k [] = inr tt
found k (x ∷ xs) = elim (eqb x k) as (λ t. eqb x k ≡ t → Has k (x ∷ xs) ⊎ AllByRecursion (λ y. y ≢ k) (x ∷ xs)) [
  | true ↦ λ e. inl (inl (sym (eqb-true x k e)))
  | false ↦ λ e. elim (found k xs) as (λ _. Has k (x ∷ xs) ⊎ AllByRecursion (λ y. y ≢ k) (x ∷ xs)) [
    | inl h ↦ inl (inr h)
    | inr h ↦ inr (eqb-false x k e, h)
  ]
] refl

pub pigeon : (n : ℕ) (xs : List ℕ) (k : ℕ) → Apart xs → Below n xs → length xs ≡ n → k < n → Has k xs
pigeon n xs k a b whole lt = elim (found k xs) as (λ _. Has k xs) [
  | inl h ↦ h
  | inr h ↦ absurd (omega (arith, whole, few n (k ∷ xs) (h, a) (lt, b)))
]

-- Lines that a gate let through: none, one, and those that were and the ones behind them.
use Rattle.std.proofs.Common.{◌≡◌, ◌⊎◌, inl, inr, ℕ, ◌+◌, ◌-◌, ◌<◌, ◌≤◌, List, ◌++◌, length, ap, arith, length-append, subst, sym}
use Rattle.std.proofs.lemmas.Bool.{cases_lt}
use Rattle.th_lines.specs.Lines.{Line}
use Rattle.th_session.specs.Run.{AreLet, IsLet, Strictness}

module _ (gate : Strictness) (n : ℕ) where
  pub none_let : AreLet gate n 0
  none_let k h = absurd (omega (arith, h))

  pub one_let : IsLet gate n → AreLet gate n 1
  one_let is k h =
      let e : n ≡ n + k = omega (arith, h) in subst (λ (m : ℕ). IsLet gate m) e is

  -- one more
  pub next_let : (count : ℕ) → AreLet gate n count → IsLet gate (n + count) → AreLet gate n (count + 1)
  next_let count these is k h = by_place (cases_lt k count)
    where
      by_place : (k < count) ⊎ (count ≤ k) → IsLet gate (n + k)
      by_place (inl front) = these k front
      by_place (inr behind) =
          let e : n + count ≡ n + k = omega (arith, h, behind) in subst (λ (m : ℕ). IsLet gate m) e is

  -- the first ones
  pub first_let : (few many : ℕ) → few ≤ many → AreLet gate n many → AreLet gate n few
  first_let few many less these k h = these k (omega (arith, h, less))

  -- those behind these lines too
  pub more_let : (lines more : List Line) → n ≡ length lines → AreLet gate 0 (length lines) → AreLet gate n (length more) →
      AreLet gate 0 (length (lines ++ more))
  more_let lines more many these those k h = by_place (cases_lt k (length lines))
    where
      by_place : (k < length lines) ⊎ (length lines ≤ k) → IsLet gate (0 + k)
      by_place (inl front) = these k front
      by_place (inr behind) =
          let e : n + (k - length lines) ≡ 0 + k = omega (arith, many, behind) in
          subst (λ (m : ℕ). IsLet gate m) e (those (k - length lines) (omega (arith, h, behind, length-append lines more)))

-- lines of a row, as a gate let them through that is the same
pub row_let : (gate old : Strictness) (n count : ℕ) (row : List Line) → old ≡ gate → length row ≡ count → AreLet old n count →
    AreLet gate n (length row)
row_let gate old n count row same many these =
    subst (λ (k : ℕ). AreLet gate n k) (sym many) (subst (λ (g : Strictness). AreLet g n count) same these)

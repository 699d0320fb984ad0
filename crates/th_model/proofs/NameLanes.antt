-- From the lanes of a vector to those at its front that pass a test.
use Rattle.std.proofs.Common.{◌≡◌, ℕ, ◌+◌, ◌%◌, ◌^◌, ◌<◌, ◌≤◌, Bool, true, false, List, [], ◌∷◌, map, length, get_or, cond, Fits, w8, w64, refl, sym, ap, ap₂, ◌∙◌, arith, inl, inr}
use Rattle.std.specs.List.{prefix_len}
use Rattle.std.specs.Int.{trailing_ones}
use Rattle.std.proofs.Math.Pow.{pow_mono}
use Rattle.std.proofs.lemmas.Bool.{agree_below, agree_below_at, cases_lt, true≢false}
use Rattle.std.proofs.lemmas.Nat.Bits.{bit_at-trailing_ones}
use Rattle.std.proofs.lemmas.List.{length-map, get_or_past}
use Rattle.std.proofs.lemmas.List.Sums.{prefix_len_is}
use Rattle.std.proofs.lemmas.Simd.{map-map, mask_l-lt, mask_l-mod, bit_mask_l}
use lib.Lanes.{Each1, mask_l, top}

is-set : (b : Bool) (n : ℕ) → n ≡ cond b 1 0 → n ≡ 1 → b ≡ true
is-set true n e one = refl
is-set false n e one = absurd (omega (arith, e, one))

is-clear : (b : Bool) (n : ℕ) → n ≡ cond b 1 0 → n ≡ 0 → b ≡ false
is-clear true n e none = absurd (omega (arith, e, none))
is-clear false n e none = refl

-- the lowest bit that is not set is the first lane that fails
module _ (ms : List Bool) (few : length ms < 64) where
  abbrev lowest : ℕ
  lowest = trailing_ones w64 (mask_l ms)

  room : length ms ≤ 63
  room = omega (arith, few)

  within : mask_l ms + 1 < 2 ^ 64
  within = omega (arith, mask_l-lt ms, pow_mono room)

  goes-on : (i : ℕ) → i < lowest → get_or ms i false ≡ true
  goes-on i before = is-set (get_or ms i false) _ (bit_mask_l ms i) ((bit_at-trailing_ones w64 (mask_l ms) within).2 i before)

  stops : get_or ms lowest false ≡ false
  stops = is-clear (get_or ms lowest false) _ (bit_mask_l ms lowest) (bit_at-trailing_ones w64 (mask_l ms) within).1

  ones_of_mask : lowest ≡ prefix_len (λ b. b) ms
  ones_of_mask = elim (cases_lt (length ms) lowest) [
    | inl past ↦ absurd (true≢false (sym (goes-on (length ms) past) ∙ get_or_past ms (length ms) false (omega arith)))
    | inr inside ↦ sym (prefix_len_is (λ b. b) ms lowest false inside goes-on (λ short. stops))
  ]

prefix_len-map : (p : ℕ → Bool) (xs : List ℕ) → prefix_len (λ b. b) (map p xs) ≡ prefix_len p xs
prefix_len-map p [] = refl
prefix_len-map p (x ∷ xs) = ap (λ n. cond (p x) (1 + n) 0) (prefix_len-map p xs)

-- two tests that agree on all bytes
prefix_len-agree : (p q : ℕ → Bool) (xs : List ℕ) → agree_below p q 256 ≡ true → Each1 (Fits w8) xs → prefix_len p xs ≡ prefix_len q xs
prefix_len-agree p q [] all fits = refl
prefix_len-agree p q (x ∷ xs) all fits =
    ap₂ (λ b n. cond b (1 + n) 0) (agree_below_at p q 256 x all fits.0.fits) (prefix_len-agree p q xs all fits.1)

-- where each of the 16 lanes of z is computed by f from one of v, and tells whether q passes that one
pub lanes_tell : (q : ℕ → Bool) (f : ℕ → ℕ) (v z : List ℕ) → length v ≡ 16 → Each1 (Fits w8) v → z ≡ map f v
    → agree_below (λ x. top 7 (f x)) q 256 ≡ true → trailing_ones w64 (mask_l (map (top 7) z) % 2 ^ 64) ≡ prefix_len q v
lanes_tell q f v z long fits lanes all =
    let passes : ℕ → Bool = λ x. top 7 (f x) in
    let few : length (map passes v) < 64 = omega (arith, length-map v passes, long) in
    let tops = ap (map (top 7)) lanes ∙ map-map (top 7) f v in
    let mask = ap (λ l. mask_l l % 2 ^ 64) tops ∙ mask_l-mod (map passes v) 64 (omega (arith, few)) in
    ap (trailing_ones w64) mask ∙ ones_of_mask (map passes v) few ∙ prefix_len-map passes v ∙ prefix_len-agree passes q v all fits

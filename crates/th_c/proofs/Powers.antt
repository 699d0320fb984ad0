-- A capacity that is asked for is in force.
use Rattle.std.proofs.Common.{◌≡◌, ℕ, suc, ◌*◌, ◌/◌, ◌<◌, ◌≤◌, ◌^◌, inl, inr, arith}
use Rattle.std.proofs.lemmas.Bool.{cases_lt}
use Rattle.std.proofs.Math.Nat.{pow-succ'}
use Rattle.std.proofs.Math.Pow.{pow_mono}
use Rattle.th_model.specs.Limits.{IsCapacity}

no_greater : (p q asked : ℕ) → asked ≤ 2 ^ p → 2 ^ q / 2 < asked → 2 ^ q ≤ 2 ^ p
no_greater p q asked reach half = elim (cases_lt p q) [
  | inl less ↦
      (let le : suc p ≤ q = omega arith in let m : 2 ^ suc p ≤ 2 ^ q = pow_mono le in let two : 2 ^ suc p ≡ 2 * 2 ^ p = pow-succ' 2 p in
      absurd (omega (arith, m, two)))
  | inr not_less ↦ pow_mono not_less
]

-- the least power of two from such a one on is that one
pub same_power : (asked c : ℕ) → IsCapacity asked → IsCapacity c → asked ≤ c → c / 2 < asked → c ≡ asked
same_power asked c a b least half =
    let bound : 2 ^ b.0.0 ≤ 2 ^ a.0.0 = no_greater a.0.0 b.0.0 asked (omega (arith, a.0.1)) (rw b.0.1 at half) in
    omega (arith, a.0.1, b.0.1, bound, least)

-- The reply of one of two steps.
use Rattle.std.proofs.Common.{Bool, true, false, cond}

module _ {R E : Type 0} (P : R → Type 0) where
  pub chosen : (b : Bool) (x y : R × E) → P x.0 → P y.0 → P (cond b x y).0
  chosen true x y h k = h
  chosen false x y h k = k

pub one_of : {R : Type 0} (P : R → Type 0) (b : Bool) (x y : R) → P x → P y → P (cond b x y)
one_of P true x y h k = h
one_of P false x y h k = k

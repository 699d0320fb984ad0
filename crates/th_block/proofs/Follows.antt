-- A receiver that was live when it made another is live still.
use Rattle.std.proofs.Common.{◌≡◌, ◌∙◌, ℕ, Bool, true, is_some, Option, Some, ap, subst, sym}
use Rattle.th_log.specs.CallLaws.{IsLast, StaysBeside}
use Rattle.th_log.specs.History.{Machine}
use Rattle.th_log.specs.Outcome.{Told}
use Rattle.th_block.specs.Locked.{IsSeated, Spends}
use Rattle.th_block.specs.declared.seat.Seat.{Seat}

module _ {E S C R : Type 0} (m : Machine E S C R) (done : R) (is_live : S → Bool) (last call : C) (is : call ≡ last)
    (ends : IsLast m done is_live last) where
  -- its last call does not wait
  pub ready : (p : S) → m.ready p call ≡ true
  ready p = subst (λ (c : C). m.ready p c ≡ true) (sym is) (ends.ready p)

  -- and spends it, behind the call by which there is this seat
  pub spendable : (made : R → Option ℕ) (make : C) (maker : Option C) (p q : S) (r : Told C R) (o : Option Seat) (seat : Seat)
      → maker ≡ Some make → StaysBeside m made is_live maker → m.answer p make ≡ (r.reply, q) → o ≡ Some seat → IsSeated made r o
      → Spends m q call
  spendable made make maker p q r o seat makes stays step there seated =
      let number : made r.reply ≡ Some seat.number = (subst (λ (x : Option Seat). IsSeated made r x) there seated).0 in
      let told : is_some (made (m.answer p make).0) ≡ true = ap (λ (x : R × S). is_some (made x.0)) step ∙ ap is_some number in
      let live : is_live (m.answer p make).1 ≡ true = subst (λ (c : Option C). StaysBeside m made is_live c) makes stays p told in
      subst (λ (c : C). Spends m q c) (sym is) (ends.spends q (subst (λ (x : R × S). is_live x.1 ≡ true) step live))

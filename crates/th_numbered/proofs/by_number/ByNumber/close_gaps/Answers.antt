use Rattle.std.proofs.Common.{◌≡◌, length, refl, sym, ap, ◌∙◌, rules, arith}
use Rattle.std.proofs.lemmas.List.Elements.{filter_from_retain}
use Rattle.std.specs.List.{filter}
use Rattle.th_numbered.proofs.Lemmas.{length-le, no_gap, present-closed, rising-closed}
use Rattle.th_numbered.proofs.by_number.ByNumber.close_gaps.Goals as goal

pub overflow_sub-len : goal.overflow_sub-len
overflow_sub-len g c = omega (arith, c.len.ensures, c.self.invariant.1, length-le c.self.inside.list.items)

pub invariant_of-self : goal.invariant_of-self
invariant_of-self g c =
    let kept : c.retain.new.self.items ≡ filter no_gap c.self.inside.list.items = filter_from_retain _ no_gap
    (λ p x b q t. search rules) _ _ _ c.retain.ensures.filtered in
    rw kept (
      rising-closed c.self.inside.list.items c.self.invariant.0,
      c.self.invariant.1
          ∙ sym (ap length (present-closed c.self.inside.list.items)),
      refl,
    )

pub returns-then-len-self : goal.returns-then-len-self
returns-then-len-self g c =
    let kept : c.retain.new.self.items ≡ filter no_gap c.self.inside.list.items = filter_from_retain _ no_gap
    (λ p x b q t. search rules) _ _ _ c.retain.ensures.filtered in
    rw (← c.self.view_is, kept) (present-closed c.self.inside.list.items)

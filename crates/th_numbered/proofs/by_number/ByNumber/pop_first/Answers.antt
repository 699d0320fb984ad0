use Rattle.std.proofs.Common.{◌≡◌, ◌∷◌, ◌+◌, Some, None, suc, set, drop, length, sym, ap, subst, ◌∙◌, arith}
use Rattle.std.proofs.lemmas.Option.{same_Some}
use Rattle.th_numbered.specs.Slots.{StartsWithGaps, present, put_slot}
use Rattle.th_numbered.proofs.Lemmas.{gaps-drop, gaps-pop, present-pop, rising-put, set-put, slot_is, one}
use Rattle.th_numbered.proofs.by_number.ByNumber.pop_first.Goals as goal

pub returns-in_default-clause-none : goal.returns-in_default-clause-none
returns-in_default-clause-none g c =
    let none = sym (gaps-drop c.self.inside.list.items c.self.inside.first c.self.invariant.2) ∙ c.in_default.ensures.none in
    rw (← c.self.view_is) (none, none)

pub returns-in_default-take-clause-none : goal.returns-in_default-take-clause-none
returns-in_default-take-clause-none g c =
    let ss = c.self.inside.list.items in
    let old = sym (c.in_default-take.ensures.value
    ∙ slot_is ss c.in-Some.at c.index_mut.result.now c.in-Some.ensures.within c.index_mut.ensures.value) in
    absurd (omega (arith, ap one (sym old ∙ c.in-Some.ensures.slot)))

pub overflow_sub-self : goal.overflow_sub-self
overflow_sub-self g c =
    let ss = c.self.inside.list.items in
    omega (arith, ap length (sym (gaps-drop ss c.self.inside.first c.self.invariant.2) ∙ c.in-Some.ensures.some), c.self.invariant.1)

pub invariant_of-self-2 : goal.invariant_of-self-2
invariant_of-self-2 g c =
    let ss = c.self.inside.list.items in
    let at = c.in-Some.at in
    let gaps = c.in-Some.ensures.gaps c.self.invariant.2 in
    let more : at + 1 ≡ suc at = omega arith in
    let all = sym (gaps-drop ss c.self.inside.first c.self.invariant.2) ∙ c.in-Some.ensures.some in
    let rest = present-pop ss at gaps ∙ ap (λ k. present (drop k ss)) (sym more) in
    rw (c.take.ensures.after, set-put ss at c.index_mut.result.now None c.in-Some.ensures.within c.index_mut.ensures.value) (
      rising-put ss at None c.self.invariant.0,
      omega (arith, ap length all, ap length rest, c.self.invariant.1),
      subst (λ k. StartsWithGaps k (put_slot ss at None)) (sym more) (gaps-pop ss at gaps),
    )

pub returns-clause-removal : goal.returns-clause-removal
returns-clause-removal g c =
    let ss = c.self.inside.list.items in
    let at = c.in-Some.at in
    let gaps = c.in-Some.ensures.gaps c.self.invariant.2 in
    let more : at + 1 ≡ suc at = omega arith in
    let item = c.index_mut.result.now in
    let all = sym (gaps-drop ss c.self.inside.first c.self.invariant.2) ∙ c.in-Some.ensures.some in
    let rest = present-pop ss at gaps ∙ ap (λ k. present (drop k ss)) (sym more) in
    let new = ap present (ap (λ o. set ss at (item.0, o)) c.take.ensures.after
    ∙ set-put ss at item None c.in-Some.ensures.within c.index_mut.ensures.value) ∙ rest in
    let old : Some c.in-Some-take.value ≡ Some c.in-Some.field-0-2.now = c.in-Some-take.ensures.value
    ∙ slot_is ss at item c.in-Some.ensures.within c.index_mut.ensures.value ∙ c.in-Some.ensures.slot in
    let same = same_Some c.in-Some-take.value c.in-Some.field-0-2.now old in
    rw (← c.self.view_is) (all ∙ ap (λ v. (c.in-Some.n, v) ∷ present (drop (at + 1) ss)) (sym same)
    ∙ ap (λ es. (c.in-Some.n, c.in-Some-take.value) ∷ es) (sym (c.close_gaps.ensures ∙ new)))

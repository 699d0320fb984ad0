use Rattle.std.proofs.Common.{◌≡◌, Some, None, set, sym, ap, ◌∙◌, arith}
use Rattle.th_numbered.specs.Slots.{present, slot_at}
use Rattle.th_numbered.proofs.Lemmas.{gaps-take, length-put, lookup-absent, lookup-found, one, remove-absent, remove-found, rising-put, set-put, slot_is, within}
use Rattle.th_numbered.proofs.by_number.ByNumber.remove.Goals as goal

pub returns-in_default-clause-value : goal.returns-in_default-clause-value
returns-in_default-clause-value g c = rw (← c.self.view_is)
    (sym (lookup-absent c.args.n c.self.inside.list.items c.in_default.field-0 c.in_default.ensures))

pub returns-in_default-clause-entries : goal.returns-in_default-clause-entries
returns-in_default-clause-entries g c = rw (← c.self.view_is)
    (sym (remove-absent c.args.n c.self.inside.list.items c.in_default.field-0 c.in_default.ensures))

pub index_mut-requires : goal.index_mut-requires
index_mut-requires g c = omega (arith, within c.args.n c.self.inside.list.items c.in-Ok.i c.in-Ok.ensures)

pub returns-in_default-take-clause-value : goal.returns-in_default-take-clause-value
returns-in_default-take-clause-value g c =
    let ss = c.self.inside.list.items in
    let here = within c.args.n ss c.in-Ok.i c.in-Ok.ensures in
    rw (← c.self.view_is) (c.in_default-take.ensures.value ∙ slot_is ss c.in-Ok.i c.index_mut.result.now here c.index_mut.ensures.value
    ∙ sym (lookup-found c.args.n ss c.in-Ok.i c.in-Ok.ensures c.self.invariant.0))

pub returns-in_default-take-clause-entries : goal.returns-in_default-take-clause-entries
returns-in_default-take-clause-entries g c =
    let ss = c.self.inside.list.items in
    let here = within c.args.n ss c.in-Ok.i c.in-Ok.ensures in
    rw (← c.self.view_is, c.take.ensures.after, set-put ss c.in-Ok.i c.index_mut.result.now None here c.index_mut.ensures.value)
    (remove-found c.args.n ss c.in-Ok.i c.in-Ok.ensures c.self.invariant.0)

pub overflow_sub-self : goal.overflow_sub-self
overflow_sub-self g c =
    let ss = c.self.inside.list.items in
    let here = within c.args.n ss c.in-Ok.i c.in-Ok.ensures in
    let old : slot_at ss c.in-Ok.i ≡ Some c.in-Some.value = sym (c.in-Some.ensures.value
    ∙ slot_is ss c.in-Ok.i c.index_mut.result.now here c.index_mut.ensures.value) in
    omega (arith, length-put c.args.n ss c.in-Ok.i None c.in-Ok.ensures, ap one old, c.self.invariant.1)

pub invariant_of-self-2 : goal.invariant_of-self-2
invariant_of-self-2 g c =
    let ss = c.self.inside.list.items in
    let here = within c.args.n ss c.in-Ok.i c.in-Ok.ensures in
    let old : slot_at ss c.in-Ok.i ≡ Some c.in-Some.value = sym (c.in-Some.ensures.value
    ∙ slot_is ss c.in-Ok.i c.index_mut.result.now here c.index_mut.ensures.value) in
    rw (c.take.ensures.after, set-put ss c.in-Ok.i c.index_mut.result.now None here c.index_mut.ensures.value) (
      rising-put ss c.in-Ok.i None c.self.invariant.0,
      omega (arith, length-put c.args.n ss c.in-Ok.i None c.in-Ok.ensures, ap one old, c.self.invariant.1),
      gaps-take ss c.self.inside.first c.in-Ok.i c.self.invariant.2,
    )

pub returns-clause-value : goal.returns-clause-value
returns-clause-value g c =
    let ss = c.self.inside.list.items in
    let here = within c.args.n ss c.in-Ok.i c.in-Ok.ensures in
    rw (← c.self.view_is) (c.in-Some.ensures.value ∙ slot_is ss c.in-Ok.i c.index_mut.result.now here c.index_mut.ensures.value
    ∙ sym (lookup-found c.args.n ss c.in-Ok.i c.in-Ok.ensures c.self.invariant.0))

pub returns-clause-entries : goal.returns-clause-entries
returns-clause-entries g c =
    let ss = c.self.inside.list.items in
    let here = within c.args.n ss c.in-Ok.i c.in-Ok.ensures in
    let new = ap present (ap (λ o. set ss c.in-Ok.i (c.index_mut.result.now.0, o)) c.take.ensures.after
    ∙ set-put ss c.in-Ok.i c.index_mut.result.now None here c.index_mut.ensures.value)
    ∙ remove-found c.args.n ss c.in-Ok.i c.in-Ok.ensures c.self.invariant.0 in
    rw (← c.self.view_is) (c.close_gaps.ensures ∙ new)

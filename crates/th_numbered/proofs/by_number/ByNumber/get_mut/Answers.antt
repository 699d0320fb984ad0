use Rattle.std.proofs.Common.{◌≡◌, Some, true, set, inl, inr, refl, sym, ap, ◌∙◌, arith}
use Rattle.std.specs.Option.{is_some}
use Rattle.std.proofs.lemmas.List.{set-get_or}
use Rattle.th_numbered.specs.Slots.{present, slot_at}
use Rattle.th_numbered.proofs.Lemmas.{gaps-write, length-put, lookup-absent, lookup-found, one, rising-present, rising-put, set-found, set-put, slot_is, within}
use Rattle.th_numbered.proofs.by_number.ByNumber.get_mut.Goals as goal

pub index_mut-requires : goal.index_mut-requires
index_mut-requires g c = omega (arith, within c.args.n c.self.inside.list.items c.in-Ok.i c.in-Ok.ensures)

pub invariant_of-self-lent : goal.invariant_of-self-lent
invariant_of-self-lent g c =
    let ss = c.self.inside.list.items in
    let here = within c.args.n ss c.in-Ok.i c.in-Ok.ensures in
    let item = c.index_mut.result.now in
    let old : slot_at ss c.in-Ok.i ≡ Some c.in-Some.value.now = sym (c.in-Some.ensures.value
    ∙ slot_is ss c.in-Ok.i item here c.index_mut.ensures.value) in
    λ w. rw (set-put ss c.in-Ok.i item (Some w) here c.index_mut.ensures.value) (
      rising-put ss c.in-Ok.i (Some w) c.self.invariant.0,
      omega (arith, length-put c.args.n ss c.in-Ok.i (Some w) c.in-Ok.ensures, ap one old, c.self.invariant.1),
      gaps-write ss c.self.inside.first c.in-Ok.i c.in-Some.value.now w old c.self.invariant.2,
    )

pub returns-in-Some : goal.returns-in-Some
returns-in-Some g c =
    let ss = c.self.inside.list.items in
    let here = within c.args.n ss c.in-Ok.i c.in-Ok.ensures in
    let item = c.index_mut.result.now in
    let old : slot_at ss c.in-Ok.i ≡ Some c.in-Some.value.now = sym (c.in-Some.ensures.value
    ∙ slot_is ss c.in-Ok.i item here c.index_mut.ensures.value) in
    let there : is_some (slot_at ss c.in-Ok.i) ≡ true = ap is_some old in
    let written = λ (w : g.row.V.Denot). ap present (set-put ss c.in-Ok.i item (Some w) here c.index_mut.ensures.value)
    ∙ set-found c.args.n ss c.in-Ok.i w c.in-Ok.ensures there in
    rw (← c.self.view_is) (
      (λ k. inl (c.in-Some.value.ghost_name, λ w. record { entries = written w k })),
      record {
        writes_back = tt;
        value = sym old ∙ sym (lookup-found c.args.n ss c.in-Ok.i c.in-Ok.ensures c.self.invariant.0);
        ordered = rising-present ss c.self.invariant.0;
      },
    )

pub returns-in-None : goal.returns-in-None
returns-in-None g c =
    let ss = c.self.inside.list.items in
    let here = within c.args.n ss c.in-Ok.i c.in-Ok.ensures in
    let item = c.index_mut.result.now in
    let same = ap (set ss c.in-Ok.i) c.index_mut.ensures.value ∙ set-get_or ss c.in-Ok.i item in
    rw (← c.self.view_is) (
      (λ k. inr (record { entries = present (same k) })),
      record {
        writes_back = tt;
        value = c.in-None.ensures.value ∙ slot_is ss c.in-Ok.i item here c.index_mut.ensures.value
            ∙ sym (lookup-found c.args.n ss c.in-Ok.i c.in-Ok.ensures c.self.invariant.0);
        ordered = rising-present ss c.self.invariant.0;
      },
    )

pub returns-in-Err : goal.returns-in-Err
returns-in-Err g c =
    let ss = c.self.inside.list.items in
    rw (← c.self.view_is) (
      refl,
      record {
        writes_back = tt;
        value = sym (lookup-absent c.args.n ss c.in-Err.field-0 c.in-Err.ensures);
        ordered = rising-present ss c.self.invariant.0;
      },
    )

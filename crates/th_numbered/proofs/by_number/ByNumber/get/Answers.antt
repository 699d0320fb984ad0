use Rattle.std.proofs.Common.{sym, ◌∙◌, arith}
use Rattle.th_numbered.proofs.Lemmas.{lookup-absent, lookup-found, slot_is, within}
use Rattle.th_numbered.proofs.by_number.ByNumber.get.Goals as goal

pub index-requires : goal.index-requires
index-requires g c = omega (arith, within c.args.n c.self.inside.list.items c.in-Ok.i c.in-Ok.ensures)

pub returns-in-Ok : goal.returns-in-Ok
returns-in-Ok g c =
    let ss = c.self.inside.list.items in
    let here = within c.args.n ss c.in-Ok.i c.in-Ok.ensures in
    rw (← c.self.view_is) (c.as_ref.ensures.value ∙ slot_is ss c.in-Ok.i c.index.result.now here c.index.ensures
    ∙ sym (lookup-found c.args.n ss c.in-Ok.i c.in-Ok.ensures c.self.invariant.0))

pub returns-in-Err : goal.returns-in-Err
returns-in-Err g c = rw (← c.self.view_is) (sym (lookup-absent c.args.n c.self.inside.list.items c.in-Err.field-0 c.in-Err.ensures))

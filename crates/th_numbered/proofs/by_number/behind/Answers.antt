use Rattle.std.proofs.Common.{◌≡◌, ◌+◌, suc, drop, sym, ap, ◌∙◌, arith}
use Rattle.th_numbered.specs.Slots.{present}
use Rattle.th_numbered.proofs.Lemmas.{above-absent, above-found, within}
use Rattle.th_numbered.proofs.by_number.behind.Goals as goal

pub overflow_add-result : goal.overflow_add-result
overflow_add-result g c = omega (arith, within c.in-Some.n c.args.list.now.items c.in-Ok.i c.in-Ok.ensures, c.args.list.now.small)

pub returns-in-Ok : goal.returns-in-Ok
returns-in-Ok g c =
    let ss = c.args.list.now.items in
    let one : c.in-Ok.i + 1 ≡ suc c.in-Ok.i = omega arith in
    rw c.in-Some.is (ap (λ k. present (drop k ss)) one ∙ sym (above-found c.in-Some.n ss c.in-Ok.i c.in-Ok.ensures c.requires))

pub returns-in-Err : goal.returns-in-Err
returns-in-Err g c = rw c.in-Some.is (sym (above-absent c.in-Some.n c.args.list.now.items c.in-Err.i c.in-Err.ensures))

use Rattle.std.proofs.Common.{arith}
use Rattle.th_numbered.proofs.Lemmas.{length-le, rising-present}
use Rattle.th_numbered.proofs.by_number.ByNumber.len.Goals as goal

pub returns-clause-small : goal.returns-clause-small
returns-clause-small g c = omega (arith, c.self.invariant.1, length-le c.self.inside.list.items, c.self.inside.list.small, c.len.ensures)

pub returns-clause-ordered : goal.returns-clause-ordered
returns-clause-ordered g c = rw (← c.self.view_is) (rising-present c.self.inside.list.items c.self.invariant.0)

use Rattle.std.proofs.Common.{refl}
use Rattle.th_numbered.proofs.Lemmas.{no_slots}
use Rattle.th_numbered.proofs.by_number.ByNumber.new.Goals as goal

pub invariant_of-result : goal.invariant_of-result
invariant_of-result g c = rw c.new.ensures.items (no_slots g.row.V.Denot, refl, refl)

use Rattle.std.proofs.Common.{◌≡◌, drop, slice_get}
use Rattle.th_numbered.specs.Slots.{present}
use Rattle.th_numbered.proofs.by_number.nth_entry.Given as goal

abbrev pub invariant-loop-left : goal.invariant-loop-left
invariant-loop-left g l = slice_get (present (drop l.i l.list.items)) l.left ≡ slice_get (present l.list.items) l.k

abbrev pub decreases-loop-left : goal.decreases-loop-left
decreases-loop-left g l = l.left

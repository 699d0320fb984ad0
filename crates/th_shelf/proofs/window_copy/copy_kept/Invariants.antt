use Rattle.std.proofs.Common.{◌≡◌, ◌-◌, take}
use Rattle.th_shelf.proofs.window_copy.copy_kept.Given as goal

abbrev pub invariant-loop-position : goal.invariant-loop-position
invariant-loop-position g l =
    let w = g.S.Shelf.window l.shelf in
    l.kept.items ≡ take (l.position - w.low) w.kept

use Rattle.std.proofs.Common.{◌≡◌, ◌-◌, ◌≤◌, Some, None, arith, rules}
use Rattle.std.specs.Prelude.{slice_get}
use Rattle.th_model.specs.Places.{place_of}
use Rattle.th_model.proofs.PlaceLemmas.{low_of-at}
use Rattle.th_shelf.proofs.Copying.{kept-at}
use Rattle.th_bcast.proofs.broadcast.Broadcast.foresee_receive.Goals as goal

pub returns-in-None : goal.returns-in-None
returns-in-None g c =
    let w = g.S.Shelf.window c.self.inside.shelf in
    let here : place_of w.places c.args.rx.0 ≡ Some c.in-Some.place = search rules in
    let low = low_of-at w.tail w.capacity w.places c.args.rx.0 c.in-Some.place here in
    let above : w.low ≤ c.in-Some.place =
    omega (
      arith,
      low,
      c.self.invariant.window.low,
      c.if-place-window.false,
      c.saturating_sub-window.ensures,
      c.tail-tail.ensures,
      c.capacity.ensures,
    ) in
    let none : slice_get w.kept (c.in-Some.place - w.low) ≡ None = kept-at w c.in-Some.place None above c.in-None.ensures in
    search rules

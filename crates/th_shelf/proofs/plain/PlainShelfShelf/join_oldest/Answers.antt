use Rattle.std.proofs.Common.{◌≡◌, None, arith}
use Rattle.th_model.specs.Places.{place_of}
use Rattle.th_shelf.proofs.Trimming.{joined_trim, joined_window}
use Rattle.th_shelf.proofs.plain.PlainShelfShelf.join_oldest.Goals as goal

pub invariant_of-self-2 : goal.invariant_of-self-2
invariant_of-self-2 g c =
    let free : place_of c.self.inside.places.entries c.args.rx.0 ≡ None = rw (← c.self.view_is) at c.requires in
    let low = c.first_position-low.ensures in
    rw (c.in-Ok.ensures.ok, low) (joined_trim _ _ _ _ c.self.invariant c.args.rx.0 _ free (omega arith) (omega arith))

pub returns-clause-ok : goal.returns-clause-ok
returns-clause-ok g c =
    let free : place_of c.self.inside.places.entries c.args.rx.0 ≡ None = rw (← c.self.view_is) at c.requires in
    let low = c.first_position-low.ensures in
    rw (← c.self.view_is, c.in-Ok.ensures.ok, low) (joined_window _ _ _ _ c.self.invariant c.args.rx.0 _ free (omega arith) (omega arith))

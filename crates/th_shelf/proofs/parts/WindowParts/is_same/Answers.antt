use Rattle.th_shelf.proofs.Same.{same_window}
use Rattle.th_shelf.proofs.parts.WindowParts.is_same.Goals as goal

pub returns : goal.returns
returns g c =
    let a = c.self.inside in
    let b = c.other.inside in
    rw (← c.self.view_is, ← c.other.view_is)
    (same_window g.T.PartialEq.eq c.requires a.capacity b.capacity a.tail b.tail a.kept.items b.kept.items a.places.entries
    b.places.entries c.eq-places.result c.eq-kept.result c.eq-places.ensures c.eq-kept.ensures)

use Rattle.th_watch.proofs.Same.{same_picture}
use Rattle.th_watch.proofs.parts.PictureParts.is_same.Goals as goal

pub returns : goal.returns
returns g c =
    let a = c.self.inside in
    let b = c.other.inside in
    rw (← c.self.view_is, ← c.other.view_is)
    (same_picture g.T.PartialEq.eq c.requires a.version b.version a.next b.next a.senders.keys b.senders.keys a.readers.entries
    b.readers.entries a.last b.last c.eq-senders.result c.eq-readers.result c.eq-last.result c.eq-senders.ensures c.eq-readers.ensures
    c.eq-last.ensures)

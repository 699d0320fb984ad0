use Rattle.std.proofs.Common.{ap, ◌∙◌}
use Rattle.th_model.specs.WatchMachine.{Kept}
use Rattle.std.specs.Prelude.{Bool}
use Rattle.th_watch.specs.Held.{shown_picture}
use Rattle.th_watch.proofs.Rebuilt.{held_marks, shown_marks}
use Rattle.th_watch.proofs.watch.Watch.from_parts.Goals as goal

pub from_picture-requires : goal.from_picture-requires
from_picture-requires g c =
    let a = c.parts.inside in
    held_marks a.version a.last a.readers.entries a.senders.keys a.next c.in-Ok.marks.entries c.parts.invariant c.in-Ok.ensures

pub returns-clause-ok : goal.returns-clause-ok
returns-clause-ok g c =
    let a = c.parts.inside in
    c.from_picture.ensures
    ∙ (ap (λ (rs : Kept Bool). shown_picture a.version a.last rs a.senders.keys a.next)
    (shown_marks a.version a.readers.entries c.in-Ok.marks.entries c.parts.invariant.first c.in-Ok.ensures)
    ∙ c.parts.view_is)

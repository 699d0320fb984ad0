use Rattle.th_watch.proofs.HeldLemmas.{held_sound}
use Rattle.th_watch.proofs.watch.Watch.next_number.Goals as goal

pub returns-clause-sound : goal.returns-clause-sound
returns-clause-sound g c = rw (← c.self.view_is) (held_sound c.self.invariant c.self.inside.last)

use Rattle.th_watch.proofs.HeldLemmas.{held_sound}
use Rattle.th_watch.proofs.watch.Watch.picture.Goals as goal

pub new-requires : goal.new-requires
new-requires g c = rw (c.in-Ok.ensures, c.in-Ok-copy_numbers.ensures) (held_sound c.self.invariant c.in-Ok-clone.last)

use Rattle.std.proofs.Common.{◌≡◌, ◌++◌, map}
use Rattle.th_model.specs.WatchPicture.{mark_at}
use Rattle.th_watch.proofs.watch.picture.marks_of.Given as goal

abbrev pub invariant-loop-rx : goal.invariant-loop-rx
invariant-loop-rx l = l.marks.entries ++ map (mark_at l.version) l.rx-iterator ≡ map (mark_at l.version) l.fn.readers.entries

use Rattle.std.proofs.Common.{◌≡◌, ◌++◌, map}
use Rattle.th_model.specs.WatchPicture.{shown}
use Rattle.th_watch.proofs.watch.picture.readers_of.Given as goal

abbrev pub invariant-loop-rx : goal.invariant-loop-rx
invariant-loop-rx l = l.readers.entries ++ map (shown l.version) l.rx-iterator ≡ map (shown l.version) l.fn.marks.entries

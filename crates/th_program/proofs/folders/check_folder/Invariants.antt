use Rattle.std.proofs.Common.{◌-◌, length}
use Rattle.th_program.specs.Files.{EndsFolder, wanted_of}
use Rattle.th_program.proofs.folders.check_folder.Given as goal

-- the topics up to here were checked
abbrev pub invariant-loop-at : goal.invariant-loop-at
invariant-loop-at g l = EndsFolder (g.O.Opens.holds l.files) (wanted_of l.wanted) (g.W.Write.contents l.fn.output.device)
    (g.W.Write.contents l.output.device) l.end

abbrev pub decreases-loop-at : goal.decreases-loop-at
decreases-loop-at g l = length l.parts - l.at

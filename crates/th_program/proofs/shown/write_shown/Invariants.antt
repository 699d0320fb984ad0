use Rattle.std.proofs.Common.{◌≡◌, ◌-◌, length}
use Rattle.th_program.proofs.Showing.{IsShownTo}
use Rattle.th_program.proofs.shown.write_shown.Given as goal

-- the name is written up to here
abbrev pub invariant-loop-at : goal.invariant-loop-at
invariant-loop-at g l = record {
  to : IsShownTo l.name (g.W.Write.contents l.fn.writer.device) (g.W.Write.contents l.writer.device) l.at;
  same : l.writer.failures ≡ l.fn.writer.failures;
}

abbrev pub decreases-loop-at : goal.decreases-loop-at
decreases-loop-at g l = length l.name - l.at

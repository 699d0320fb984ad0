use Rattle.std.proofs.Common.{◌≡◌, ◌+◌, ◌-◌, ◌≤◌, length, take}
use Rattle.std.specs.Io.KnownBytes.{Appends}
use Rattle.th_program.proofs.program.write_text.Given as goal

-- the front of the text up to here is written
abbrev pub invariant-loop-at : goal.invariant-loop-at
invariant-loop-at g l = record {
  within : l.at ≤ length l.text;
  wrote : Appends (g.W.Write.contents l.fn.writer.device) (g.W.Write.contents l.writer.device)
      (take l.at l.text);
  same : l.writer.failures ≡ l.fn.writer.failures;
}

abbrev pub decreases-loop-at : goal.decreases-loop-at
decreases-loop-at g l = (length l.text - l.at) + l.retries

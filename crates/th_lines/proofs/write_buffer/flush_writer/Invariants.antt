use Rattle.std.proofs.Common.{◌≡◌, ◌+◌, cond}
use Rattle.std.specs.Io.KnownBytes.{Keeps}
use Rattle.th_lines.proofs.write_buffer.flush_writer.Given as goal

abbrev pub invariant-loop-flushed : goal.invariant-loop-flushed
invariant-loop-flushed g l = record {
  kept : Keeps (g.W.Write.contents l.fn.writer.device) (g.W.Write.contents l.writer.device);
  same : l.writer.failures ≡ l.fn.writer.failures;
}

abbrev pub decreases-loop-flushed : goal.decreases-loop-flushed
decreases-loop-flushed g l = cond l.flushed 0 1 + l.retries

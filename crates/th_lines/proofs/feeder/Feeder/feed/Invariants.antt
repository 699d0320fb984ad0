use Rattle.std.proofs.Common.{◌≡◌, ◌+◌, ◌≤◌, []}
use Rattle.th_lines.specs.Device.{kept_count}
use Rattle.th_lines.specs.Feeding.{Underway}
use Rattle.th_lines.proofs.feeder.Feeder.feed.Given as goal

abbrev pub invariant-loop-made : goal.invariant-loop-made
invariant-loop-made g l = record {
  under : g.T.TakesLines.took (l.fn.taker, l.fn.desk, l.fn.writer) [] (l.fn.taker, l.fn.desk, l.fn.writer)
      → Underway g.T.TakesLines.took g.T.TakesLines.halts (g.R.Read.remaining l.fn.reader.device) (g.R.Read.remaining l.reader.device)
      (l.fn.taker, l.fn.desk, l.fn.writer) l.made l.self (l.taker, l.desk, l.writer);
  looked_at : l.self.came.ahead ≡ [];
  limit : l.self.limit ≡ l.fn.self.limit;
  calls : kept_count l.reader.calls ≡ kept_count (l.fn.reader.calls + l.made);
  reads : l.reader.calls ≤ l.fn.reader.calls + l.made;
  failures : l.reader.failures ≡ l.fn.reader.failures;
}

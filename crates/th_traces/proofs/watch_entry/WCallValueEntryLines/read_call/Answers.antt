use Rattle.std.proofs.Common.{rules}
use Rattle.th_traces.specs.Tables.{by_table}
use Rattle.th_traces.specs.WatchWords.{call_of, calls}
use Rattle.th_traces.proofs.Fronts.{behind-missing}
use Rattle.th_traces.proofs.watch_entry.WCallValueEntryLines.read_call.Goals as goal

pub returns-in_default : goal.returns-in_default
unfolding call_of
returns-in_default c = behind-missing (by_table calls) c.args.line.now (search rules)

use Rattle.std.proofs.Common.{ap, rules, Option}
use Rattle.th_model.specs.declared.broadcast.BCall.{BCall}
use Rattle.th_traces.specs.BroadcastWords.{call_of, calls, if_had}
use Rattle.th_traces.specs.Spelled.{Bytes}
use Rattle.th_traces.specs.Tables.{by_table}
use Rattle.th_traces.proofs.Fronts.{behind-missing}
use Rattle.th_traces.proofs.broadcast_entry.BCallValueEntryLines.read_call.Goals as goal

pub returns-in_default : goal.returns-in_default
unfolding call_of
returns-in_default c =
    ap (λ (o : Option (BCall Bytes)). if_had c.args.form o) (behind-missing (by_table calls) c.args.line.now (search rules))

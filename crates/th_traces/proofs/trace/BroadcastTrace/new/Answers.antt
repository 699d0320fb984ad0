use Rattle.std.proofs.Common.{◌≡◌, rules}
use Rattle.th_traces.specs.BroadcastWords.{grammar}
use Rattle.th_traces.specs.Grammars.{fields}
use Rattle.th_traces.specs.Pieces.{broadcast_pieces}
use Rattle.th_traces.specs.Traces.{broadcast_told}
use Rattle.th_traces.proofs.Pieces.{trace-text}
use Rattle.th_traces.proofs.trace.BroadcastTrace.new.Goals as goal

pub returns-clause-text : goal.returns-clause-text
returns-clause-text g c =
    let s = c.args.segment.now in
    let pieces : c.of.result ≡ broadcast_pieces s.start s.entries = search rules in
    rw pieces (trace-text (broadcast_told s.start s.entries) (fields grammar s.entries))

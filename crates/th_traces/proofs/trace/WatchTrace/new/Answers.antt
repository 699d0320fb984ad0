use Rattle.std.proofs.Common.{◌≡◌, rules}
use Rattle.th_traces.specs.Grammars.{fields}
use Rattle.th_traces.specs.Pieces.{watch_pieces}
use Rattle.th_traces.specs.Watch.{told}
use Rattle.th_traces.specs.WatchWords.{grammar}
use Rattle.th_traces.proofs.Pieces.{trace-text}
use Rattle.th_traces.proofs.trace.WatchTrace.new.Goals as goal

pub returns-clause-text : goal.returns-clause-text
returns-clause-text c =
    let s = c.args.segment.now in
    let pieces : c.of.result ≡ watch_pieces s.start s.entries = search rules in
    rw pieces (trace-text (told s.start) (fields grammar s.entries))

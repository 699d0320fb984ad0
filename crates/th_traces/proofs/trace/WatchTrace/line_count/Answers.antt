use Rattle.std.proofs.Common.{◌≡◌, ◌+◌, ◌*◌, arith, length, rules}
use Rattle.std.proofs.lemmas.List.{length-map}
use Rattle.th_traces.specs.Grammars.{fields}
use Rattle.th_traces.specs.Spelled.{picture_lines, trace_lines}
use Rattle.th_traces.specs.Watch.{told}
use Rattle.th_traces.specs.WatchWords.{grammar}
use Rattle.th_traces.proofs.Pieces.{length-trace_lines}
use Rattle.th_traces.proofs.trace.WatchTrace.line_count.Goals as goal

pub returns : goal.returns
returns c =
    let s = c.args.segment.now in
    let entries : c.entries.result.now ≡ s.entries = search rules in
    let picture : c.count.result ≡ length (picture_lines (told s.start)) = search rules in
    let lines = length-trace_lines (told s.start) (fields grammar s.entries) (length s.entries) (length-map s.entries _) in
    let sum : c.count.result + 2 * length s.entries + 1 ≡ length (trace_lines (told s.start) (fields grammar s.entries)) = omega
    (arith, picture, lines) in
    rw entries sum

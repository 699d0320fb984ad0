use Rattle.std.proofs.Common.{◌≡◌, ◌+◌, ◌*◌, arith, length, map, rules}
use Rattle.std.proofs.lemmas.List.{length-map}
use Rattle.th_traces.specs.BroadcastWords.{grammar}
use Rattle.th_traces.specs.Grammars.{fields}
use Rattle.th_traces.specs.Spelled.{picture_lines, trace_lines}
use Rattle.th_traces.specs.Traces.{broadcast_told}
use Rattle.th_traces.specs.Versions.{version_of}
use Rattle.th_traces.proofs.Pieces.{length-trace_lines}
use Rattle.th_traces.proofs.trace.BroadcastTrace.line_count.Goals as goal

pub returns : goal.returns
returns g c =
    let s = c.args.segment.now in
    let told = broadcast_told s.start s.entries in
    let start : c.start.result.now ≡ s.start = search rules in
    let entries : c.entries.result.now ≡ s.entries = search rules in
    let picture : c.count.result ≡ length (picture_lines told) = rw start at c.count.ensures.count (version_of (map (λ e. e.0) s.entries))
    in
    let lines = length-trace_lines told (fields grammar s.entries) (length s.entries) (length-map s.entries _) in
    let sum : c.count.result + 2 * length s.entries + 1 ≡ length (trace_lines told (fields grammar s.entries)) = omega
    (arith, picture, lines) in
    rw entries sum

use Rattle.std.proofs.Common.{subst, sym}
use Rattle.std.specs.Prelude.{ℕ, List}
use Rattle.th_lines.specs.Output.{AddsOrFails, output}
use Rattle.th_registry.specs.History.{ChannelSegment}
use Rattle.th_traces.specs.Spelled.{text}
use Rattle.th_session.specs.Answer.{trace_lines}
use Rattle.th_session.proofs.trace.append_trace_lines.Goals as goal

pub returns-in-Watch : goal.returns-in-Watch
returns-in-Watch g c =
    let contents = g.W.Write.contents in
    let put = c.append_lines-in-Watch in
    let before = output contents c.args.writer.now c.args.out.now in
    let after = output contents put.new.writer put.new.self in
    subst (λ (s : ChannelSegment). AddsOrFails (text (trace_lines s)) before after put.result) (sym c.in-Watch.is)
    (subst (λ (t : List ℕ). AddsOrFails t before after put.result) c.new-in-Watch.ensures.text put.ensures)

use Rattle.std.proofs.Common.{refl, take}
use Rattle.th_lines.specs.Output.{Output, output}
use Rattle.th_lines.proofs.OutputLemmas.{flushed}
use Rattle.th_lines.proofs.write_buffer.flush_waiting.Goals as goal

pub returns-in-Ok-clause-wrote : goal.returns-in-Ok-clause-wrote
returns-in-Ok-clause-wrote g c =
    let contents = g.W.Write.contents in
    let waits = take c.write_waiting.new.filled c.args.bytes.now in
    let old : Output = output contents c.args.writer.now (take c.args.filled.now c.args.bytes.now) in
    let now : Output = output contents c.write_waiting.new.writer waits in
    let new : Output = output contents c.flush_writer.new.writer waits in
    flushed old now new c.flush_writer.result c.in-Ok.ensures.wrote.0 c.in-Ok.ensures.wrote.1 refl c.flush_writer.ensures

use Rattle.std.proofs.Common.{ℕ, List, ◌++◌, subst, take}
use Rattle.th_lines.specs.Output.{Output, WritesFront, output}
use Rattle.th_lines.specs.Replies.{ended, row}
use Rattle.th_lines.proofs.OutputLemmas.{front_all}
use Rattle.th_lines.proofs.write_buffer.WriteBuffer.append_row.Goals as goal

pub returns-in-Err : goal.returns-in-Err
returns-in-Err g c =
    let contents = g.W.Write.contents in
    let line : List ℕ = ended (row c.args.topic.now) in
    let old : Output = output contents c.args.writer.now (take c.self.inside.filled c.self.inside.bytes.items) in
    let now : Output = output contents c.make_room.new.writer (take c.make_room.new.filled c.make_room.new.bytes.items) in
    subst (λ (w : List ℕ). WritesFront (w ++ line) (output contents c.args.writer.now w) now) c.self.view_is
    (front_all old now line c.in-Err.ensures.added)

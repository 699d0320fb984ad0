use Rattle.std.proofs.Common.{map, take}
use Rattle.std.specs.List.{concat}
use Rattle.th_lines.specs.Replies.{ended, row}
use Rattle.th_lines.specs.Output.{Adds, output}
use Rattle.th_lines.proofs.write_buffer.WriteBuffer.append_rows.Given as goal

abbrev pub invariant-loop-topic : goal.invariant-loop-topic
invariant-loop-topic g l = Adds (concat (take l.topic-index (map ended (map row l.topics))))
    (output g.W.Write.contents l.fn.writer l.fn.self) (output g.W.Write.contents l.writer l.self)

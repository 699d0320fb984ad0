use Rattle.std.proofs.Common.{◌≡◌, ◌≤◌, ◌++◌, ℕ, List, length, take, vec_capacity, vec_len}
use Rattle.std.specs.List.{concat}
use Rattle.th_lines.specs.Output.{Adds, output}
use Rattle.th_lines.proofs.write_buffer.append_pieces.Given as goal

abbrev pub invariant-loop-e : goal.invariant-loop-e
invariant-loop-e g l = record {
  so_far : (text : List ℕ) × (concat (g.L.Lines.to_come l.fn.lines) ≡ text ++ concat (g.L.Lines.to_come l.lines))
      × Adds text (output g.W.Write.contents l.fn.writer (take l.fn.filled l.fn.bytes.items))
      (output g.W.Write.contents l.writer (take l.filled l.bytes.items));
  within : l.filled ≤ vec_len l.bytes;
  room : 4096 ≤ vec_capacity l.bytes;
}

abbrev pub decreases-loop-e : goal.decreases-loop-e
decreases-loop-e g l = length (g.L.Lines.to_come l.lines)

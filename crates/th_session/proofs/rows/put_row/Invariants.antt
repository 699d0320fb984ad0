use Rattle.std.proofs.Common.{◌≡◌, map, take}
use Rattle.std.specs.List.{concat}
use Rattle.th_lines.specs.Output.{Adds, output}
use Rattle.th_session.specs.Rows.{told_by}
use Rattle.th_session.proofs.rows.put_row.Given as goal

abbrev pub invariant-loop-entry : goal.invariant-loop-entry
invariant-loop-entry g l = record {
  desk : l.desk ≡ l.fn.desk;
  gate : l.replies.gate ≡ l.fn.replies.gate;
  told : Adds (concat (take l.entry-index (map (λ r. told_by r.1) l.last)))
      (output g.W.Write.contents l.fn.writer l.fn.replies.text) (output g.W.Write.contents l.writer l.replies.text);
}

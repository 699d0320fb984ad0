use Rattle.std.proofs.Common.{◌≡◌, []}
use Rattle.th_lines.specs.Output.{Adds, output}
use Rattle.th_session.proofs.replies.Replies.enter.Given as goal

abbrev pub invariant-loop : goal.invariant-loop
invariant-loop g l = record {
  desk : l.desk ≡ l.fn.desk;
  gate : l.self.gate ≡ l.fn.self.gate;
  said : Adds [] (output g.W.Write.contents l.fn.writer l.fn.self.text) (output g.W.Write.contents l.writer l.self.text);
}

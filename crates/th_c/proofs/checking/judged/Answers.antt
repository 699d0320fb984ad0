use Rattle.th_c.proofs.Judging.{so_of_text}
use Rattle.th_c.proofs.checking.judged.Goals as goal

-- src/checking.rt
pub returns-in-Ok : goal.returns-in-Ok
returns-in-Ok c = so_of_text c.args.text.now _ c.in-Ok.verdict (rw c.new-reader.ensures at c.in-Ok.ensures.verdict)

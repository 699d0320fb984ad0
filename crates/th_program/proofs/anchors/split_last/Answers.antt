use Rattle.std.proofs.Common.{rules}
use Rattle.th_program.proofs.Anchoring.{word_alone, word_at}
use Rattle.th_program.proofs.anchors.split_last.Goals as goal

pub returns-in-Some : goal.returns-in-Some
returns-in-Some c = word_at c.args.line.now c.in-Some.blank (search rules) (search rules) (search rules)

pub returns-in-None : goal.returns-in-None
returns-in-None c = word_alone c.args.line.now (search rules)

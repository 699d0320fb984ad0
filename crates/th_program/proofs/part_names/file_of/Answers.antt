use Rattle.std.proofs.Common.{rules}
use Rattle.th_program.proofs.PartNames.{file_alone, file_at}
use Rattle.th_program.proofs.part_names.file_of.Goals as goal

pub returns-in-Some : goal.returns-in-Some
returns-in-Some c = file_at c.args.path.now c.in-Some.slash (search rules) (search rules) (search rules)

pub returns-in-None : goal.returns-in-None
returns-in-None c = file_alone c.args.path.now (search rules)

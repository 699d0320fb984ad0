use Rattle.th_program.proofs.CommandLine.{adds_local, adds_rule}
use Rattle.th_program.proofs.words.with_arg.Goals as goal

pub returns-clause-app : goal.returns-clause-app
returns-clause-app c = adds_rule c.args.command c.args.arg c.arg.result c.arg.ensures c.requires

pub returns-clause-local : goal.returns-clause-local
returns-clause-local c = adds_local c.args.command c.args.arg c.arg.result c.arg.ensures c.requires

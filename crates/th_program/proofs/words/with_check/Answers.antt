use Rattle.th_program.proofs.CommandLine.{adds_app}
use Rattle.th_program.specs.Words.{check_line}
use Rattle.th_program.proofs.words.with_check.Goals as goal

pub returns-in-Ok : goal.returns-in-Ok
returns-in-Ok c = adds_app c.args.program c.in-Ok.check check_line c.subcommand.result
    c.subcommand.ensures c.in-Ok.ensures.local c.in-Ok.ensures.app

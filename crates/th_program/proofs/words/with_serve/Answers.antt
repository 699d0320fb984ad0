use Rattle.th_program.proofs.CommandLine.{adds_app}
use Rattle.th_program.specs.Words.{serve_line}
use Rattle.th_program.proofs.words.with_serve.Goals as goal

pub returns-in-Ok : goal.returns-in-Ok
returns-in-Ok c = adds_app c.args.program c.in-Ok.serve serve_line c.subcommand.result
    c.subcommand.ensures c.in-Ok.ensures.local c.in-Ok.ensures.app

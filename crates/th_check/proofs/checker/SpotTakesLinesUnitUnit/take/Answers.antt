use Rattle.th_lines.specs.Intake.{line_given}
use Rattle.th_check.proofs.Running.{takes_on}
use Rattle.th_check.proofs.checker.SpotTakesLinesUnitUnit.take.Goals as goal

pub returns : goal.returns
returns c = takes_on c.args._taken (c.args.self.now, tt, tt) (c.take_line.new.spot, tt, tt) (line_given c.args.line)
    c.take_line.result c.take_line.ensures

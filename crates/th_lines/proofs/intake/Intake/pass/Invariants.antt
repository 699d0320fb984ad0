use Rattle.th_lines.specs.Intake.{Passes}
use Rattle.th_lines.proofs.intake.Intake.pass.Given as goal

abbrev pub invariant-loop-passed : goal.invariant-loop-passed
invariant-loop-passed l = Passes l.passed l.fn.self.came l.self.came

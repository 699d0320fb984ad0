use Rattle.std.proofs.Common.{◌<◌, length, false, [], arith}
use Rattle.th_lines.specs.Intake.{lines_after}
use Rattle.th_lines.proofs.FeedingLemmas.{passes_on}
use Rattle.th_lines.proofs.intake.Intake.pass.Goals as goal

pub loop-passed-preserved : goal.loop-passed-preserved
loop-passed-preserved c =
    let there : c.loop-passed.passed < length (lines_after false c.args.self.now.came []) = omega arith in
    passes_on c.loop-passed.passed c.args.self.now.came c.loop-passed.self.came c.loop-passed.invariant there c.next_line.new.self
    c.next_line.result c.next_line.ensures

use Rattle.std.proofs.Common.{subst}
use Rattle.th_lines.specs.Feeding.{Takes}
use Rattle.th_lines.specs.Intake.{line_given}
use Rattle.th_replay.specs.Progress.{Progress, IsBroken, Took}
use Rattle.th_replay.proofs.Endings.{takes_on}
use Rattle.th_replay.proofs.runner.RunnerTakesLinesUnitCounted.take.Goals as goal

pub returns : goal.returns
returns g c =
    let i = c.self.inside in
    let old : Progress = record { hub = i.hub; waiting = i.out } in
    let new : Progress = record { hub = c.answer.new.self; waiting = c.answer.new.out } in
    let line = line_given c.args.line in
    let a = c.answer.ensures in
    subst (λ (k : Progress). Takes (Took g.W.Write.contents) (IsBroken g.W.Write.contents) c.args._taken line
    (k, c.args._desk.now, c.args.writer.now) c.answer.result (new, c.args._desk.now, c.answer.new.writer)) c.self.view_is
    (takes_on g.W.Write.contents c.args._taken line (old, c.args._desk.now, c.args.writer.now) (new, c.args._desk.now, c.answer.new.writer) a.0
    c.answer.result a.1 a.2)

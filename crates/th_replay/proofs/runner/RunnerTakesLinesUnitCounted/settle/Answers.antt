use Rattle.std.proofs.Common.{◌≡◌, [], refl, subst}
use Rattle.th_lines.specs.Feeding.{Settles}
use Rattle.th_replay.specs.Progress.{Progress, IsBroken, Took}
use Rattle.th_replay.proofs.Endings.{settles_on}
use Rattle.th_replay.proofs.runner.RunnerTakesLinesUnitCounted.settle.Goals as goal

pub returns : goal.returns
returns g c =
    let i = c.self.inside in
    let old : Progress = record { hub = i.hub; waiting = i.out } in
    let new : Progress = record { hub = i.hub; waiting = c.flush.new.self } in
    subst (λ (k : Progress). Settles (Took g.W.Write.contents) (IsBroken g.W.Write.contents) (λ p. p.0.waiting ≡ [])
    (k, c.args._desk.now, c.args.writer.now) c.flush.result
    (new, c.args._desk.now, c.flush.new.writer)) c.self.view_is
    (settles_on g.W.Write.contents (old, c.args._desk.now, c.args.writer.now) (new, c.args._desk.now, c.flush.new.writer) c.flush.result
    refl c.flush.ensures)

use Rattle.std.proofs.Common.{◌≡◌, ◌∷◌, [], true, length, arith}
use Rattle.th_lines.specs.Lines.{line_of}
use Rattle.th_lines.proofs.FeedingLemmas.{are_there, passed_one, passed_row, then_one}
use Rattle.th_lines.proofs.feeder.Feeder.take_lines.Goals as goal

pub pass-requires-clause-there : goal.pass-requires-clause-there
pass-requires-clause-there g c =
    are_there c.args.self.now c.row-count.result.count c.row-count.ensures.row c.requires.line c.row-count.ensures.is

pub returns-then-count-gt0 : goal.returns-then-count-gt0
returns-then-count-gt0 g c = record {
  row = c.row-count.ensures.row;
  passed = passed_row c.args.self.now c.pass.new.self c.row-count.result.count c.row-count.ensures.row c.requires.line
      c.if-count-gt0.true c.row-count.ensures.is c.pass.ensures.passes c.pass.ensures.same;
  takes = c.row-count.ensures.takes;
}

pub returns-in-Ok : goal.returns-in-Ok
returns-in-Ok g c =
    let none : length c.row-count.ensures.row ≡ 0 = omega (arith, c.row-count.ensures.is.counted, c.if-count-gt0.false) in
    record {
      row = line_of true c.args.self.now.line ∷ [];
      passed = passed_one c.args.self.now c.take_line.new.self c.take_line.ensures.same;
      takes = then_one g.T.TakesLines.took g.T.TakesLines.halts c.args.self.now.taken c.row-count.ensures.row none
          (line_of true c.args.self.now.line) _ _ c.row-count.result.end _ c.in-Ok.is c.row-count.ensures.takes
          c.take_line.result _ c.take_line.ensures.took;
    }

use Rattle.std.proofs.Common.{◌≡◌, ◌∙◌, ap}
use Rattle.th_lines.specs.Feeding.{Feeding}
use Rattle.th_lines.proofs.FeedingLemmas.{halts_at, takes_on}
use Rattle.th_lines.proofs.feeder.Feeder.take_all.Goals as goal

pub loop-alloc-preserved : goal.loop-alloc-preserved
loop-alloc-preserved g c = record {
  under = λ reader reader' reads from under.
      takes_on (c.loop-alloc.invariant.under reader reader' reads from under) c.hand_out.new.self c.take_lines.new.self
      c.if-not-hand_out.ensures c.in-Ok.ensures.row c.in-Ok.ensures.passed
      (c.take_lines.new.taker, c.take_lines.new.desk, c.take_lines.new.writer) c.in-Ok.ensures.takes;
  limit = ap (λ (f : Feeding). f.limit) c.in-Ok.ensures.passed.same ∙ ap (λ (f : Feeding). f.limit) c.if-not-hand_out.ensures.2
      ∙ c.loop-alloc.invariant.limit;
}

pub returns-in-Err-clause-all : goal.returns-in-Err-clause-all
returns-in-Err-clause-all g c = λ reader reader' reads from under.
    halts_at (c.loop-alloc.invariant.under reader reader' reads from under) c.hand_out.new.self c.take_lines.new.self
    c.if-not-hand_out.ensures c.in-Err.ensures.row c.in-Err.ensures.passed
    c.in-Err.why (c.take_lines.new.taker, c.take_lines.new.desk, c.take_lines.new.writer) c.in-Err.ensures.takes

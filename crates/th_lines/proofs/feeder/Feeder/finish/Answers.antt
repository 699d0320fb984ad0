use Rattle.std.proofs.Common.{refl}
use Rattle.th_lines.proofs.FeedingLemmas.{finishes, finishes_at, halts_last}
use Rattle.th_lines.proofs.feeder.Feeder.finish.Goals as goal

pub returns-then-not-end-clause-finished : goal.returns-then-not-end-clause-finished
returns-then-not-end-clause-finished g c = λ reader reader' reads from end under.
    finishes under c.requires end c.end.ensures.within c.end.new.self c.end.ensures.same c.if-not-end.ensures.ends

pub returns-in-Ok-clause-finished : goal.returns-in-Ok-clause-finished
returns-in-Ok-clause-finished g c = λ reader reader' reads from end under.
    finishes_at under c.requires end c.end.ensures.within c.end.new.self c.end.ensures.same c.if-not-end.ensures.ends
    (c.if-not-end.ensures.room refl)
    c.take_line.new.self c.in-Ok.ensures.same (c.take_line.new.taker, c.take_line.new.desk, c.take_line.new.writer) c.in-Ok.ensures.took

pub returns-in-Err-clause-finished : goal.returns-in-Err-clause-finished
returns-in-Err-clause-finished g c = λ reader reader' reads from end under.
    halts_last under c.requires end c.end.ensures.within c.end.new.self c.end.ensures.same c.if-not-end.ensures.ends
    (c.if-not-end.ensures.room refl)
    c.take_line.new.self c.in-Err.ensures.same c.in-Err.why (c.take_line.new.taker, c.take_line.new.desk, c.take_line.new.writer)
    c.in-Err.ensures.took

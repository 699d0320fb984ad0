use Rattle.std.proofs.Common.{◌+◌}
use Rattle.th_lines.proofs.FeedingLemmas.{fills_on, halts_here, settles}
use Rattle.th_lines.proofs.feeder.Feeder.read_on.Goals as goal

pub returns-in-Err-clause-read : goal.returns-in-Err-clause-read
returns-in-Err-clause-read g c = λ first reads from under. halts_here under c.in-Err.why
    (c.settle.new.self, c.settle.new.desk, c.settle.new.writer) c.in-Err.ensures

pub returns-in-Bytes-eq0-clause-read : goal.returns-in-Bytes-eq0-clause-read
returns-in-Bytes-eq0-clause-read g c = λ first reads from under.
    let u = settles under (c.settle.new.self, c.settle.new.desk, c.settle.new.writer) c.in-Ok.ensures.0 in
    c.finish.ensures.finished first _ (reads + 1) from (c.in-Bytes-eq0.ensures.filled.3 c.in-Bytes-eq0.field-0-test)
    (fills_on u _ c.fill.new.self c.fill.ensures.same c.requires c.fill.ensures.most c.fill.result c.fill.ensures.filled)

pub returns-in-Bytes-clause-read : goal.returns-in-Bytes-clause-read
returns-in-Bytes-clause-read g c = λ first reads from under.
    let u = settles under (c.settle.new.self, c.settle.new.desk, c.settle.new.writer) c.in-Ok.ensures.0 in
    c.take_all.ensures.all first _ (reads + 1) from
    (fills_on u _ c.fill.new.self c.fill.ensures.same c.requires c.fill.ensures.most c.fill.result c.fill.ensures.filled)

pub returns-in-Again-clause-read : goal.returns-in-Again-clause-read
returns-in-Again-clause-read g c = λ first reads from under.
    let u = settles under (c.settle.new.self, c.settle.new.desk, c.settle.new.writer) c.in-Ok.ensures.0 in
    fills_on u _ c.fill.new.self c.fill.ensures.same c.requires c.fill.ensures.most c.fill.result c.fill.ensures.filled

pub returns-in-Failed-clause-read : goal.returns-in-Failed-clause-read
returns-in-Failed-clause-read g c = λ first reads from under.
    let u = settles under (c.settle.new.self, c.settle.new.desk, c.settle.new.writer) c.in-Ok.ensures.0 in
    let on = fills_on u _ c.fill.new.self c.fill.ensures.same c.requires c.fill.ensures.most c.fill.result c.fill.ensures.filled in
    (on, c.in-Failed.ensures.filled.1, c.in-Ok.ensures.1)

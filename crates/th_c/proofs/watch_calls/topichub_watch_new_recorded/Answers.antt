use Rattle.std.proofs.Common.{sym, ◌∙◌}
use Rattle.th_c.specs.Making.{OpensRecordedWatch}
use Rattle.th_c.proofs.Filling.{filled}
use Rattle.th_c.proofs.watch_calls.topichub_watch_new_recorded.Goals as goal

-- src/watch_calls.rt
pub returns : goal.returns
returns c =
    let closed = sym c.is_open.ensures.open ∙ c.if-is_open.false in
    let after = c.fill.new.handle.value in
    let opens = OpensRecordedWatch c.args.value c.args.version c.args.limit in
    filled (λ b. b.value) (λ came. opens came) c.args.channel.now.value c.recorded_watch.result c.fill.result after closed
    c.recorded_watch.ensures c.fill.ensures

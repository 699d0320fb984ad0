use Rattle.std.proofs.Common.{sym, ◌∙◌}
use Rattle.th_c.specs.Making.{OpensWatchOfBytes}
use Rattle.th_c.proofs.Filling.{filled}
use Rattle.th_c.proofs.watch_bytes.topichub_watch_new_of_bytes.Goals as goal

-- src/watch_bytes.rt
pub returns : goal.returns
returns c =
    let closed = sym c.is_open.ensures.open ∙ c.if-is_open.false in
    let after = c.fill.new.handle.value in
    let opens = OpensWatchOfBytes c.args.bytes.now c.args.version in
    filled (λ b. b.value) (λ came. opens came) c.args.channel.now.value c.watch_of_bytes.result c.fill.result after closed
    c.watch_of_bytes.ensures c.fill.ensures

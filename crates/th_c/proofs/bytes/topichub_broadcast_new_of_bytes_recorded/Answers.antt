use Rattle.std.proofs.Common.{sym, ◌∙◌}
use Rattle.th_c.specs.Making.{OpensRecordedBroadcastOfBytes}
use Rattle.th_c.proofs.Filling.{filled}
use Rattle.th_c.proofs.bytes.topichub_broadcast_new_of_bytes_recorded.Goals as goal

-- src/bytes.rt
pub returns : goal.returns
returns c =
    let closed = sym c.is_open.ensures.open ∙ c.if-is_open.false in
    let after = c.fill.new.handle.value in
    let opens = OpensRecordedBroadcastOfBytes c.args.capacity c.args.base c.args.limit in
    filled (λ b. b.value) (λ came. opens came) c.args.channel.now.value c.recorded_broadcast_of_bytes.result c.fill.result after closed
    c.recorded_broadcast_of_bytes.ensures c.fill.ensures

use Rattle.std.proofs.Common.{sym, ◌∙◌}
use Rattle.th_c.specs.Making.{OpensBroadcast}
use Rattle.th_c.proofs.Filling.{filled}
use Rattle.th_c.proofs.broadcast_calls.topichub_broadcast_new.Goals as goal

-- src/broadcast_calls.rt
pub returns : goal.returns
returns c =
    let closed = sym c.is_open.ensures.open ∙ c.if-is_open.false in
    let after = c.fill.new.handle.value in
    let opens = OpensBroadcast c.args.capacity c.args.base in
    filled (λ b. b.value) (λ came. opens came) c.args.channel.now.value c.broadcast.result c.fill.result after closed
    c.broadcast.ensures c.fill.ensures

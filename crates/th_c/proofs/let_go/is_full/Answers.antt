use Rattle.std.proofs.Common.{◌≡◌, ◌-◌, arith, sym}
use Rattle.th_c.specs.LetGo.{gone_at}
use Rattle.th_c.proofs.LetGo.{full-if-first}
use Rattle.th_c.proofs.let_go.is_full.Goals as goal

-- src/let_go.rt
pub returns : goal.returns
returns g c =
    let w = c.args.channel.now.window in
    let sound = c.next_number-sound.ensures.sound in
    let first : c.gone_at.result ≡ gone_at w (w.tail - w.capacity) =
    rw (sym c.tail-tail.ensures, sym c.capacity-capacity.ensures) c.gone_at.ensures in
    full-if-first w sound.window (omega arith) c.gone_at.result first

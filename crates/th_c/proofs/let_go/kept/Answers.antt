use Rattle.std.proofs.Common.{arith}
use Rattle.th_c.proofs.Kept.{few_kept}
use Rattle.th_c.proofs.let_go.kept.Goals as goal

-- src/let_go.rt
pub overflow_cast-result : goal.overflow_cast-result
overflow_cast-result g c =
    let sound = c.next_number-sound.ensures.sound in
    omega (arith, few_kept c.args.channel.now sound, sound.window.kept, c.tail.ensures, c.low.ensures)

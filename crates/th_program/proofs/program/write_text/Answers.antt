use Rattle.std.proofs.Common.{arith, length-drop, refl}
use Rattle.std.proofs.lemmas.Bool.{ltb-true}
use Rattle.th_program.proofs.Writing.{written_next}
use Rattle.th_program.proofs.program.write_text.Goals as goal

pub loop-at-preserved-in-Bytes : goal.loop-at-preserved-in-Bytes
loop-at-preserved-in-Bytes g c =
    let moved = c.in-Bytes.ensures.moved in
    record {
      within = omega (arith, moved.0, length-drop c.loop-at.at c.args.text.now);
      wrote = written_next _ _ _ c.args.text.now c.loop-at.at c.in-Bytes.count
          c.loop-at.invariant.wrote moved.2;
      same = omega (arith, c.in-Bytes.ensures.failures);
    }

pub loop-at-smaller : goal.loop-at-smaller
loop-at-smaller g c = omega (arith, ltb-true 0 c.loop-at.retries (c.in-Again.ensures.again refl))

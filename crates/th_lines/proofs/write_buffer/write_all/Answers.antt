use Rattle.std.proofs.Common.{◌∙◌, [], ap, arith, length-drop, refl}
use Rattle.std.proofs.lemmas.Bool.{ltb-true}
use Rattle.th_lines.specs.Device.{one_more}
use Rattle.th_lines.specs.Output.{output}
use Rattle.th_lines.proofs.OutputLemmas.{write_next, write_failed}
use Rattle.th_lines.proofs.write_buffer.write_all.Goals as goal

pub loop-at-preserved-in-Bytes : goal.loop-at-preserved-in-Bytes
loop-at-preserved-in-Bytes g c = record {
  within = omega (arith, c.in-Bytes.ensures.moved.0, length-drop c.loop-at.at c.args.bytes.now);
  wrote = write_next _ _ _ c.args.bytes.now c.loop-at.at c.in-Bytes.n c.loop-at.invariant.wrote c.in-Bytes.ensures.moved.2;
  same = omega (arith, c.in-Bytes.ensures.failures);
}

pub returns-in-Failed : goal.returns-in-Failed
returns-in-Failed g c =
    let failed = c.in-Failed.ensures.failures ∙ ap one_more c.loop-at.invariant.same in
    write_failed (output g.W.Write.contents c.args.writer.now [])
    (output g.W.Write.contents c.write_some.new.self []) _ c.args.bytes.now c.loop-at.at
    c.loop-at.invariant.wrote c.in-Failed.ensures.moved failed

pub loop-at-smaller : goal.loop-at-smaller
loop-at-smaller g c = omega (arith, ltb-true 0 c.loop-at.retries (c.in-Again.ensures.again refl))

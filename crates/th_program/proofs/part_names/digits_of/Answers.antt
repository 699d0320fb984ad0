use Rattle.std.proofs.Common.{◌∙◌, ◌≤◌, ◌≡◌, arith, length, sym}
use Rattle.std.proofs.lemmas.List.{length-set}
use Rattle.th_program.proofs.PartNames.{digit_written, digits_stand}
use Rattle.th_program.proofs.part_names.digits_of.Goals as goal

pub loop-at-preserved : goal.loop-at-preserved
loop-at-preserved c =
    let before = c.loop-at.invariant in
    let room : c.loop-at.at ≤ length c.loop-at.digits = omega (arith, before.low, before.size) in
    record {
      low = omega (arith, before.low);
      size = length-set c.loop-at.digits _ _ ∙ before.size;
      is = digit_written c.loop-at.at c.loop-at.rest c.loop-at.digits c.loop-at-test.true room ∙ before.is;
    }

pub returns : goal.returns
returns c =
    let none : c.loop-at.at ≡ 0 = omega (arith, c.loop-at-test.false) in
    sym (digits_stand c.loop-at.at c.loop-at.rest c.loop-at.digits none) ∙ c.loop-at.invariant.is

use Rattle.std.proofs.Common.{arith}
use Rattle.th_program.proofs.Listing.{list_ends, name_ends, name_more}
use Rattle.th_program.proofs.listed.name_end.Goals as goal

pub loop-at-preserved : goal.loop-at-preserved
loop-at-preserved c = name_more c.args.mark c.args.text.now c.args.from c.loop-at.at c.loop-at-test.true c.if-text-at.true c.loop-at.invariant

pub returns-else-text-at-clause-name : goal.returns-else-text-at-clause-name
returns-else-text-at-clause-name c =
    name_ends c.args.mark c.args.text.now c.args.from c.loop-at.at c.loop-at-test.true c.if-text-at.false c.loop-at.invariant

pub returns-after-loop-at-clause-name : goal.returns-after-loop-at-clause-name
returns-after-loop-at-clause-name c =
    list_ends c.args.mark c.args.text.now c.args.from c.loop-at.at c.requires.within (omega (arith, c.loop-at-test.false)) c.loop-at.invariant

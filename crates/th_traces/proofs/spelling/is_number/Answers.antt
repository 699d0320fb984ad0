use Rattle.std.proofs.Common.{sym}
use Rattle.th_traces.proofs.Fronts.{digits, no_digits, there}
use Rattle.th_traces.proofs.spelling.is_number.Goals as goal

pub returns-in-Some-number : goal.returns-in-Some-number
returns-in-Some-number c = there c.args.line.now c.args.words.now c.in-Some.digits.now _ _ c.in-Some.ensures
    (digits c.in-Some.digits.now c.args.n c.in-Some-number.told c.ranges.n.fits (sym c.in-Some-number.ensures))

pub returns-in-None : goal.returns-in-None
returns-in-None c = there c.args.line.now c.args.words.now c.in-Some.digits.now _ _ c.in-Some.ensures
    (no_digits c.in-Some.digits.now c.args.n c.ranges.n.fits (sym c.in-None.ensures))

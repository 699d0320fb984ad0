use Rattle.std.proofs.Common.{arith}
use Rattle.th_check.specs.Printed.{IsPrinted}
use Rattle.th_check.proofs.Walking.{none_left, one_more}
use Rattle.th_check.proofs.printed.are_entries.Goals as goal

pub loop-call-init : goal.loop-call-init
loop-call-init g c = λ all. all

pub loop-call-preserved : goal.loop-call-preserved
loop-call-preserved g c = λ rest.
    let kind = g.C.JudgedCall in
    c.loop-call.invariant
    (one_more (IsPrinted kind.call_fits kind.reply_fits) c.args.entries.now c.loop-call.call-index c.loop-call-item.result
    c.loop-call-test.true c.loop-call-item.is
    (c.is_call.ensures, c.is_reply.ensures) rest)

pub returns : goal.returns
returns g c =
    let kind = g.C.JudgedCall in
    c.loop-call.invariant
    (none_left (IsPrinted kind.call_fits kind.reply_fits) c.args.entries.now c.loop-call.call-index
    (omega (arith, c.loop-call-test.false)))

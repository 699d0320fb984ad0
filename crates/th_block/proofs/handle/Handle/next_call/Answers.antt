use Rattle.th_block.proofs.handle.Handle.next_call.Goals as goal

pub returns-then-ends-clause-next : goal.returns-then-ends-clause-next
returns-then-ends-clause-next g c =
    record { receipt = c.in-Ok.receipt; number = c.call.ensures.calls.number; rolls = c.call.ensures.calls.rolls; answered = c.in-Ok.ensures.calls.outcome; end = cc }

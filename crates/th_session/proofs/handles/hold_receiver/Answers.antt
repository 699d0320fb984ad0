use Rattle.std.proofs.Common.{sym}
use Rattle.th_session.proofs.HoldLemmas.{receiver-some}
use Rattle.th_session.proofs.handles.hold_receiver.Goals as goal

pub returns-in-Some : goal.returns-in-Some
returns-in-Some g c = receiver-some c.args.handles.now.entries c.args.n c.in-Some.both.now c.args.receiver c.get_mut.ensures.ordered
    (sym c.in-Some.ensures.value)

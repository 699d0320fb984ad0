use Rattle.std.proofs.Common.{sym}
use Rattle.th_session.proofs.HoldLemmas.{sender-some}
use Rattle.th_session.proofs.handles.hold_sender.Goals as goal

pub returns-in-Some : goal.returns-in-Some
returns-in-Some g c = sender-some c.args.handles.now.entries c.args.n c.in-Some.both.now c.args.sender c.get_mut.ensures.ordered
    (sym c.in-Some.ensures.value)

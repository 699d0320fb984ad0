use Rattle.std.proofs.Common.{sym, ap, ◌∙◌}
use Rattle.th_session.specs.Held.{with_made_receiver}
use Rattle.th_session.proofs.HoldLemmas.{receiver-ready}
use Rattle.th_session.proofs.action.hold_made_receiver.Goals as goal

pub returns-in-Some : goal.returns-in-Some
returns-in-Some g c = λ h ready.
    c.hold_receiver.ensures
    ∙ receiver-ready c.args.are_new h c.args.handles.now.entries c.args.n c.in-Some.receiver ready
    ∙ ap (with_made_receiver h c.args.n) (sym c.in-Some.is)

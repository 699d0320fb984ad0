use Rattle.std.proofs.Common.{sym, ap, ◌∙◌}
use Rattle.th_session.specs.Held.{with_made_sender}
use Rattle.th_session.proofs.HoldLemmas.{sender-ready}
use Rattle.th_session.proofs.action.hold_made_sender.Goals as goal

pub returns-in-Some : goal.returns-in-Some
returns-in-Some g c = λ h ready.
    c.hold_sender.ensures
    ∙ sender-ready c.args.are_new h c.args.handles.now.entries c.args.n c.in-Some.sender ready
    ∙ ap (with_made_sender h c.args.n) (sym c.in-Some.is)

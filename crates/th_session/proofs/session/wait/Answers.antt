use Rattle.std.proofs.Common.{◌≡◌, Some, refl, sym}
use Rattle.th_session.proofs.HoldLemmas.{held-set, receiver-kept}
use Rattle.th_session.proofs.session.wait.Goals as goal

pub returns-in_default-receiver-clause-held : goal.returns-in_default-receiver-clause-held
returns-in_default-receiver-clause-held g c =
    held-set g.D.Desk.tx g.D.Desk.rx c.args.handles.now.entries _ c.args.topic.0 c.in-Some.own.now _ (sym c.in-Some.ensures.value)
    refl refl

pub returns-clause-held : goal.returns-clause-held
returns-clause-held g c =
    let holds : c.in-Some.own.now.receiver ≡ Some c.in-Some-receiver.receiver = c.in-Some-receiver.is in
    let kept = receiver-kept g.D.Desk.tx g.D.Desk.rx c.in-Some.own.now _ c.wait.new.receiver holds c.wait.ensures.receiver in
    held-set g.D.Desk.tx g.D.Desk.rx c.args.handles.now.entries _ c.args.topic.0 c.in-Some.own.now _ (sym c.in-Some.ensures.value)
    refl kept

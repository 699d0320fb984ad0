use Rattle.std.proofs.Common.{◌∙◌}
use Rattle.th_session.proofs.HoldLemmas.{taken-back}
use Rattle.th_session.proofs.handles.take_back.Goals as goal

pub returns-then-are_new : goal.returns-then-are_new
returns-then-are_new g c = λ h ready. c.remove.ensures.entries
    ∙ taken-back c.args.are_new h c.args.handles.now.entries c.args.n c.if-are_new.true ready

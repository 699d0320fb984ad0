use Rattle.th_registry.proofs.LegalEnds as end
use Rattle.th_registry.proofs.LegalTopics as legal
use Rattle.th_registry.proofs.laws.histories_are_legal.Goals as goal

pub returns-clause-stay : goal.returns-clause-stay
returns-clause-stay c = legal.histories_stay_kept

pub returns-clause-reached : goal.returns-clause-reached
returns-clause-reached c = legal.histories_are_kept

pub returns-clause-cuts : goal.returns-clause-cuts
returns-clause-cuts c = legal.cuts_are_legal

pub returns-clause-ends : goal.returns-clause-ends
returns-clause-ends c = end.live_handles_end

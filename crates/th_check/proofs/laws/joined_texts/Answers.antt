use Rattle.th_check.proofs.Adding.{added, history}
use Rattle.th_check.proofs.laws.joined_texts.Goals as goal

pub returns : goal.returns
returns c = λ text later count there. (history text later count there, added text later count there)

use Rattle.th_check.proofs.Openings.{openings}
use Rattle.th_check.proofs.laws.openings.Goals as goal

pub returns : goal.returns
returns c = λ shown sound. openings shown sound

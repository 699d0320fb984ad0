use Rattle.th_check.proofs.Tracing.{legal, told}
use Rattle.th_check.proofs.laws.legal_texts.Goals as goal

pub returns : goal.returns
returns c = λ lines count. (told lines count, legal lines count)

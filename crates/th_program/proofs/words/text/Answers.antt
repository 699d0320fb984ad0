use Rattle.std.proofs.Common.{◌∙◌, ap, Bor, List, ℕ, refl}
use Rattle.th_program.proofs.GivenWords.{text_given}
use Rattle.th_program.proofs.words.text.Goals as goal

pub returns : goal.returns
returns c = ap (λ (b : Bor (List ℕ)). b.now) c.unwrap_or.ensures ∙ text_given c.given.result _ _ refl c.given.ensures

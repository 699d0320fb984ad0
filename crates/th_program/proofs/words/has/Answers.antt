use Rattle.std.proofs.Common.{◌∙◌, List, ap, Option, ℕ}
use Rattle.std.specs.Prelude.{is_some}
use Rattle.th_program.proofs.GivenWords.{is_mapped}
use Rattle.th_program.proofs.words.has.Goals as goal

pub returns : goal.returns
returns c = c.is_some.ensures ∙ is_mapped c.given.result ∙ ap (λ (o : Option (List ℕ)). is_some o) c.given.ensures

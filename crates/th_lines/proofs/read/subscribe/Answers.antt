use Rattle.std.proofs.Common.{ℕ, List, ◌≡◌, None, Some, Ok, refl, subst, sym, ap, ◌∙◌, Option, rules}
use Rattle.std.specs.Prelude.{codes}
use Rattle.std.specs.Borrow.{Bor}
use Rattle.th_lines.specs.declared.command.Command.TheVariants.{On}
use Rattle.th_lines.specs.declared.command.Action.TheVariants.{Subscribe}
use Rattle.th_model.specs.declared.verb.Start.TheVariants.{Oldest}
use Rattle.th_lines.specs.Commands.{carries_value, beginning}
use Rattle.th_lines.specs.Fields.{Rest, by_word}
use Rattle.th_lines.specs.Reads.{rest_of}
use Rattle.th_lines.proofs.Readers.{reads-word}
use Rattle.th_lines.proofs.read.subscribe.Goals as goal

pub returns-in-OLDEST-None : goal.returns-in-OLDEST-None
unfolding beginning
returns-in-OLDEST-None c =
    let word : List ℕ = c.cut.result.0.now in
    let t : List ℕ = c.args.t in
    let alone = reads-word carries_value (beginning t) (codes "OLDEST") word None (Ok (On t (Subscribe Oldest))) (search rules)
    (search rules) refl in
    let found = ap (λ (r : Option (Bor (List ℕ))). let p : List ℕ × Rest = (word, rest_of r) in p) (sym c.in-OLDEST-None.is-1)
    ∙ c.cut.ensures in
    subst (λ (p : List ℕ × Rest). by_word (beginning t) p.0 p.1 ≡ Some (On t (Subscribe Oldest))) found alone

use Rattle.std.proofs.Common.{◌≡◌, Bool, subst, sym}
use Rattle.std.specs.Bool.{Decides}
use Rattle.std.proofs.lemmas.Slice.Eq.{bytes_eq-Decides}
use Rattle.th_traces.proofs.Fronts.{there}
use Rattle.th_traces.proofs.spelling.is_words.Goals as goal

pub returns-in-Some : goal.returns-in-Some
returns-in-Some c =
    let rest = c.in-Some.rest.now in
    let bytes = c.args.bytes.now in
    there c.args.line.now c.args.words.now rest bytes c.eq.result c.in-Some.ensures
    (subst (λ (b : Bool). Decides b (rest ≡ bytes)) (sym c.eq.ensures) (bytes_eq-Decides rest bytes))

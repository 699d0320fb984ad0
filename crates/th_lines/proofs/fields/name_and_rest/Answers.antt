use Rattle.std.proofs.Common.{◌≡◌, ℕ, [], ◌∷◌, sym, ap, ◌∙◌}
use Rattle.std.proofs.lemmas.List.{nil_from_length}
use Rattle.th_lines.proofs.Fronts.{front-alone, front-more, front-none, front-other}
use Rattle.th_lines.proofs.Readers.{parts}
use Rattle.th_lines.proofs.fields.name_and_rest.Goals as goal

pub returns-in_default : goal.returns-in_default
returns-in_default c = sym (front-none parts c.args.bytes.now (sym c.in_default.ensures))

pub returns-in_default-split_first : goal.returns-in_default-split_first
returns-in_default-split_first c =
    let none : c.in-Some.behind.now ≡ [] = nil_from_length _ c.in_default-split_first.ensures.cases in
    sym (front-alone parts c.args.bytes.now c.in-Some.name c.in-Some.behind.now (sym c.in-Some.ensures) none)

pub returns-then-next-ne32 : goal.returns-then-next-ne32
returns-then-next-ne32 c =
    let next = c.in-Some-split_first.next.now in
    let rest = c.in-Some-split_first.rest.now in
    let is = c.in-Some-split_first.ensures.cases.0 in
    sym (front-other parts c.args.bytes.now c.in-Some.name c.in-Some.behind.now next rest (sym c.in-Some.ensures) is c.if-next-ne32.true)

pub returns : goal.returns
returns c =
    let space = c.in-Some-split_first.ensures.cases.0 ∙ ap (λ (b : ℕ). b ∷ c.in-Some-split_first.rest.now) c.if-next-ne32.false in
    sym (front-more parts c.args.bytes.now c.in-Some.name c.in-Some.behind.now c.in-Some-split_first.rest.now (sym c.in-Some.ensures) space)

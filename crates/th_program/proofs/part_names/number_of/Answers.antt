use Rattle.std.proofs.Common.{List, subst, ℕ}
use Rattle.std.specs.Str.Parse.{ParsesUnsigned}
use Rattle.std.proofs.lemmas.Str.{IsUtf8-from_ascii}
use Rattle.th_program.proofs.PartNames.{digits_are_text, number_is, number_none}
use Rattle.th_program.proofs.part_names.number_of.Goals as goal

pub returns-in_default : goal.returns-in_default
returns-in_default c = λ all some.
    absurd (c.in_default.ensures.cases.0 (IsUtf8-from_ascii c.args.digits.now (digits_are_text c.args.digits.now all)))

pub returns-in-Ok-parse : goal.returns-in-Ok-parse
returns-in-Ok-parse c = λ all some.
    let read = subst (λ (l : List ℕ). ParsesUnsigned 64 10 l c.parse.result) c.in-Ok.ensures.cases.0 c.parse.ensures.value.0 in
    number_is c.args.digits.now c.in-Ok-parse.number c.parse.result c.in-Ok-parse.is read all

pub returns-in-Err : goal.returns-in-Err
returns-in-Err c = λ all some.
    let read = subst (λ (l : List ℕ). ParsesUnsigned 64 10 l c.parse.result) c.in-Ok.ensures.cases.0 c.parse.ensures.value.0 in
    number_none c.args.digits.now _ c.parse.result c.in-Err.is read all some

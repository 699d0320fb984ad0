use Rattle.std.proofs.Common.{◌≡◌, ◌∙◌, None, Some, ap, codes, option_map, refl, string_bytes, subst, sym}
use Rattle.std.specs.Prelude.{IsSome, is_some}
use Rattle.th_program.proofs.GivenWords.{is_mapped, none_given}
use Rattle.std.proofs.lemmas.Bool.{false≢true}
use Rattle.clap.specs.Words.{found_of, rows_of}
use Rattle.clap.proofs.WalkLemmas.{raw_values-rows}
use Rattle.th_program.specs.Words.{files_of, list_of}
use Rattle.th_program.proofs.Checking.{listed_mode, unnamed_given, unnamed_mode}
use Rattle.th_program.proofs.words.check_mode.Goals as goal

pub returns-in-Some-list-clause-mode : goal.returns-in-Some-list-clause-mode
returns-in-Some-list-clause-mode c =
    let f = found_of c.args.words.now in
    let none : files_of (rows_of f) ≡ None = sym (c.in_default-get_strs.ensures ∙ raw_values-rows f (codes "FILE")) in
    let given = rw c.in-Some-list.is at c.given-list.ensures in
    listed_mode (rows_of f) c.listed.result c.in-Some-list.list.now c.in-Some.manner (option_map string_bytes c.in-Ok.anchors)
    c.listed.ensures.mode none (sym given) (sym c.in-Some.ensures) c.in-Ok.ensures

pub returns-in-None-clause-mode : goal.returns-in-None-clause-mode
returns-in-None-clause-mode c =
    let f = found_of c.args.words.now in
    let none : files_of (rows_of f) ≡ None = sym (c.in_default-get_strs.ensures ∙ raw_values-rows f (codes "FILE")) in
    let unlisted : list_of (rows_of f) ≡ None = sym (rw c.in-None.is at c.given-list.ensures) in
    unnamed_mode (rows_of f) c.unnamed.result c.in-Some.manner c.unnamed.ensures none unlisted (sym c.in-Some.ensures)

pub returns-in-None-clause-given : goal.returns-in-None-clause-given
returns-in-None-clause-given c =
    let f = found_of c.args.words.now in
    let none : files_of (rows_of f) ≡ None = sym (c.in_default-get_strs.ensures ∙ raw_values-rows f (codes "FILE")) in
    let unlisted : list_of (rows_of f) ≡ None = sym (rw c.in-None.is at c.given-list.ensures) in
    unnamed_given (rows_of f) c.unnamed.result c.in-Some.manner c.unnamed.ensures none unlisted (sym c.in-Some.ensures)

pub returns-then-is_some-clause-given : goal.returns-then-is_some-clause-given
returns-then-is_some-clause-given c = λ has.
    let f = found_of c.args.words.now in
    let some = sym (raw_values-rows f (codes "FILE")) ∙ sym c.in-Some-get_strs.ensures in
    let unlisted : list_of (rows_of f) ≡ None = has.one (subst IsSome (sym some) refl) in
    let given = sym c.is_some.ensures ∙ c.if-is_some.true in
    absurd (false≢true (sym (ap is_some (c.given-list.ensures ∙ unlisted)) ∙ sym (is_mapped c.given-list.result) ∙ given))

pub returns-in-Ok-named-clause-mode : goal.returns-in-Ok-named-clause-mode
returns-in-Ok-named-clause-mode c =
    let f = found_of c.args.words.now in
    let unlisted : list_of (rows_of f) ≡ None = none_given (list_of (rows_of f)) (ap is_some (sym c.given-list.ensures)
    ∙ sym (is_mapped c.given-list.result) ∙ sym c.is_some.ensures ∙ c.if-is_some.false) in (
      refl,
      (sym (raw_values-rows f (codes "FILE")) ∙ sym c.in-Some-get_strs.ensures ∙ ap Some (sym c.in-Ok-named.ensures), unlisted),
      sym c.in-Some.ensures,
      c.in-Ok.ensures,
    )

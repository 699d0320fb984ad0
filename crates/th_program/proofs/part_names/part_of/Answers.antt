use Rattle.std.proofs.Common.{◌≡◌, ◌∙◌, List, arith, codes, length, refl, subst, sym, ℕ}
use Rattle.th_program.specs.PartNames.{IsNamed}
use Rattle.std.specs.Str.Parse.{AllDigits}
use Rattle.std.proofs.lemmas.Bool.{false≢true}
use Rattle.std.proofs.lemmas.Bool.Decides.{Decides-eqb}
use Rattle.std.proofs.lemmas.Slice.Eq.{strip_suffix_is}
use Rattle.th_program.proofs.PartNames.{digits_behind, front_is_long, front_of, never_without, topic_before, whole}
use Rattle.th_program.proofs.part_names.part_of.Goals as goal

pub returns-in_default-clause-none : goal.returns-in_default-clause-none
returns-in_default-clause-none c = λ none topic digits is.
    let cut = strip_suffix_is Decides-eqb c.file_of.result.now (codes ".trace") c.strip_suffix.result c.strip_suffix.ensures.cases in
    let no = rw c.in_default.is at cut in
    never_without c.file_of.result.now topic digits (c.file_of.ensures ∙ is.is) no

pub returns-then-front-lt20-clause-none : goal.returns-then-front-lt20-clause-none
returns-then-front-lt20-clause-none c = λ none topic digits is.
    let cut = strip_suffix_is Decides-eqb c.file_of.result.now (codes ".trace") c.strip_suffix.result c.strip_suffix.ensures.cases in
    let ends = rw c.in-Some.is at cut in
    let front = front_of c.file_of.result.now topic digits c.in-Some.front.now (c.file_of.ensures ∙ is.is) ends in
    absurd (omega (arith, front_is_long c.in-Some.front.now topic digits is.twenty front, c.if-front-lt20.true))

pub returns-then-not-are_digits-clause-none : goal.returns-then-not-are_digits-clause-none
returns-then-not-are_digits-clause-none c = λ none topic digits is.
    let cut = strip_suffix_is Decides-eqb c.file_of.result.now (codes ".trace") c.strip_suffix.result c.strip_suffix.ensures.cases in
    let ends = rw c.in-Some.is at cut in
    let front = front_of c.file_of.result.now topic digits c.in-Some.front.now (c.file_of.ensures ∙ is.is) ends in
    let same = c.split_at.ensures.back ∙ digits_behind c.in-Some.front.now topic digits is.twenty front in
    absurd (false≢true (c.if-not-are_digits.ensures.1 (subst (λ (l : List ℕ). AllDigits 10 l) (sym same) is.all)))

pub returns-in_default-strip_suffix-clause-none : goal.returns-in_default-strip_suffix-clause-none
returns-in_default-strip_suffix-clause-none c = λ none topic digits is.
    let cut = strip_suffix_is Decides-eqb c.file_of.result.now (codes ".trace") c.strip_suffix.result c.strip_suffix.ensures.cases in
    let ends = rw c.in-Some.is at cut in
    let front = front_of c.file_of.result.now topic digits c.in-Some.front.now (c.file_of.ensures ∙ is.is) ends in
    let head = c.split_at.ensures.front ∙ topic_before c.in-Some.front.now topic digits is.twenty front in
    let dot = strip_suffix_is Decides-eqb c.split_at.result.0.now (codes ".") c.strip_suffix-2.result c.strip_suffix-2.ensures.cases in
    let no = rw c.in_default-strip_suffix.is at dot in
    absurd (no topic head)

pub returns-clause-some : goal.returns-clause-some
returns-clause-some c =
    let name = c.file_of.result.now in
    let front = c.in-Some.front.now in
    let topic = c.in-Some-strip_suffix.topic.now in
    let head = c.split_at.result.0.now in
    let digits = c.split_at.result.1.now in
    let cut = strip_suffix_is Decides-eqb name (codes ".trace") c.strip_suffix.result c.strip_suffix.ensures.cases in
    let ends = rw c.in-Some.is at cut in
    let dot = strip_suffix_is Decides-eqb head (codes ".") c.strip_suffix-2.result c.strip_suffix-2.ensures.cases in
    let so = rw c.in-Some-strip_suffix.is at dot in
    let twenty : length digits ≡ 20 = omega (arith, c.split_at.ensures.back_len, c.if-front-lt20.false) in
    let all : AllDigits 10 digits = c.if-not-are_digits.ensures.0 refl in
    let is : IsNamed c.args.path.now topic digits = record {
      is = sym c.file_of.ensures ∙ whole name front topic head digits ends c.split_at.ensures.by_index.0 so;
      twenty = twenty;
      all = all;
    } in
    (digits, is, c.number_of.ensures all (omega (arith, twenty)))

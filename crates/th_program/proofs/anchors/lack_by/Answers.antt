use Rattle.std.proofs.Common.{◌∷◌, ap, map, string_bytes, subst, sym, ◌+◌, ◌∙◌, drop, List, ℕ, Some}
use Rattle.th_program.specs.Anchors.{LackFrom, is_told, summed_of, told_of}
use Rattle.th_program.specs.declared.whole.Lack.TheVariants as lack
use Rattle.th_program.proofs.Anchoring.{names_from, told_never, told_on}
use Rattle.th_program.proofs.anchors.lack_by.Goals as goal

pub returns-then-not-is_told : goal.returns-then-not-is_told
returns-then-not-is_told g c =
    let holds = g.O.Opens.holds c.args.files.now in
    let anchors = map told_of c.args.anchors.now in
    let at = c.loop-at.at in
    let names = c.args.names.now in
    let path = c.as_str-path.result.now in
    let sum : List ℕ = c.in-Some.sum.0 in
    let later = map string_bytes (drop (at + 1) names) in
    let from = names_from string_bytes names at c.index-names-at.result c.loop-at-test.true c.index-names-at.is
    ∙ ap (λ (n : List ℕ). n ∷ later) (sym c.as_str-path.ensures.value) in
    c.loop-at.invariant (Some (lack.Anchor at))
    (subst (λ (l : List (List ℕ)). LackFrom holds anchors at (summed_of c.loop-at.last) l (Some (lack.Anchor at))) (sym from)
    (told_never holds anchors at (summed_of c.loop-at.last) path sum later c.in-Some.ensures
    (sym {b = is_told anchors (path, sum)} c.is_told.ensures ∙ c.if-not-is_told.true)))

pub loop-at-preserved : goal.loop-at-preserved
loop-at-preserved g c = λ found goes.
    let holds = g.O.Opens.holds c.args.files.now in
    let anchors = map told_of c.args.anchors.now in
    let at = c.loop-at.at in
    let names = c.args.names.now in
    let path = c.as_str-path.result.now in
    let sum : List ℕ = c.in-Some.sum.0 in
    let later = map string_bytes (drop (at + 1) names) in
    let from = names_from string_bytes names at c.index-names-at.result c.loop-at-test.true c.index-names-at.is
    ∙ ap (λ (n : List ℕ). n ∷ later) (sym c.as_str-path.ensures.value) in
    c.loop-at.invariant found
    (subst (λ (l : List (List ℕ)). LackFrom holds anchors at (summed_of c.loop-at.last) l found) (sym from)
    (told_on holds anchors at (summed_of c.loop-at.last) path sum later c.in-Some.ensures found
    (sym {b = is_told anchors (path, sum)} c.is_told.ensures ∙ c.if-not-is_told.false) goes))

use Rattle.std.proofs.Common.{◌≡◌, ◌∙◌, ℕ, List, [], ◌∷◌, ◌++◌, None, ap, false, map, refl, string_bytes, subst, sym, take}
use Rattle.std.proofs.lemmas.Bool.{false≢true}
use Rattle.th_program.specs.declared.end.End.{End}
use Rattle.th_program.specs.Files.{EachIsTold, end_of, file_line, fault_line, IsOutcome, worse}
use Rattle.std.specs.Io.KnownBytes.{Appends}
use Rattle.th_program.specs.Run.{IsSaid, errors_of}
use Rattle.th_program.proofs.Telling.{each_more, one_more}
use Rattle.th_program.proofs.files.check_files.Goals as goal
use Rattle.th_program.proofs.files.check_files.Goals.{then-people, else-people}

pub loop-name-preserved : goal.loop-name-preserved
loop-name-preserved g c =
    let holds = g.O.Opens.holds c.args.files.now in
    let front : List (List ℕ) = map string_bytes (take c.loop-name.name-index c.args.names.now) in
    let name : List ℕ = string_bytes c.name-item.result in
    let outcome = c.check_file-outcome.result in
    let seen = subst (λ (n : List ℕ). IsOutcome (holds n) outcome) c.as_str.ensures.value c.check_file-outcome.ensures in
    let said_to = errors_of g.E.Write.contents in
    let before = g.W.Write.contents c.args.output.now.device in
    let mid = g.W.Write.contents c.loop-name.output.device in
    let after = g.W.Write.contents c.tell_file.new.output.device in
    let quiet : c.args.people ≡ false → c.if-people.wrong ≡ None = λ e. elim c.if-people.branch [
      | then-people w ↦ absurd (false≢true (sym e ∙ w.if-people.true))
      | else-people w ↦ w.wrong-is
    ] in
    let ends : c.worse-end.result ≡ worse c.loop-name.end (end_of outcome) =
    c.worse-end.ensures ∙ ap (worse c.loop-name.end) c.end_of.ensures in
    let told = each_more holds front name before mid after c.args.people (said_to c.args.errors.now) (said_to c.loop-name.errors)
    (said_to c.tell_file.new.errors) c.loop-name.end outcome c.loop-name.invariant seen
    (subst (λ (n : List ℕ). Appends mid after (file_line (n, outcome))) c.as_str-in-loop-name.ensures.value
    (c.if-not-tell_file.ensures.told refl))
    (λ e. subst (λ (n : List ℕ). IsSaid (said_to c.loop-name.errors) (said_to c.tell_file.new.errors) (fault_line (n, outcome)))
    c.as_str-in-loop-name.ensures.value (c.tell_file.ensures.said (quiet e)))
    c.tell_file.ensures.still in
    subst (λ (l : List (List ℕ)). EachIsTold holds l before after c.args.people (said_to c.args.errors.now)
    (said_to c.tell_file.new.errors) c.worse-end.result)
    (sym (one_more string_bytes c.args.names.now c.loop-name.name-index c.name-item.result c.loop-name-test.true c.name-item.is))
    (subst (λ (e : End). EachIsTold holds (front ++ name ∷ []) before after c.args.people (said_to c.args.errors.now)
    (said_to c.tell_file.new.errors) e) (sym ends) told)

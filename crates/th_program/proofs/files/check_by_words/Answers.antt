use Rattle.std.proofs.Common.{ap, inl, map, option_map, string_bytes, subst, sym, ◌≡◌, ◌∙◌, ℕ, List, None, Option, Some}
use Rattle.th_program.specs.Files.{EndsBy}
use Rattle.th_program.specs.Run.{errors_of}
use Rattle.th_program.specs.Words.{anchors_of, arguments_by}
use Rattle.th_program.proofs.files.check_by_words.Goals as goal

pub returns-in-Some-clause-ends : goal.returns-in-Some-clause-ends
returns-in-Some-clause-ends g c =
    let mode = rw c.in-Ok-CheckFiles.field-0-is at c.in-Ok-CheckFiles.ensures in
    let rows = arguments_by (map (λ w. w.now) c.args.words.now) in
    let said_to = errors_of g.E.Write.contents in
    let so = c.in-Ok-CheckFiles.manner in
    let which = c.in-Ok-CheckFiles.sources in
    let named : Some c.as_str-name.result.now ≡ anchors_of rows = ap (λ (n : List ℕ). Some n) c.as_str-name.ensures.value
    ∙ ap (option_map string_bytes) (sym c.in-Some.is) ∙ mode.mode.3 in
    inl (
      so,
      which,
      mode.mode.2,
      mode.mode.1,
      subst (λ (o : Option (List ℕ)). EndsBy (g.O.Opens.holds c.args.files.now) (g.R.Read.remaining c.args.input.now) so o which
          (g.W.Write.contents c.args.output.now.device) (g.W.Write.contents c.check_anchored.new.output.device) c.args.people
          (said_to c.args.errors.now) (said_to c.check_anchored.new.errors) c.check_anchored.result) named c.check_anchored.ensures,
    )

pub returns-in-Ok-CheckFiles-clause-ends : goal.returns-in-Ok-CheckFiles-clause-ends
returns-in-Ok-CheckFiles-clause-ends g c =
    let mode = rw c.in-Ok-CheckFiles.field-0-is at c.in-Ok-CheckFiles.ensures in
    let rows = arguments_by (map (λ w. w.now) c.args.words.now) in
    let said_to = errors_of g.E.Write.contents in
    let so = c.in-Ok-CheckFiles.manner in
    let which = c.in-Ok-CheckFiles.sources in
    let none : None ≡ anchors_of rows = ap (option_map string_bytes) (sym c.in-None.is) ∙ mode.mode.3 in
    inl (
      so,
      which,
      mode.mode.2,
      mode.mode.1,
      subst (λ (o : Option (List ℕ)). EndsBy (g.O.Opens.holds c.args.files.now) (g.R.Read.remaining c.args.input.now) so o which
          (g.W.Write.contents c.args.output.now.device) (g.W.Write.contents c.check_sources.new.output.device) c.args.people
          (said_to c.args.errors.now) (said_to c.check_sources.new.errors) c.check_sources.result) none c.check_sources.ensures,
    )

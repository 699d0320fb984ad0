use Rattle.std.proofs.Common.{ap, ap₂, refl, sym, subst, inl, inr, ◌≡◌, ◌∙◌, [], ◌∷◌, map}
use Rattle.clap.specs.Words.{HasKind, Kinds, fault_of, is_simple_and_free, subcommand_name_of, subcommand_rows_of}
use Rattle.clap.specs.declared.error.kind.ErrorKind.TheVariants as kind
use Rattle.std.proofs.lemmas.Bool.{false≢true}
use Rattle.th_program.specs.declared.modes.Asked.{Asked}
use Rattle.th_program.specs.Words.{GivesReplay, HasFiles, arguments_by, arguments_of, asked_of, command_line, files_of, has_anchors, is_joined, is_whole, list_of}
use Rattle.th_program.proofs.Checking.{only_check}
use Rattle.th_program.proofs.CommandLine.{arguments_are, check_named, check_passes, help_fails, is_plain, mode_by, name_is, no_files, no_list, none_fails, not_anchored, not_joined, not_whole, number_by, on_ok, replay_named, replay_passes, version_fails}
use Rattle.th_program.proofs.words.mode.Goals as goal
use Rattle.th_program.proofs.words.mode.Goals.{After-refused}

-- the error has one of the kinds that the words give
failed : (c : After-refused) (kinds : Kinds)
    → fault_of command_line (map (λ w. w.now) c.args.words.now) ≡ kinds
    → HasKind kinds c.in-Err.error
failed c kinds is =
    let app = c.in-Ok.ensures in
    let Has : Kinds → Type 0 = λ kinds. HasKind kinds c.in-Err.error in
    subst Has (ap (λ a. fault_of a (map (λ w. w.now) c.args.words.now)) app ∙ is)
    (c.in-Err.ensures.kinds (ap is_simple_and_free app ∙ is_plain))

pub returns-in-Ok-try_get_matches_from-clause-help : goal.returns-in-Ok-try_get_matches_from-clause-help
returns-in-Ok-try_get_matches_from-clause-help c =
    let app = c.in-Ok.ensures in
    λ (name, words).
    let passes =
    c.in-Ok-try_get_matches_from.ensures.kinds (ap is_simple_and_free app ∙ is_plain) in
    let e : [] ≡ kind.DisplayHelp ∷ [] = sym passes ∙ ap₂ fault_of app words ∙ help_fails name in
    cc

pub returns-in-Ok-try_get_matches_from-clause-version : goal.returns-in-Ok-try_get_matches_from-clause-version
returns-in-Ok-try_get_matches_from-clause-version c =
    let app = c.in-Ok.ensures in
    λ (name, words).
    let passes =
    c.in-Ok-try_get_matches_from.ensures.kinds (ap is_simple_and_free app ∙ is_plain) in
    let e : [] ≡ kind.DisplayVersion ∷ [] = sym passes ∙ ap₂ fault_of app words ∙ version_fails name in
    cc

pub returns-in-Err-clause-replay : goal.returns-in-Err-clause-replay
returns-in-Err-clause-replay c = λ (name, words). elim (failed c [] (ap (fault_of command_line) words ∙ replay_passes name)) [
  | inl short ↦ c.refused.ensures.short short
  | inr none ↦ absurd none
]

pub returns-in-Err-clause-taken : goal.returns-in-Err-clause-taken
returns-in-Err-clause-taken c = λ is other files. elim (failed c [] is) [
  | inl short ↦ c.refused.ensures.short short
  | inr none ↦ absurd none
]

pub returns-in-Err-clause-help : goal.returns-in-Err-clause-help
returns-in-Err-clause-help c = λ (name, words). elim
    (failed c (kind.DisplayHelp ∷ []) (ap (fault_of command_line) words ∙ help_fails name)) [
      | inl short ↦ inr (c.refused.ensures.short short)
      | inr kinds ↦ elim kinds [ inl help ↦ c.refused.ensures.help help | inr none ↦ absurd none ]
    ]

pub returns-in-Err-clause-version : goal.returns-in-Err-clause-version
returns-in-Err-clause-version c = λ (name, words). elim
    (failed c (kind.DisplayVersion ∷ [])
    (ap (fault_of command_line) words ∙ version_fails name)) [
      | inl short ↦ inr (c.refused.ensures.short short)
      | inr kinds ↦ elim kinds [
        | inl version ↦ c.refused.ensures.version version
        | inr none ↦ absurd none
      ]
    ]

pub returns-in-Err-clause-none : goal.returns-in-Err-clause-none
returns-in-Err-clause-none c = λ (name, words). elim
    (failed c (kind.MissingSubcommand ∷ []) (ap (fault_of command_line) words ∙ none_fails name)) [
      | inl short ↦ inr (c.refused.ensures.short short)
      | inr kinds ↦ elim kinds [
        | inl missing ↦ c.refused.ensures.usage
            (λ help. let e : kind.MissingSubcommand ≡ kind.DisplayHelp = sym missing ∙ help in cc)
            (λ version. let e : kind.MissingSubcommand ≡ kind.DisplayVersion = sym missing ∙ version in cc)
            (λ short. let e : kind.MissingSubcommand ≡ kind.OutOfMemory = sym missing ∙ short in cc)
        | inr none ↦ absurd none
      ]
    ]

-- the mode of the command that the matches name
pub returns-in-Ok-try_get_matches_from-clause-replay : goal.returns-in-Ok-try_get_matches_from-clause-replay
returns-in-Ok-try_get_matches_from-clause-replay c = λ (name, words).
    subst GivesReplay (sym (c.taken.ensures.replay (ap asked_of
    (replay_named c.in-Ok-try_get_matches_from.matches _ _ c.in-Ok.ensures c.in-Ok-try_get_matches_from.ensures.matches name words)))) refl

pub returns-in-Ok-try_get_matches_from-clause-check : goal.returns-in-Ok-try_get_matches_from-clause-check
returns-in-Ok-try_get_matches_from-clause-check c = λ (name, words).
    let m = c.in-Ok-try_get_matches_from.matches in
    let has = c.in-Ok-try_get_matches_from.ensures.matches in
    let asked = ap asked_of (check_named m _ _ c.in-Ok.ensures has name words) in
    let rows = arguments_are m _ _ c.in-Ok.ensures has name in
    let none = ap files_of rows ∙ ap (λ ws. files_of (arguments_by ws)) words ∙ no_files name in
    let unlisted = ap list_of rows ∙ ap (λ ws. list_of (arguments_by ws)) words ∙ no_list name in
    let apart = ap is_joined rows ∙ ap (λ ws. is_joined (arguments_by ws)) words ∙ not_joined name in
    let partial = ap is_whole rows ∙ ap (λ ws. is_whole (arguments_by ws)) words ∙ not_whole name in
    let untold = ap has_anchors rows ∙ ap (λ ws. has_anchors (arguments_by ws)) words ∙ not_anchored name in
    only_check (asked_of (subcommand_name_of m)) (arguments_of (subcommand_rows_of m)) c.taken.result asked none unlisted c.taken.ensures.mode
    (c.taken.ensures.other (λ serves. let e : Asked.Check ≡ Asked.Serve = sym asked ∙ serves in cc)
    (record {
      whole = λ whole. absurd (false≢true (sym partial ∙ whole));
      anchored = λ told. absurd (false≢true (sym untold ∙ told));
      some = λ joined. absurd (false≢true (sym apart ∙ joined));
      one = λ some. unlisted;
    }))

pub returns-in-Err-clause-check : goal.returns-in-Err-clause-check
returns-in-Err-clause-check c = λ (name, words). elim (failed c [] (ap (fault_of command_line) words ∙ check_passes name)) [
  | inl short ↦ c.refused.ensures.short short
  | inr none ↦ absurd none
]

-- words that do not ask to serve name another mode
pub returns-in-Ok-try_get_matches_from-clause-taken : goal.returns-in-Ok-try_get_matches_from-clause-taken
returns-in-Ok-try_get_matches_from-clause-taken c = λ passes other files.
    let m = c.in-Ok-try_get_matches_from.matches in
    let has = c.in-Ok-try_get_matches_from.ensures.matches in
    c.taken.ensures.other (λ serves. other (sym (ap asked_of (name_is m _ _ c.in-Ok.ensures has [])) ∙ serves))
    (subst HasFiles (sym (arguments_are m _ _ c.in-Ok.ensures has [])) files)

-- the mode is the one that was asked for
pub returns-in-Ok-try_get_matches_from-clause-mode : goal.returns-in-Ok-try_get_matches_from-clause-mode
returns-in-Ok-try_get_matches_from-clause-mode c =
    mode_by c.in-Ok-try_get_matches_from.matches _ _ c.in-Ok.ensures c.in-Ok-try_get_matches_from.ensures.matches _ c.taken.ensures.mode

pub returns-in-Ok-try_get_matches_from-clause-serve : goal.returns-in-Ok-try_get_matches_from-clause-serve
returns-in-Ok-try_get_matches_from-clause-serve c = λ n words.
    c.taken.ensures.number (ap asked_of
    (name_is c.in-Ok-try_get_matches_from.matches _ _ c.in-Ok.ensures c.in-Ok-try_get_matches_from.ensures.matches []) ∙ words.asked) n
    (number_by c.in-Ok-try_get_matches_from.matches _ _ c.in-Ok.ensures c.in-Ok-try_get_matches_from.ensures.matches n words)

pub returns-in-Err-clause-serve : goal.returns-in-Err-clause-serve
returns-in-Err-clause-serve c = λ n words. elim (failed c [] words.taken) [
  | inl short ↦ c.refused.ensures.short short
  | inr none ↦ absurd none
]

-- a mode is answered only where the words are taken
pub returns-in-Ok-try_get_matches_from-clause-only : goal.returns-in-Ok-try_get_matches_from-clause-only
returns-in-Ok-try_get_matches_from-clause-only c =
    let passes = c.in-Ok-try_get_matches_from.ensures.kinds (ap is_simple_and_free c.in-Ok.ensures ∙ is_plain) in
    on_ok c.taken.result (ap (λ app. fault_of app (map (λ w. w.now) c.args.words.now)) (sym c.in-Ok.ensures) ∙ passes)

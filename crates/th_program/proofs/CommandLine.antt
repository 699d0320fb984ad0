-- What `clap` makes of the program's command line at words that are written out.
use Rattle.std.proofs.Common.{◌≡◌, ◌∙◌, ℕ, List, [], ◌∷◌, refl, sym, ap, subst, codes, true, false, Option, Some, None, Result, Ok, Err, IfOk}
use Rattle.std.specs.Prelude.{◌||◌, Bool, Box, OnOk}
use Rattle.std.specs.Box.{box_value}
use Rattle.std.specs.Option.{option_map}
use Rattle.clap.specs.Words.{AddsArg, AddsSubcommand, App, HasMatchesOf, Row, Text, app_of, fault_of, is_simple, is_simple_and_free, subcommand_name_of, subcommand_of, subcommand_rows, subcommand_rows_of, rule_of, with_rule, with_subcommand}
use Rattle.clap.specs.declared.builder.arg.Arg.{Arg}
use Rattle.clap.specs.declared.builder.command.Command.{Command}
use Rattle.clap.specs.declared.builder.command.Command.TheViews.{out-Command}
use Rattle.clap.specs.declared.parser.matches.ArgMatches.{ArgMatches}
use Rattle.clap.specs.declared.parser.matches.ArgMatches.TheViews.{out-ArgMatches, out-SubCommand}
use Rattle.clap.specs.declared.parser.matches.SubCommand.{SubCommand}
use Rattle.clap.specs.declared.error.kind.ErrorKind.TheVariants as kind
use Rattle.clap.proofs.OnLiterals.{clap_on_literals}
use Rattle.th_program.specs.declared.modes.Mode.{Mode}
use Rattle.th_program.specs.declared.modes.ModeFault.{ModeFault}
use Rattle.th_program.specs.Words.{AreServe, AsksRightly, IsMode, arguments_by, arguments_of, asked_by, asked_of, command_line, files_of, has_anchors, is_joined, is_whole, list_of}

pub is_plain : is_simple_and_free command_line ≡ true
is_plain = refl

pub replay_passes : (name : List ℕ) → fault_of command_line (name ∷ codes "replay" ∷ []) ≡ []
unfolding clap_on_literals
replay_passes name = refl

pub check_passes : (name : List ℕ) → fault_of command_line (name ∷ codes "check" ∷ []) ≡ []
unfolding clap_on_literals
check_passes name = refl

-- with no words behind it a check has no files
pub no_files : (name : List ℕ) → files_of (arguments_by (name ∷ codes "check" ∷ [])) ≡ None
unfolding clap_on_literals
no_files name = refl

pub no_list : (name : List ℕ) → list_of (arguments_by (name ∷ codes "check" ∷ [])) ≡ None
unfolding clap_on_literals
no_list name = refl

pub not_joined : (name : List ℕ) → is_joined (arguments_by (name ∷ codes "check" ∷ [])) ≡ false
unfolding clap_on_literals
not_joined name = refl

pub not_whole : (name : List ℕ) → is_whole (arguments_by (name ∷ codes "check" ∷ [])) ≡ false
unfolding clap_on_literals
not_whole name = refl

pub not_anchored : (name : List ℕ) → has_anchors (arguments_by (name ∷ codes "check" ∷ [])) ≡ false
unfolding clap_on_literals
not_anchored name = refl

-- the command that such words name
pub is_simple_line : is_simple command_line ≡ true
is_simple_line = refl

pub names_replay : (name : List ℕ)
    → option_map (λ p. p.0) (subcommand_of command_line (name ∷ codes "replay" ∷ []))
    ≡ Some (codes "replay")
unfolding clap_on_literals
names_replay name = refl

pub names_check : (name : List ℕ)
    → option_map (λ p. p.0) (subcommand_of command_line (name ∷ codes "check" ∷ []))
    ≡ Some (codes "check")
unfolding clap_on_literals
names_check name = refl

rows_name : {Z : Type 0} (o : Option (Box SubCommand Z))
    → option_map (λ b. (out-SubCommand (box_value b)).name.now) o
    ≡ option_map (λ p. p.0) (subcommand_rows o)
rows_name None = refl
rows_name (Some b) = refl

pub matches_name : (m : ArgMatches)
    → subcommand_name_of m ≡ option_map (λ p. p.0) (subcommand_rows_of m)
matches_name m = rows_name (out-ArgMatches m).subcommand

-- the command that a parse met, where the words are written out
named_by : (m : ArgMatches) (app : App) (words : List (List ℕ)) (command : List ℕ)
    → subcommand_rows_of m ≡ subcommand_of app words
    → option_map (λ p. p.0) (subcommand_of app words) ≡ Some command
    → subcommand_name_of m ≡ Some command
named_by m app words command rows e = matches_name m
    ∙ ap (λ (r : Option (Text × List Row)). option_map (λ p. p.0) r) rows ∙ e

module _ (m : ArgMatches) (app : App) (words : List (List ℕ)) (is : app ≡ command_line)
    (has : HasMatchesOf app words m) (name : List ℕ) where
  rows_are : subcommand_rows_of m ≡ subcommand_of command_line words
  rows_are = (has (ap is_simple is ∙ is_simple_line)).1
      ∙ ap (λ (a : App). subcommand_of a words) is

  pub arguments_are : arguments_of (subcommand_rows_of m) ≡ arguments_by words
  arguments_are = ap arguments_of rows_are

  pub name_is : subcommand_name_of m ≡ option_map (λ p. p.0) (subcommand_of command_line words)
  name_is = matches_name m ∙ ap (λ (r : Option (Text × List Row)). option_map (λ p. p.0) r) rows_are

  abbrev first_is : List ℕ → List (List ℕ) → Type 0
  first_is command ws = option_map (λ p. p.0) (subcommand_of command_line ws) ≡ Some command

  pub replay_named : words ≡ name ∷ codes "replay" ∷ []
      → subcommand_name_of m ≡ Some (codes "replay")
  replay_named e = named_by m command_line words (codes "replay") rows_are
      (subst (first_is (codes "replay")) (sym e) (names_replay name))

  pub check_named : words ≡ name ∷ codes "check" ∷ []
      → subcommand_name_of m ≡ Some (codes "check")
  check_named e = named_by m command_line words (codes "check") rows_are
      (subst (first_is (codes "check")) (sym e) (names_check name))

pub help_fails : (name : List ℕ)
    → fault_of command_line (name ∷ codes "--help" ∷ []) ≡ kind.DisplayHelp ∷ []
unfolding clap_on_literals
help_fails name = refl

pub version_fails : (name : List ℕ)
    → fault_of command_line (name ∷ codes "--version" ∷ []) ≡ kind.DisplayVersion ∷ []
unfolding clap_on_literals
version_fails name = refl

pub none_fails : (name : List ℕ) → fault_of command_line (name ∷ []) ≡ kind.MissingSubcommand ∷ []
unfolding clap_on_literals
none_fails name = refl

-- a command that is added as a subcommand
pub adds_app : {E : Type 0} (program sub : Command) (app : App) (result : Result Command E)
    → IfOk result (λ r. AddsSubcommand program sub r)
    → (out-Command sub).has_globals ≡ false → app_of sub ≡ app
    → IfOk result (λ r. app_of r ≡ with_subcommand (app_of program) app.top)
adds_app program sub app (Ok r) adds local is = adds.shape local ∙ ap (λ (a : App). with_subcommand (app_of program) a.top) is
adds_app program sub app (Err e) adds local is = adds

or_false : (b : Bool) → (b || false) ≡ b
or_false true = refl
or_false false = refl

-- an argument that is added
pub adds_rule : {E : Type 0} (old : Command) (a : Arg) (result : Result Command E) → IfOk result (λ r. AddsArg old a r)
    → a.global ≡ false → IfOk result (λ r. app_of r ≡ with_rule (app_of old) (rule_of a))
adds_rule old a (Ok r) adds local = adds.shape local
adds_rule old a (Err e) adds local = adds

pub adds_local : {E : Type 0} (old : Command) (a : Arg) (result : Result Command E) → IfOk result (λ r. AddsArg old a r)
    → a.global ≡ false → IfOk result (λ r. (out-Command r).has_globals ≡ (out-Command old).has_globals)
adds_local old a (Ok r) adds local =
    adds.globals ∙ ap (λ (b : Bool). (out-Command old).has_globals || b) local ∙ or_false (out-Command old).has_globals
adds_local old a (Err e) adds local = adds

-- what is so of what is Ok
pub ok_is : {A E X : Type 0} (f : A → X) (r : Result A E) {x y : X} → x ≡ y → IfOk r (λ a. f a ≡ x) → IfOk r (λ a. f a ≡ y)
ok_is f (Ok a) e h = h ∙ e
ok_is f (Err e') e h = h

-- what holds anyway holds of what is Ok
pub on_ok : {A E P : Type 0} (r : Result A E) → P → OnOk r P
on_ok (Ok a) p = p
on_ok (Err e) p = tt

module _ (m : ArgMatches) (app : App) (words : List (List ℕ)) (is : app ≡ command_line) (has : HasMatchesOf app words m) where
  -- a mode that the matches ask for is the one that the words ask for
  pub mode_by : (r : Result Mode ModeFault) → IfOk r (IsMode (asked_of (subcommand_name_of m)) (arguments_of (subcommand_rows_of m)))
      → IfOk r (IsMode (asked_by words) (arguments_by words))
  mode_by r h =
      subst (λ (o : Option (List ℕ)). IfOk r (IsMode (asked_of o) (arguments_by words))) (name_is m app words is has [])
      (subst (λ (o : Option (Text × List Row)). IfOk r (IsMode (asked_of (subcommand_name_of m)) (arguments_of o)))
      (rows_are m app words is has []) h)

  -- and so is the number of sessions
  pub number_by : (n : ℕ) → AreServe words n → AsksRightly (arguments_of (subcommand_rows_of m)) n
  number_by n a = subst (λ (o : Option (Text × List Row)). AsksRightly (arguments_of o) n)
      (sym (rows_are m app words is has [])) a.number

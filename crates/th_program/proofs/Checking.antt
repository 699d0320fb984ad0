-- What words that begin with `check` ask for.
use Rattle.std.proofs.Common.{inl, inr, ◌≡◌, ◌∙◌, ℕ, Bool, true, false, List, ap, sym, refl, subst, Option, None, Some, Result, Ok, Err, IfOk}
use Rattle.std.specs.Prelude.{◌≢◌, ◌⊎◌, ◌||◌, IsSome, MatchResult, if◌then◌else◌}
use Rattle.std.proofs.lemmas.Bool.{false≢true}
use Rattle.std.proofs.lemmas.Option.{none-some, same_Some}
use Rattle.clap.specs.Words.{Row}
use Rattle.th_program.specs.declared.modes.Asked.{Asked}
use Rattle.th_program.specs.declared.modes.Manner.{Manner}
use Rattle.th_program.specs.declared.modes.Manner.TheVariants as manner
use Rattle.th_program.specs.declared.modes.Mode.{Mode}
use Rattle.th_program.specs.declared.modes.Mode.TheVariants.{Check, CheckFiles, Replay, Serve}
use Rattle.th_program.specs.declared.modes.ModeFault.{ModeFault}
use Rattle.th_program.specs.declared.modes.ModeFault.TheVariants.{Short}
use Rattle.th_program.specs.declared.modes.Sources.TheVariants as sources
use Rattle.th_program.specs.Words.{GivesCheck, GivesMode, HasFiles, IsList, IsMode, IsUsage, anchors_of, files_of, has_anchors, is_joined, is_whole, list_of, manner_of}

abbrev IsCheck : Asked → Type 0
IsCheck Asked.Check = Unit {0}
IsCheck Asked.Replay = ⊥
IsCheck Asked.Serve = ⊥

-- without files, and without a list, the mode is the one that reads standard input
pub only_check : (asked : Asked) (rows : List Row) (r : Result Mode ModeFault) → asked ≡ Asked.Check → files_of rows ≡ None
    → list_of rows ≡ None → IfOk r (IsMode asked rows) → GivesMode r → GivesCheck r
only_check asked rows (Err e) a none unlisted is gives = gives
only_check asked rows (Ok Check) a none unlisted is gives = refl
only_check asked rows (Ok Replay) a none unlisted is gives = absurd (subst IsCheck (sym a ∙ is) tt)
only_check asked rows (Ok (Serve path n)) a none unlisted is gives = absurd (subst IsCheck (sym a ∙ is.0) tt)
only_check asked rows (Ok (CheckFiles (sources.Words names) so file)) a none unlisted is gives = absurd (none-some _ (sym none ∙ is.1.0))
only_check asked rows (Ok (CheckFiles (sources.List list) so file)) a none unlisted is gives =
    absurd (none-some _ (sym unlisted ∙ is.1.1))

-- the mode of a list
pub listed_mode : (rows : List Row) (r : Result Mode ModeFault) (list : List ℕ) (so : Manner) (file : Option (List ℕ))
    → IfOk r (λ m. IsList m list so file) → files_of rows ≡ None → list_of rows ≡ Some list → manner_of rows ≡ Some so
    → file ≡ anchors_of rows → IfOk r (IsMode Asked.Check rows)
listed_mode rows (Err e) list so file is none given asked told = is
listed_mode rows (Ok (CheckFiles (sources.List other) one anchors)) list so file is none given asked told =
    (refl, (none, given ∙ ap (λ (l : List ℕ). Some l) (sym is.0)), asked ∙ ap (λ (m : Manner). Some m) (sym is.1), is.2 ∙ told)
listed_mode rows (Ok (CheckFiles (sources.Words names) one anchors)) list so file is none given asked told = absurd is
listed_mode rows (Ok Check) list so file is none given asked told = absurd is
listed_mode rows (Ok Replay) list so file is none given asked told = absurd is
listed_mode rows (Ok (Serve path n)) list so file is none given asked told = absurd is

-- what was not given cannot be whole, or that of anchors
pub no_manner : (rows : List Row) → manner_of rows ≡ None → HasFiles rows → ⊥
no_manner rows none has = by (is_joined rows) (is_whole rows) (has_anchors rows) none has.whole has.anchored
  where
    by : (joined whole told : Bool)
        → (if joined then Some (if whole then manner.Whole else manner.Joined) else if whole || told then None else Some manner.Each) ≡ None
        → (whole ≡ true → joined ≡ true) → (told ≡ true → joined ≡ true) → ⊥
    by true whole told none asks needs = absurd (none-some _ (sym none))
    by false true told none asks needs = false≢true (asks refl)
    by false false true none asks needs = false≢true (needs refl)
    by false false false none asks needs = absurd (none-some _ (sym none))

-- as what files are checked says whether they are to be a history
joins : (rows : List Row) (so : Manner) → manner_of rows ≡ Some so → (so ≡ manner.Each → ⊥) → is_joined rows ≡ true
joins rows so is other = by (is_joined rows) (is_whole rows) (has_anchors rows) is
  where
    by : (joined whole told : Bool)
        → (if joined then Some (if whole then manner.Whole else manner.Joined) else if whole || told then None else Some manner.Each) ≡ Some so
        → joined ≡ true
    by true whole told is = refl
    by false true told is = absurd (none-some _ is)
    by false false true is = absurd (none-some _ is)
    by false false false is = absurd (other (sym (same_Some _ _ is)))

-- the mode where no files are named
abbrev IsUnnamed : Result Mode ModeFault → Manner → Type 0
IsUnnamed r so = MatchResult r (λ m. (m ≡ Check) × (so ≡ manner.Each))
    (λ e. (so ≢ manner.Each) × (IsUsage e ⊎ (e ≡ Short)))

pub unnamed_mode : (rows : List Row) (r : Result Mode ModeFault) (so : Manner) → IsUnnamed r so → files_of rows ≡ None → list_of rows ≡ None
    → manner_of rows ≡ Some so → IfOk r (IsMode Asked.Check rows)
unnamed_mode rows (Ok m) so is none unlisted asked = subst (λ (x : Mode). IsMode Asked.Check rows x) (sym is.0)
    (refl, none, unlisted, asked ∙ ap (λ (x : Manner). Some x) is.1)
unnamed_mode rows (Err e) so is none unlisted asked = tt

pub unnamed_given : (rows : List Row) (r : Result Mode ModeFault) (so : Manner) → IsUnnamed r so → files_of rows ≡ None
    → list_of rows ≡ None → manner_of rows ≡ Some so → HasFiles rows → GivesMode r
unnamed_given rows (Ok m) so is none unlisted asked has = tt
unnamed_given rows (Err e) so is none unlisted asked has = absurd (elim (has.some (joins rows so asked is.0)) [
  | inl some ↦ false≢true (subst IsSome none some)
  | inr some ↦ false≢true (subst IsSome unlisted some)
])

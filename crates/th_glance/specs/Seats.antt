-- What contracts see of a pen and of an eye; and the rule of a channel's word, with what each kind
-- of step on it tells (docs/GLANCES.md, "The lists", "The steps").
use Rattle.std.specs.Prelude.{◌≡◌, ℕ, List, [], ◌∷◌, ◌++◌, false}
use mathlib.Core.Option.{some}
use mathlib.Core.List.{IsPrefix}
use lib.ListN.{get_elem?}
use Rattle.atomic_table.specs.Table.{State, Me, Step}
use Rattle.atomic_table.specs.Seated.{TableId}
use Rattle.th_glance.specs.declared.glance.Glance.{Glance}
use Rattle.th_glance.specs.declared.sight.Sight.{Sight}
use Rattle.th_glance.specs.Lists.{word_of, last_of, glance_of, IsCounted}

-- of a pen or an eye: which word it is on, and its list
pub record Known : Type 0 where
  pub table : TableId
  pub list : List Glance

abbrev pub sight : List Glance → List Glance → Sight
sight seen told = record { seen = seen; told = told }

-- the pen's at the opening
abbrev pub first_sight : Sight
first_sight = sight (glance_of 0 false ∷ []) []

-- a table of one word and no slots
abbrev pub Words : Type 0
Words = State (Unit {0}) Sight

-- a seat of it
abbrev pub Sitter : Type 0
Sitter = Me (Unit {0}) Sight

-- the rule: there is one list, whose last glance the word says. The pen is the seat 0 and has seen
-- all of it; what any seat has seen, or was told of, begins it
pub record Kept (s : Words) : Type 0 where
  pub log : List Glance
  pub words : s.words ≡ word_of (last_of log) ∷ []
  pub counted : IsCounted log
  pub pen : (v : Sight) → get_elem? s.views 0 ≡ some v → v.seen ≡ log
  pub seats : (by : ℕ) (v : Sight) → get_elem? s.views by ≡ some v
      → IsPrefix v.seen log × IsPrefix v.told log

-- an eye's load: its list goes on, and ends with the glance that was found
abbrev pub Sees : Step (Unit {0}) → Sitter → ℕ → Sitter → Type 0
Sees step before found after =
    IsPrefix before.0.seen after.0.seen × IsCounted after.0.seen
    × (found ≡ word_of (last_of after.0.seen))

-- the pen's store: one glance more, which is the one that the stored word says
abbrev pub Writes : Step (Unit {0}) → Sitter → ℕ → Sitter → Type 0
Writes step before stored after =
    (g : Glance) → stored ≡ word_of g → after.0.seen ≡ before.0.seen ++ g ∷ []

-- the pen's load: its list stays, and what it was told of begins it
abbrev pub Covers : Step (Unit {0}) → Sitter → ℕ → Sitter → Type 0
Covers step before found after =
    (after.0.seen ≡ before.0.seen) × IsPrefix before.0.told before.0.seen

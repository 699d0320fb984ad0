-- What a desk knows of topics by their names.
use Rattle.std.specs.Prelude.{◌≡◌, ◌⊎◌, ℕ, List, nat_eq, Option, Some}
use Rattle.std.specs.Cmp.Lexicographic.{pointwise}
use Rattle.std.specs.Map.{lookup}
use Rattle.std.specs.Option.{option_or}
use Rattle.th_registry.specs.declared.opening.Found.{Found}

-- topics with their names: a few, and the others
pub record Cached : Type 0 where
  pub few : List (List ℕ × Found)
  pub others : List (List ℕ × Found)

-- the topic of this name among these
abbrev pub named : List ℕ → List (List ℕ × Found) → Option Found
named name topics = lookup (pointwise nat_eq name) topics

-- the topic of this name
abbrev pub found_in : Cached → List ℕ → Option Found
found_in c name = option_or (named name c.few) (named name c.others)

-- under each name is found what was found there; but under this one that topic may be found now
abbrev pub Learns : (old new : Cached) → List ℕ → Found → Type 0
Learns old new name found = (q : List ℕ) → (found_in new q ≡ found_in old q)
    ⊎ ((q ≡ name) × (found_in new q ≡ Some found))

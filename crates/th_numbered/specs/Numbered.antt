-- Entries by number, as a map of numbers is seen.
use Rattle.std.specs.Prelude.{ℕ, nat_lt, List, Option, Some, None, refl}
use Rattle.std.specs.List.{filter}
use Rattle.std.specs.Coded.{Coded, code_by, coded×, coded_ℕ, coded_list}
use Rattle.std.specs.Ordering.{nat_cmp}
use Rattle.std.specs.BTreeMap.{is_at}
use Rattle.std.specs.List.Sorted.{IsStrictlySortedBy}
use Rattle.std.specs.Map.{keys_of, lookup, set_value}

-- the numbers with their values, the numbers rising
pub record Numbered (V : Type 0) : Type 0 where
  pub entries : List (ℕ × V)

abbrev pub numbered_code : {V : Type 0} → Coded V → Coded (Numbered V)
numbered_code {V} code =
    code_by
    (List (ℕ × V))
    (coded_list (coded× coded_ℕ code))
    (λ m. m.entries)
    (λ es. record { entries = es })
    (λ _. refl)

module _ {V : Type 0} where
  -- the value at a number
  abbrev pub at : Numbered V → ℕ → Option V
  at m n = lookup (is_at (nat_cmp n)) m.entries

  -- with this value at a number that is there
  abbrev pub with_value : Numbered V → ℕ → V → Numbered V
  with_value m n v = record { entries = set_value (is_at (nat_cmp n)) m.entries v }

  abbrev pub IsOrdered : Numbered V → Type 0
  IsOrdered m = IsStrictlySortedBy nat_cmp (keys_of m.entries)

  -- the entries above a number, or all
  abbrev pub above : Option ℕ → List (ℕ × V) → List (ℕ × V)
  above None es = es
  above (Some n) es = filter (λ e. nat_lt n e.0) es

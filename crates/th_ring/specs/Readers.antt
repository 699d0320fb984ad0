-- How many receivers have still to read each position from `low` to the tail.
use Rattle.std.specs.Prelude.{◌≡◌, ℕ, ◌+◌, ◌-◌, ◌<◌, List, [], ◌∷◌, length, get_or, max, nat_eq, if◌then◌else◌}
use Rattle.th_model.specs.Places.{Places, to_come}

-- how many receivers read a position first of those from `low` on
abbrev pub first_at : ℕ → Places → ℕ → ℕ
first_at low [] i = 0
first_at low (p ∷ ps) i = (if nat_eq (max p.1 low) i then 1 else 0) + first_at low ps i

-- a count for each position from `low` to the tail
pub record AreCounts (count : ℕ → ℕ) (low tail : ℕ) (counts : List ℕ) : Type 0 where
  pub size : length counts ≡ tail - low
  pub each : (k : ℕ) → k < tail - low → get_or counts k 0 ≡ count (low + k)

abbrev pub AreFirst : ℕ → ℕ → Places → List ℕ → Type 0
AreFirst low tail places = AreCounts (first_at low places) low tail

abbrev pub AreToCome : ℕ → ℕ → Places → List ℕ → Type 0
AreToCome low tail places = AreCounts (to_come places) low tail

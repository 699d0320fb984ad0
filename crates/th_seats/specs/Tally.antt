-- What books and shares say, and when the shares account for every event (docs/HISTORIES.md,
-- "Shares").
use Rattle.std.specs.Prelude.{◌≡◌, ℕ, List, length, All, sum_by, refl}
use Rattle.std.specs.Coded.{Coded, code_by, coded×, coded_ℕ}

-- what a book says: its key, the events so far, and how many shares are out
pub record Tally : Type 0 where
  pub key : ℕ
  pub total : ℕ
  pub shares_out : ℕ

-- what a share says: its key, and the events made through it
pub record Part : Type 0 where
  pub key : ℕ
  pub count : ℕ

abbrev pub coded_tally : Coded Tally
coded_tally =
    code_by (ℕ × (ℕ × ℕ)) (coded× coded_ℕ (coded× coded_ℕ coded_ℕ))
    (λ t. (t.key, (t.total, t.shares_out)))
    (λ p. record { key = p.0; total = p.1.0; shares_out = p.1.1 }) (λ _. refl)

abbrev pub coded_part : Coded Part
coded_part =
    code_by (ℕ × ℕ) (coded× coded_ℕ coded_ℕ) (λ t. (t.key, t.count))
    (λ p. record { key = p.0; count = p.1 }) (λ _. refl)

-- the events of all these shares
abbrev pub count_of : List Part → ℕ
count_of parts = sum_by (λ p. p.count) parts

-- these shares are all that are out, and account for every event
pub record Settles (tally : Tally) (parts : List Part) : Type 0 where
  pub all : length parts ≡ tally.shares_out
  pub keys : All (λ p. p.key ≡ tally.key) parts
  pub counts : count_of parts ≡ tally.total

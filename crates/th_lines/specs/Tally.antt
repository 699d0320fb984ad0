-- A reader or a writer as its callers see it.
use Rattle.std.specs.Prelude.{ℕ}

-- the device itself, how often it was called and how often it failed, each up to 2^64 - 1
pub record Tally (D : Type 0) : Type 0 where
  pub device : D
  pub calls : ℕ
  pub failures : ℕ

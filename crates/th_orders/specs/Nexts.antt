-- The next place of a topic, as a number of 64 bits or none.
use Rattle.std.specs.Prelude.{ℕ, ◌^◌, Option, Some, None}

-- none stands for 2^64, which no event has as its place
abbrev pub place_of : Option ℕ → ℕ
place_of (Some n) = n
place_of None = 2 ^ 64

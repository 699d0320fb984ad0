-- What a client is told for whom there is no place.
use Rattle.std.specs.Prelude.{ℕ, List, [], ◌∷◌, ◌++◌, codes}

abbrev pub busy_line : List ℕ
busy_line = codes "ERR 24 busy" ++ 10 ∷ []

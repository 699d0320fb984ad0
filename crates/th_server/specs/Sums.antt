-- What the sums of a topic's files bind.
use Rattle.std.specs.Prelude.{◌≡◌, ℕ, List, Option, Some, None, [], ◌++◌, ⊤}
use Rattle.sha2.specs.Sha256.{sha256}
use Rattle.th_program.specs.declared.sums.Sum.{Sum}
use Rattle.th_server.specs.declared.sums.Chain.{Chain}
use Rattle.th_server.specs.declared.sums.Chain.TheVariants.{Loose, Begins, GoesOn}

-- what comes before the bytes of the next file
abbrev pub bound_by : Chain → List ℕ
bound_by Loose = []
bound_by Begins = []
bound_by (GoesOn sum) = sum.0

-- the sum that the one of the next file binds, if there is one; none where that file is to have no sum
abbrev pub before : Chain → Option (Option Sum)
before Loose = None
before Begins = Some None
before (GoesOn sum) = Some (Some sum)

-- what binds the file with this sum, and those before it; nothing does where it has none
abbrev pub behind : Option Sum → Chain
behind None = Loose
behind (Some sum) = GoesOn sum

-- the sum of a file of these bytes, if there is one, is that of what comes before them and of the bytes
abbrev pub Binds : Chain → List ℕ → Chain → Type 0
Binds chain bytes Loose = ⊤
Binds chain bytes Begins = ⊥
Binds chain bytes (GoesOn sum) = sum.0 ≡ sha256 (bound_by chain ++ bytes)

-- What sums of files bind (docs/SERVER.md, "Checksums").
use Rattle.std.specs.Prelude.{ℕ, List, Option, Some, None, [], ◌++◌}
use Rattle.std.specs.Io.KnownBytes.{Consumes}
use Rattle.sha2.specs.Hashers.{Holds256}
use Rattle.sha2.specs.declared.Sha256.{Sha256}
use Rattle.th_program.specs.declared.sums.Sum.{Sum}

-- what comes before the bytes of a file: the sum of those before it, if there are any
abbrev pub bound_by : Option Sum → List ℕ
bound_by None = []
bound_by (Some sum) = sum.0

-- a hasher has taken what a reader gave, whose bytes are these before and these afterwards where they are known
abbrev pub Takes : Option (List ℕ) → Option (List ℕ) → Sha256 → Sha256 → Type 0
Takes before after old new = (m : List ℕ) → Holds256 old m →
    (bytes : List ℕ) × Holds256 new (m ++ bytes) × Consumes before after bytes

-- What hashers take, piece by piece.
use Rattle.std.proofs.Common.{ℕ, List, Option, [], ◌++◌, append-nil, append_assoc, subst, sym}
use Rattle.std.proofs.KnownBytes.{Consumes-nil, Consumes-trans}
use Rattle.sha2.specs.Hashers.{Holds256}
use Rattle.sha2.specs.declared.Sha256.{Sha256}
use Rattle.th_program.specs.Sums.{Takes}

-- before anything was read
pub Takes-none : (r : Option (List ℕ)) (h : Sha256) → Takes r r h h
Takes-none r h m held = ([], subst (λ (l : List ℕ). Holds256 h l) (sym (append-nil m)) held, Consumes-nil r)

-- one piece behind another
pub Takes-trans : (r1 r2 r3 : Option (List ℕ)) (h1 h2 h3 : Sha256) → Takes r1 r2 h1 h2 → Takes r2 r3 h2 h3 → Takes r1 r3 h1 h3
Takes-trans r1 r2 r3 h1 h2 h3 first second m held =
    let one = first m held in
    let two = second (m ++ one.0) one.1 in (
      one.0 ++ two.0,
      subst (λ (l : List ℕ). Holds256 h3 l) (append_assoc m one.0 two.0) two.1,
      Consumes-trans r1 r2 r3 one.0 two.0 one.2 two.2,
    )

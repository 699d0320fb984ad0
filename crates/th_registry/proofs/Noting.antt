-- Equal histories have the same next place, and the same key.
use Rattle.std.proofs.Common.{◌≡◌, ◌+◌, length, ap}
use Rattle.th_registry.specs.History.{History}

pub same-place : {E S C R : Type 0} {a b : History E S C R} → a ≡ b → a.first + length a.entries ≡ b.first + length b.entries
same-place {E} {S} {C} {R} e = ap (λ (h : History E S C R). h.first + length h.entries) e

pub same-key : {E S C R : Type 0} {a b : History E S C R} → a ≡ b → a.key ≡ b.key
same-key {E} {S} {C} {R} e = ap (λ (h : History E S C R). h.key) e

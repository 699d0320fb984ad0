-- The calls that the table of a kind has for a handle.
use Rattle.std.proofs.Common.{◌≡◌, ℕ, Option, subst, sym}
use Rattle.th_log.specs.CallLaws.{IsBy}

-- they are made by it
pub by-table : {C : Type 0} (caller : C → Option ℕ) (table : ℕ → Option C) → ((n : ℕ) → IsBy caller n (table n)) →
    (n m : ℕ) (call : Option C)
    → n ≡ m → call ≡ table n → IsBy caller m call
by-table {C} caller table law n m call same is =
    subst (λ (o : Option C). IsBy caller m o) (sym is) (subst (λ (k : ℕ). IsBy caller k (table n)) same (law n))

-- Words at the front of a line.
use Rattle.std.proofs.Common.{◌≡◌, ◌≢◌, ℕ, ◌<◌, ◌^◌, Bool, false, List, ◌++◌, refl, sym, ap, ◌∙◌, Option, Some, None}
use Rattle.std.specs.Bool.{Decides}
use Rattle.std.specs.Fmt.{decimal}
use Rattle.std.specs.Prelude.{codes, ◌==◌}
use Rattle.std.proofs.lemmas.Bool.{false≢true}
use Rattle.std.proofs.lemmas.Bool.Decides.{Decides-eqb}
use Rattle.std.proofs.lemmas.List.{append_cancel_left}
use Rattle.std.proofs.lemmas.Option.{none-some, same_Some}
use Rattle.th_lines.specs.Fields.{number_of}
use Rattle.th_lines.proofs.Numbers.{number-found, number-again}
use Rattle.th_traces.specs.Tables.{behind}
use Rattle.th_traces.proofs.Entries.{behind-found}

-- the words are there, and bytes behind them
pub there : (line words rest bytes : List ℕ) (b : Bool) → line ≡ words ++ rest → Decides b (rest ≡ bytes)
    → Decides b (line ≡ words ++ bytes)
there line words rest bytes b e d = (
  λ t. e ∙ ap (λ (l : List ℕ). words ++ l) (d.0 t),
  λ s. d.1 (append_cancel_left words rest bytes (sym e ∙ s)),
)

-- other bytes are there, or none
pub never : {P : Type 0} → (P → ⊥) → Decides false P
never wrong = (λ t. absurd (false≢true t), λ p. absurd (wrong p))

pub missing : (line words bytes : List ℕ) → ((rest : List ℕ) → line ≢ words ++ rest) → Decides false (line ≡ words ++ bytes)
missing line words bytes other = never (other bytes)

-- digits, and the number that they spell
pub digits : (bytes : List ℕ) (n told : ℕ) → n < 2 ^ 64 → number_of bytes ≡ Some told → Decides (told == n) (bytes ≡ decimal n)
digits bytes n told low h = (
  λ t. (number-found bytes told h).1 ∙ ap decimal ((Decides-eqb told n).0 t),
  λ e. (Decides-eqb told n).1 (same_Some told n (sym h ∙ ap number_of e ∙ number-again n low)),
)

pub no_digits : (bytes : List ℕ) (n : ℕ) → n < 2 ^ 64 → number_of bytes ≡ None → Decides false (bytes ≡ decimal n)
no_digits bytes n low h = never (λ e. none-some n (sym h ∙ ap number_of e ∙ number-again n low))

-- a letter and a space, and what is read behind them
module _ {A : Type 0} (read : List ℕ → Option A) (line : List ℕ) where
  pub behind-missing : ((rest : List ℕ) → line ≢ codes "C " ++ rest) → behind (codes "C") read line ≡ None
  behind-missing other = at (behind (codes "C") read line) refl
    where
      at : (o : Option A) → behind (codes "C") read line ≡ o → o ≡ None
      at None h = refl
      at (Some a) h = let b = behind-found (codes "C") read line a h in absurd (other b.0 b.1)

  pub reply-there : (rest : List ℕ) → line ≡ codes "R " ++ rest → behind (codes "R") read line ≡ read rest
  reply-there rest e = ap (λ (l : List ℕ). behind (codes "R") read l) e

  pub reply-missing : ((rest : List ℕ) → line ≢ codes "R " ++ rest) → behind (codes "R") read line ≡ None
  reply-missing other = at (behind (codes "R") read line) refl
    where
      at : (o : Option A) → behind (codes "R") read line ≡ o → o ≡ None
      at None h = refl
      at (Some a) h = let b = behind-found (codes "R") read line a h in absurd (other b.0 b.1)

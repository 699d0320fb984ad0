-- A handle that stood for nothing stands for what was made.
use Rattle.std.proofs.Common.{◌≡◌, ℕ, false, rules}
use Rattle.std.specs.Prelude.{Option, Some, None, is_some, Result, Ok, Err, MatchResult}
use Rattle.th_c.specs.declared.content.Content.{Content}
use Rattle.th_c.specs.declared.outcome.Refusal.{Refusal}
use Rattle.th_c.specs.declared.status.TheConstants.{DONE}
use Rattle.th_c.specs.Making.{Fills}
use Rattle.th_c.specs.Outcomes.{code_of}

module _ {B : Type 0} (value : B → Content) (opens : Result Content Refusal → Type 0) where
  from_nothing : (came : Result B Refusal) (status : ℕ) (after : Option Content)
      → MatchResult came (λ b. opens (Ok (value b))) (λ why. opens (Err why))
      → MatchResult came (λ b. (status ≡ DONE) × (after ≡ Some (value b))) (λ why. (status ≡ code_of why) × (after ≡ None))
      → Fills opens None status after
  from_nothing (Ok b) status after opened put = (Ok (value b), put.0, put.1, opened)
  from_nothing (Err why) status after opened put = (Err why, put.0, put.1, opened)

  pub filled : (before : Option Content) (came : Result B Refusal) (status : ℕ) (after : Option Content) → is_some before ≡ false
      → MatchResult came (λ b. opens (Ok (value b))) (λ why. opens (Err why))
      → MatchResult came (λ b. (status ≡ DONE) × (after ≡ Some (value b))) (λ why. (status ≡ code_of why) × (after ≡ None))
      → Fills opens before status after
  filled None came status after closed opened put = from_nothing came status after opened put
  filled (Some content) came status after closed opened put = search rules

-- What is read of the words of a mode that serves.
use Rattle.std.proofs.Common.{◌≡◌, ◌∙◌, ℕ, List, [], Option, Some, None, ap, false, refl, sym}
use Rattle.std.proofs.lemmas.Bool.{false≢true}
use Rattle.std.specs.Prelude.{is_some}
use Rattle.std.specs.Borrow.{Bor}
use Rattle.std.specs.Option.{option_map, unwrap_or}

pub is_mapped : (o : Option (Bor (List ℕ))) → is_some o ≡ is_some (option_map (λ (s : Bor (List ℕ)). s.now) o)
is_mapped None = refl
is_mapped (Some s) = refl

-- what is read of an argument, or nothing
pub text_given : (o : Option (Bor (List ℕ))) (d : Bor (List ℕ)) (given : Option (List ℕ)) → d.now ≡ [] →
    option_map (λ s. s.now) o ≡ given → (unwrap_or o d).now ≡ unwrap_or given []
text_given None d given e h = e ∙ ap (λ (o : Option (List ℕ)). unwrap_or o []) h
text_given (Some s) d given e h = ap (λ (o : Option (List ℕ)). unwrap_or o []) h

pub none_given : {A : Type 0} (o : Option A) → is_some o ≡ false → o ≡ None
none_given None e = refl
none_given (Some a) e = absurd (false≢true (sym e))

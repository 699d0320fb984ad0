-- What is heard and said of bytes that come one after the other.
use Rattle.std.proofs.Common.{◌≡◌, ◌∙◌, ℕ, List, [], ◌∷◌, ◌++◌, refl, sym, ap, subst, Option}
use Rattle.std.proofs.KnownBytes.{Appends-trans}
use Rattle.th_program.specs.Advice.{Advised, Heard, Hears, advice_to, after, heard_after, news, text_of}
use Rattle.th_program.specs.Run.{Errors, IsSaid, errors_of}

-- one byte more
after_more : (h : Heard) (bytes : List ℕ) (b : ℕ)
    → heard_after h (bytes ++ b ∷ []) ≡ after (heard_after h bytes) b
after_more h [] b = refl
after_more h (x ∷ xs) b = after_more (after h x) xs b

and_nothing : (xs : List ℕ) → xs ++ [] ≡ xs
and_nothing [] = refl
and_nothing (x ∷ xs) = ap (λ (ys : List ℕ). x ∷ ys) (and_nothing xs)

regrouped : (xs ys zs : List ℕ) → xs ++ (ys ++ zs) ≡ (xs ++ ys) ++ zs
regrouped [] ys zs = refl
regrouped (x ∷ xs) ys zs = ap (λ (ws : List ℕ). x ∷ ws) (regrouped xs ys zs)

advice_more : (h : Heard) (bytes : List ℕ) (b : ℕ)
    → advice_to h (bytes ++ b ∷ []) ≡ advice_to h bytes ++ text_of (news (heard_after h bytes) b)
advice_more h [] b = and_nothing (text_of (news h b))
advice_more h (x ∷ xs) b = ap (λ (ys : List ℕ). text_of (news h x) ++ ys) (advice_more (after h x) xs b)
    ∙ regrouped (text_of (news h x)) (advice_to (after h x) xs)
    (text_of (news (heard_after (after h x) xs) b))

-- a text was said, and then another
pub said_more : (a b c : Errors) (s t : List ℕ) → IsSaid a b s → IsSaid b c t
    → (c.failures ≡ 0 → b.failures ≡ 0) → IsSaid a c (s ++ t)
said_more a b c s t p q still = λ begun ended.
    Appends-trans a.written b.written c.written s t (p begun (still ended)) (q (still ended) ended)

module _ {W E : Type 0} (contents : E → Option (List ℕ)) (a b c : Advised W E) where
  abbrev said_by : Advised W E → Errors
  said_by x = errors_of contents x.errors

  pub hears_more : (bytes : List ℕ) (byte : ℕ) → Hears contents a b bytes
      → c.heard ≡ after b.heard byte
      → IsSaid (said_by b) (said_by c) (text_of (news b.heard byte))
      → (c.errors.failures ≡ 0 → b.errors.failures ≡ 0)
      → c.to_people ≡ b.to_people
      → Hears contents a c (bytes ++ byte ∷ [])
  hears_more bytes byte so_far heard said still people = record {
    heard = heard ∙ ap (λ (h : Heard). after h byte) so_far.heard ∙ sym (after_more a.heard bytes byte);
    said = subst (λ (text : List ℕ). IsSaid (said_by a) (said_by c) text)
        (sym (advice_more a.heard bytes byte))
        (said_more (said_by a) (said_by b) (said_by c) _ _ so_far.said
        (subst (λ (h : Heard). IsSaid (said_by b) (said_by c) (text_of (news h byte))) so_far.heard said)
        still);
    still = λ ended. so_far.still (still ended);
    people = people ∙ so_far.people;
  }

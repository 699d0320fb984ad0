-- Live handles, counted.
use Rattle.std.proofs.Common.{◌≡◌, ℕ, ◌+◌, ◌<◌, true, false, cond, List, [], ◌∷◌, ◌++◌, length, Some, None, IsSome, is_eq, refl, ap, subst, ◌∙◌, arith}
use Rattle.std.specs.List.{AllByRecursion}
use Rattle.std.specs.Map.{keys_of, lookup, remove_entry}
use Rattle.std.specs.Ordering.{nat_cmp, match_ordering}
use Rattle.std.specs.declared.cmp.Ordering.TheVariants.{Less, Equal, Greater}
use Rattle.std.specs.BTreeMap.{insert_entry, is_at}
use Rattle.std.proofs.lemmas.Bool.{false≢true}
use Rattle.std.proofs.lemmas.Cmp.{ranked}
use Rattle.std.proofs.lemmas.List.{length-append}
use Rattle.std.proofs.lemmas.Map.Made.{length-remove_key}
use Rattle.th_model.specs.Handles.{is_sender, with_sender, without_sender, IsRising, AreLive}
use Rattle.th_model.proofs.PlaceLemmas.{not_at, all_below}
use Rattle.th_model.proofs.HandleLemmas.{all_given, with_sender-new}

none-some : {X : Type 0} (x : X) → None ≡ Some x → ⊥
none-some x h = cc

-- a sender more, and one less
pub length-cloned : (next : ℕ) (senders ks : List ℕ) → AreLive next senders ks → length (with_sender senders next) ≡ length senders + 1
length-cloned next senders ks h =
    ap length (with_sender-new senders next (all_given next senders h.by_sender.given)) ∙ length-append senders (next ∷ [])

pub length-dropped : (senders : List ℕ) (tx : ℕ) → is_sender senders tx ≡ true → length (without_sender senders tx) + 1 ≡ length senders
length-dropped senders tx h = length-remove_key (is_at (nat_cmp tx)) senders h

module _ {X : Type 0} where
  none_below : (es : List (ℕ × X)) (rx : ℕ) → AllByRecursion (λ k. rx < k) (keys_of es) → lookup (is_at (nat_cmp rx)) es ≡ None
  none_below [] rx h = refl
  none_below (e ∷ es) rx h = rw (not_at rx e.0 (λ q. omega (arith, h.0))) (none_below es rx h.1)

  length-new : (es : List (ℕ × X)) (rx : ℕ) (x : X) → AllByRecursion (λ k. k < rx) (keys_of es) →
      length (insert_entry nat_cmp es rx x) ≡ length es + 1
  length-new [] rx x h = refl
  length-new (e ∷ es) rx x h = elim (nat_cmp rx e.0) as
      (λ r. r ≡ nat_cmp rx e.0 →
      length (match_ordering r ((rx, x) ∷ e ∷ es) ((e.0, x) ∷ es) (e ∷ insert_entry nat_cmp es rx x)) ≡ length (e ∷ es) + 1) [
        | Less ↦ λ q. absurd (omega (arith, ranked rx e.0 Less q, h.0))
        | Equal ↦ λ q. absurd (omega (arith, ranked rx e.0 Equal q, h.0))
        | Greater ↦ λ q. omega (arith, length-new es rx x h.1)
      ] refl

  length-at : (es : List (ℕ × X)) (rx : ℕ) (x : X) → IsRising (keys_of es) → IsSome (lookup (is_at (nat_cmp rx)) es) →
      length (insert_entry nat_cmp es rx x) ≡ length es
  length-at [] rx x h there = absurd (false≢true there)
  length-at (e ∷ es) rx x h there = elim (nat_cmp rx e.0) as
      (λ r. r ≡ nat_cmp rx e.0 → IsSome (cond (is_eq r) (Some e.1) (lookup (is_at (nat_cmp rx)) es)) →
      length (match_ordering r ((rx, x) ∷ e ∷ es) ((e.0, x) ∷ es) (e ∷ insert_entry nat_cmp es rx x)) ≡ length (e ∷ es)) [
        | Less ↦ λ q t. absurd (false≢true (subst IsSome (none_below es rx (all_below e.0 rx (keys_of es) (ranked rx e.0 Less q) h.0)) t))
        | Equal ↦ λ q t. refl
        | Greater ↦ λ q t. omega (arith, length-at es rx x h.1 t)
      ] refl there

  length-without : (es : List (ℕ × X)) (rx : ℕ) (x : X) → lookup (is_at (nat_cmp rx)) es ≡ Some x →
      length (remove_entry (is_at (nat_cmp rx)) es) + 1 ≡ length es
  length-without [] rx x h = absurd (none-some x h)
  length-without (e ∷ es) rx x h = elim (is_at (nat_cmp rx) e.0) as
      (λ b. cond b (Some e.1) (lookup (is_at (nat_cmp rx)) es) ≡ Some x →
      length (cond b es (e ∷ remove_entry (is_at (nat_cmp rx)) es)) + 1 ≡ length (e ∷ es)) [
        | true ↦ λ _. omega arith
        | false ↦ λ k. omega (arith, length-without es rx x k)
      ] h

  -- a receiver or reader more, the same, and one less
  pub entry-joined : (next : ℕ) (senders : List ℕ) (es : List (ℕ × X)) (x : X) → AreLive next senders (keys_of es) →
      length (insert_entry nat_cmp es next x) ≡ length es + 1
  entry-joined next senders es x h = length-new es next x (all_given next (keys_of es) h.by_receiver.given)

  pub entry-moved : (next : ℕ) (senders : List ℕ) (es : List (ℕ × X)) (rx : ℕ) (x : X) → AreLive next senders (keys_of es) →
      IsSome (lookup (is_at (nat_cmp rx)) es) → length (insert_entry nat_cmp es rx x) ≡ length es
  entry-moved next senders es rx x h there = length-at es rx x h.by_receiver.rising there

  pub entry-left : (es : List (ℕ × X)) (rx : ℕ) (x : X) → lookup (is_at (nat_cmp rx)) es ≡ Some x →
      length (remove_entry (is_at (nat_cmp rx)) es) + 1 ≡ length es
  entry-left es rx x there = length-without es rx x there

  -- an entry with a number above all others goes to the end
  pub entry-last : (es : List (ℕ × X)) (rx : ℕ) (x : X) → AllByRecursion (λ k. k < rx) (keys_of es) →
      insert_entry nat_cmp es rx x ≡ es ++ (rx, x) ∷ []
  entry-last [] rx x h = refl
  entry-last (e ∷ es) rx x h = elim (nat_cmp rx e.0) as
      (λ r. r ≡ nat_cmp rx e.0 →
      match_ordering r ((rx, x) ∷ e ∷ es) ((e.0, x) ∷ es) (e ∷ insert_entry nat_cmp es rx x) ≡ e ∷ (es ++ (rx, x) ∷ [])) [
        | Less ↦ λ q. absurd (omega (arith, ranked rx e.0 Less q, h.0))
        | Equal ↦ λ q. absurd (omega (arith, ranked rx e.0 Equal q, h.0))
        | Greater ↦ λ q. ap (λ l. e ∷ l) (entry-last es rx x h.1)
      ] refl

  -- the numbers of a rising list's front are below that of the entry after it
  pub front-below : (es : List (ℕ × X)) (e : ℕ × X) (more : List (ℕ × X)) → IsRising (keys_of (es ++ e ∷ more)) →
      AllByRecursion (λ k. k < e.0) (keys_of es)
  front-below [] e more h = tt
  front-below (d ∷ es) e more h = (middle es e more h.0, front-below es e more h.1)
    where
      middle : (fs : List (ℕ × X)) (f : ℕ × X) (gs : List (ℕ × X)) → AllByRecursion (λ k. d.0 < k) (keys_of (fs ++ f ∷ gs)) → d.0 < f.0
      middle [] f gs k = k.0
      middle (c ∷ fs) f gs k = middle fs f gs k.1

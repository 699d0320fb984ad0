-- Which numbers are live as a channel's handles are made, moved and spent. Both kinds of channels keep them alike: the
-- senders in a list, the receivers in a map with a number for each.
use Rattle.std.proofs.Common.{◌≡◌, ℕ, ◌+◌, ◌<◌, ◌≤◌, inl, inr, Bool, true, false, cond, ◌||◌, List, [], ◌∷◌, Option, Some, None, is_some, refl, sym, ap, subst, ◌∙◌, arith}
use Rattle.std.specs.List.{AllByRecursion}
use Rattle.std.specs.Map.{keys_of}
use Rattle.std.specs.Ordering.{nat_cmp, match_ordering, is_eq}
use Rattle.std.specs.declared.cmp.Ordering.TheVariants.{Less, Equal, Greater}
use Rattle.std.specs.BTreeMap.{is_at}
use Rattle.std.specs.BTreeSet.{insert_key}
use Rattle.std.proofs.lemmas.Bool.{false≢true}
use Rattle.std.proofs.lemmas.Bool.Decides.{eqb_tells}
use Rattle.std.proofs.lemmas.Cmp.{ranked}
use Rattle.std.proofs.lemmas.Option.{none-some, same_Some}
use Rattle.th_model.specs.declared.handles.TxId.{TxId}
use Rattle.th_model.specs.declared.handles.RxId.{RxId}
use Rattle.th_model.specs.Handles.{is_sender, with_sender, without_sender, AreLive}
use Rattle.th_model.specs.Places.{Places, place_of, with_place, without_place}
use Rattle.th_model.proofs.PlaceLemmas.{not_at, is_at_self, place-with_same, place-with_other, place-without_other}
use Rattle.th_model.proofs.HandleLemmas.{next_is_free}
use Rattle.th_registry.specs.Calls.{tx, rx}
use Rattle.th_registry.specs.Live.{Handle, Sender, Receiver}

-- the numbers that are live, and the next one
pub record Numbers : Type 0 where
  pub next : ℕ
  pub senders : List ℕ
  pub places : Places

abbrev pub lives : Numbers → Handle → Bool
lives c (Sender t) = is_sender c.senders t.0
lives c (Receiver r) = is_some (place_of c.places r.0)

abbrev pub number_of : Handle → ℕ
number_of (Sender t) = t.0
number_of (Receiver r) = r.0

-- what is live stays so but for what has gone, and the handle that was made is live, was not so before, and has the next
-- number
pub record Follows (old : Numbers) (gone : Handle → Type 0) (made : Option Handle) (new : Numbers) : Type 0 where
  pub stays : (x : Handle) → (gone x → ⊥) → lives old x ≡ true → lives new x ≡ true
  pub fresh : (x : Handle) → made ≡ Some x → (lives new x ≡ true) × (lives old x ≡ false) × (number_of x ≡ old.next)
  pub later : old.next ≤ new.next

-- senders
sender-with : (ks : List ℕ) (k q : ℕ) → is_sender ks q ≡ true → is_sender (with_sender ks k) q ≡ true
sender-with [] k q h = absurd (false≢true h)
sender-with (x ∷ ks) k q h =
    elim (nat_cmp k x) as (λ r. is_sender (match_ordering r (k ∷ x ∷ ks) (x ∷ ks) (x ∷ insert_key nat_cmp ks k)) q ≡ true) [
      | Less ↦ elim (is_at (nat_cmp q) k) as (λ b. (b || is_sender (x ∷ ks) q) ≡ true) [ true ↦ refl | false ↦ h ]
      | Equal ↦ h
      | Greater ↦
          elim (is_at (nat_cmp q) x) as (λ b. (b || is_sender ks q) ≡ true → (b || is_sender (insert_key nat_cmp ks k) q) ≡ true)
          [ true ↦ λ _. refl | false ↦ sender-with ks k q ] h
    ]

sender-new : (ks : List ℕ) (k : ℕ) → is_sender (with_sender ks k) k ≡ true
sender-new [] k = rw (is_at_self k) refl
sender-new (x ∷ ks) k = elim (nat_cmp k x) as
    (λ r. nat_cmp k x ≡ r → is_sender (match_ordering r (k ∷ x ∷ ks) (x ∷ ks) (x ∷ insert_key nat_cmp ks k)) k ≡ true) [
      | Less ↦ λ _. rw (is_at_self k) refl
      | Equal ↦ λ e. rw e refl
      | Greater ↦ λ e. rw e (sender-new ks k)
    ] refl

further : (q x : ℕ) (ks ls : List ℕ) → (is_sender ks q ≡ true → is_sender ls q ≡ true) → is_sender (x ∷ ks) q ≡ true →
    is_sender (x ∷ ls) q ≡ true
further q x ks ls f h =
    elim (is_at (nat_cmp q) x) as (λ b. (b || is_sender ks q) ≡ true → (b || is_sender ls q) ≡ true) [ true ↦ λ _. refl | false ↦ f ] h

sender-without : (ks : List ℕ) (k q : ℕ) → (q ≡ k → ⊥) → is_sender ks q ≡ true → is_sender (without_sender ks k) q ≡ true
sender-without [] k q ne h = h
sender-without (x ∷ ks) k q ne h =
    elim (nat_cmp k x) as (λ r. r ≡ nat_cmp k x → is_sender (cond (is_eq r) ks (x ∷ without_sender ks k)) q ≡ true) [
      | Less ↦ λ _. further q x ks (without_sender ks k) (sender-without ks k q ne) h
      | Equal ↦
          λ e. (let same : k ≡ x = ranked k x Equal e in ap (λ b. b || is_sender ks q) (sym (not_at q x (λ s. ne (s ∙ sym same)))) ∙ h)
      | Greater ↦ λ _. further q x ks (without_sender ks k) (sender-without ks k q ne) h
    ] refl

sender-free : (ks : List ℕ) (q : ℕ) → AllByRecursion (λ k. (0 < k) × (k < q)) ks → is_sender ks q ≡ false
sender-free [] q h = refl
sender-free (k ∷ ks) q h = rw (not_at q k (λ e. omega (arith, h.0.1))) (sender-free ks q h.1)

-- receivers
place-with : (ps : Places) (r i q : ℕ) → is_some (place_of ps q) ≡ true → is_some (place_of (with_place ps r i) q) ≡ true
place-with ps r i q h = elim (eqb_tells q r) [
  | inl e ↦ ap (λ k. is_some (place_of (with_place ps r i) k)) e.1 ∙ ap is_some (place-with_same ps r i)
  | inr n ↦ ap is_some (place-with_other ps r i q n.1) ∙ h
]

place-without : (ps : Places) (r q : ℕ) → (q ≡ r → ⊥) → is_some (place_of ps q) ≡ true → is_some (place_of (without_place ps r) q) ≡ true
place-without ps r q ne h = ap is_some (place-without_other ps r q ne) ∙ h

-- with one sender more, and with one receiver more
abbrev pub with_clone : Numbers → Numbers
with_clone c = record { next = c.next + 1; senders = with_sender c.senders c.next; places = c.places }

abbrev pub with_join : Numbers → ℕ → Numbers
with_join c i = record { next = c.next + 1; senders = c.senders; places = with_place c.places c.next i }

module _ (c : Numbers) (gone : Handle → Type 0) where
  -- no handle was made
  abbrev pub Goes : Numbers → Type 0
  Goes new = Follows c gone None new

  pub stands : Goes c
  stands = record { stays = λ x _ h. h; fresh = λ x e. absurd (none-some x e); later = omega arith }

  -- a receiver is moved
  pub moves : (r i : ℕ) → Goes (record c { places = with_place c.places r i })
  moves r i = record { stays = stays; fresh = λ x e. absurd (none-some x e); later = omega arith }
    where
      stays : (x : Handle) → (gone x → ⊥) → lives c x ≡ true → lives (record c { places = with_place c.places r i }) x ≡ true
      stays (Sender t) ne h = h
      stays (Receiver q) ne h = place-with c.places r i q.0 h

  -- a sender is spent, and a receiver
  pub drops : (t : TxId) → gone (Sender t) → Goes (record c { senders = without_sender c.senders t.0 })
  drops t ends = record { stays = stays; fresh = λ x e. absurd (none-some x e); later = omega arith }
    where
      stays : (x : Handle) → (gone x → ⊥) → lives c x ≡ true → lives (record c { senders = without_sender c.senders t.0 }) x ≡ true
      stays (Sender q) ne h = sender-without c.senders t.0 q.0 (λ e. ne (subst gone (ap (λ n. Sender (tx n)) (sym e)) ends)) h
      stays (Receiver q) ne h = h

  pub leaves : (r : RxId) → gone (Receiver r) → Goes (record c { places = without_place c.places r.0 })
  leaves r ends = record { stays = stays; fresh = λ x e. absurd (none-some x e); later = omega arith }
    where
      stays : (x : Handle) → (gone x → ⊥) → lives c x ≡ true → lives (record c { places = without_place c.places r.0 }) x ≡ true
      stays (Sender q) ne h = h
      stays (Receiver q) ne h = place-without c.places r.0 q.0 (λ e. ne (subst gone (ap (λ n. Receiver (rx n)) (sym e)) ends)) h

  module _ (live : AreLive c.next c.senders (keys_of c.places)) where
    -- a new sender, and a new receiver
    pub clones : Follows c gone (Some (Sender (tx c.next))) (with_clone c)
    clones = record { stays = stays; fresh = fresh; later = omega arith }
      where
        new : Numbers
        new = with_clone c

        stays : (x : Handle) → (gone x → ⊥) → lives c x ≡ true → lives new x ≡ true
        stays (Sender q) ne h = sender-with c.senders c.next q.0 h
        stays (Receiver q) ne h = h

        fresh : (x : Handle) → Some (Sender (tx c.next)) ≡ Some x → (lives new x ≡ true) × (lives c x ≡ false) × (number_of x ≡ c.next)
        fresh x e = subst (λ y. (lives new y ≡ true) × (lives c y ≡ false) × (number_of y ≡ c.next)) (same_Some (Sender (tx c.next)) x e)
            (sender-new c.senders c.next, sender-free c.senders c.next live.by_sender.given, refl)

    pub joins : (i : ℕ) → Follows c gone (Some (Receiver (rx c.next))) (with_join c i)
    joins i = record { stays = stays; fresh = fresh; later = omega arith }
      where
        new : Numbers
        new = with_join c i

        stays : (x : Handle) → (gone x → ⊥) → lives c x ≡ true → lives new x ≡ true
        stays (Sender q) ne h = h
        stays (Receiver q) ne h = place-with c.places c.next i q.0 h

        fresh : (x : Handle) → Some (Receiver (rx c.next)) ≡ Some x → (lives new x ≡ true) × (lives c x ≡ false) × (number_of x ≡ c.next)
        fresh x e = subst (λ y. (lives new y ≡ true) × (lives c y ≡ false) × (number_of y ≡ c.next)) (same_Some (Receiver (rx c.next)) x e)
            (ap is_some (place-with_same c.places c.next i), ap is_some (next_is_free c.next c.senders c.places live), refl)

-- one after the other, where the second makes no handle and ends none that the first one made
pub then_goes : {old mid new : Numbers} {gone gone' : Handle → Type 0} {made made' : Option Handle} → Follows old gone made mid →
    Follows mid gone' made' new →
    ((x : Handle) → gone' x → gone x) → ((x : Handle) → made ≡ Some x → gone' x → ⊥) → Follows old gone made new
then_goes {old = old} {mid = mid} {new = new} {gone = gone} {gone' = gone'} {made = made} f g within kept = record {
  stays = λ x ne h. g.stays x (λ k. ne (within x k)) (f.stays x ne h);
  fresh = λ x e. (g.stays x (kept x e) (f.fresh x e).0, (f.fresh x e).1, (f.fresh x e).2);
  later = omega (arith, f.later, g.later);
}

-- by other words for what was made and has gone
pub as_said : {old new : Numbers} {gone gone' : Handle → Type 0} {made made' : Option Handle} → Follows old gone made new →
    ((x : Handle) → gone x → gone' x) → ((x : Handle) → made' ≡ Some x → made ≡ Some x) → Follows old gone' made' new
as_said f more said = record { stays = λ x ne h. f.stays x (λ k. ne (more x k)) h; fresh = λ x e. f.fresh x (said x e); later = f.later }

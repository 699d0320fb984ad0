-- Groups of handles that grow at their end.
use Rattle.std.proofs.Common.{◌≡◌, ap, suc, ℕ, ◌-◌, ◌<◌, Bool, true, false, List, [], ◌∷◌, ◌++◌, length, refl, sym, subst, Some, arith, length-append, eqb}
use Rattle.std.specs.Prelude.{not, slice_get}
use Rattle.std.specs.List.{AllByRecursion}
use Rattle.std.specs.Map.{keys_of}
use Rattle.std.specs.Ordering.{nat_cmp, match_ordering}
use Rattle.std.specs.declared.cmp.Ordering.TheVariants.{Less, Equal, Greater}
use Rattle.std.specs.BTreeMap.{insert_entry}
use Rattle.std.proofs.lemmas.Cmp.{ranked}
use Rattle.std.proofs.lemmas.List.{map-append}
use Rattle.std.proofs.lemmas.Bool.{eqb-true, ltb-true, lt-ltb, false≢true}
use Rattle.std.proofs.lemmas.Option.{none-some, same_Some}
use Rattle.th_model.specs.Handles.{AreHandles, AreLive, IsRising, is_sender, with_sender}
use Rattle.th_model.proofs.HandleLemmas.{with_sender-new}
use Rattle.th_lines.proofs.Numbers.{and_both, and_parts}
use Rattle.th_traces.specs.Groups.{last_id, is_further}

-- the last number of a list is the last one
pub last-is : (ks : List ℕ) (k : ℕ) → slice_get ks (length ks - 1) ≡ Some k → k ≡ last_id ks
last-is [] k h = absurd (none-some k h)
last-is (x ∷ []) k h = sym (same_Some _ _ h)
last-is (x ∷ y ∷ ks) k h =
    let e : length (x ∷ y ∷ ks) - 1 ≡ suc (length ks) = omega arith in
    let d : length (y ∷ ks) - 1 ≡ length ks = omega arith in
    let there : slice_get (y ∷ ks) (length ks) ≡ Some k = subst (λ (n : ℕ). slice_get (x ∷ y ∷ ks) n ≡ Some k) e h in
    last-is (y ∷ ks) k (subst (λ (n : ℕ). slice_get (y ∷ ks) n ≡ Some k) (sym d) there)

pub last-key : {X : Type 0} (ps : List (ℕ × X)) (k : ℕ × X) → slice_get ps (length ps - 1) ≡ Some k → k.0 ≡ last_id (keys_of ps)
last-key {X} [] k h = absurd (none-some k h)
last-key {X} (x ∷ []) k h = sym (ap (λ (q : ℕ × X). q.0) (same_Some _ _ h))
last-key {X} (x ∷ y ∷ ps) k h =
    let e : length (x ∷ y ∷ ps) - 1 ≡ suc (length ps) = omega arith in
    let d : length (y ∷ ps) - 1 ≡ length ps = omega arith in
    let there : slice_get (y ∷ ps) (length ps) ≡ Some k = subst (λ (n : ℕ). slice_get (x ∷ y ∷ ps) n ≡ Some k) e h in
    last-key (y ∷ ps) k (subst (λ (n : ℕ). slice_get (y ∷ ps) n ≡ Some k) (sym d) there)

pub all-snoc : {X : Type 0} (P : X → Type 0) (xs : List X) (x : X) → AllByRecursion P xs → P x → AllByRecursion P (xs ++ x ∷ [])
all-snoc P [] x h here = (here, tt)
all-snoc P (y ∷ xs) x h here = (h.0, all-snoc P xs x h.1 here)

pub none_of : {X : Type 0} (xs : List X) → eqb (length xs) 0 ≡ true → xs ≡ []
none_of [] h = refl
none_of (x ∷ xs) h = let e : length (x ∷ xs) ≡ 0 = eqb-true (length (x ∷ xs)) 0 h in absurd (omega arith)

pub not_true : (b : Bool) → not b ≡ true → b ≡ false
not_true true h = absurd (false≢true h)
not_true false h = refl

pub below_last : (ks : List ℕ) (k : ℕ) → IsRising ks → last_id ks < k → AllByRecursion (λ x. x < k) ks
below_last [] k r h = tt
below_last (x ∷ []) k r h = (h, tt)
below_last (x ∷ y ∷ ks) k r h = let rest = below_last (y ∷ ks) k r.1 h in (omega (arith, r.0.0, rest.0), rest)

rising-snoc : (ks : List ℕ) (k : ℕ) → IsRising ks → AllByRecursion (λ x. x < k) ks → IsRising (ks ++ k ∷ [])
rising-snoc [] k h below = (tt, tt)
rising-snoc (x ∷ ks) k h below = (all-snoc (λ y. x < y) ks k h.0 below.0, rising-snoc ks k h.1 below.1)

-- a further number of a group
pub further : (next : ℕ) (ids : List ℕ) (id : ℕ) → AreHandles next ids → is_further next ids id ≡ true → AreHandles next (ids ++ id ∷ [])
further next ids id h t =
    let a = and_parts _ _ t in
    let b = and_parts _ _ a.1 in
    let above = ltb-true _ _ a.0 in
    let below = ltb-true _ _ b.0 in
    let few = ltb-true _ _ b.1 in
    record {
      rising = rising-snoc ids id h.rising (below_last ids id h.rising above);
      given = all-snoc (λ k. (0 < k) × (k < next)) ids id h.given (omega arith, below);
      few = omega (arith, length-append ids (id ∷ []));
    }

pub above : (next : ℕ) (ids : List ℕ) (id : ℕ) → AreHandles next ids → is_further next ids id ≡ true → AllByRecursion (λ x. x < id) ids
above next ids id h t = below_last ids id h.rising (ltb-true _ _ (and_parts _ _ t).0)

-- a further sender, before any receiver
pub sender-live : (next : ℕ) (senders : List ℕ) (tx : ℕ) → AreLive next senders [] → is_further next senders tx ≡ true →
    AreLive next (with_sender senders tx) []
sender-live next senders tx h t =
    let at = with_sender-new senders tx (above next senders tx h.by_sender t) in
    record {
      first = h.first;
      fits = h.fits;
      by_sender = subst (AreHandles next) (sym at) (further next senders tx h.by_sender t);
      by_receiver = h.by_receiver;
      apart = tt;
    }

-- a further receiver
pub receiver-live : (next : ℕ) (senders ids : List ℕ) (rx : ℕ) → AreLive next senders ids → is_further next ids rx ≡ true →
    is_sender senders rx ≡ false → AreLive next senders (ids ++ rx ∷ [])
receiver-live next senders ids rx h t free = record {
  first = h.first;
  fits = h.fits;
  by_sender = h.by_sender;
  by_receiver = further next ids rx h.by_receiver t;
  apart = all-snoc (λ k. is_sender senders k ≡ false) ids rx h.apart free;
}

-- an entry of a further number is the last one
pub entry-last : {X : Type 0} (ps : List (ℕ × X)) (k : ℕ) (x : X) → AllByRecursion (λ j. j < k) (keys_of ps) →
    insert_entry nat_cmp ps k x ≡ ps ++ (k, x) ∷ []
entry-last {X} [] k x h = refl
entry-last {X} (p ∷ ps) k x h = elim (nat_cmp k p.0) as
    (λ r. r ≡ nat_cmp k p.0
    → match_ordering r ((k, x) ∷ p ∷ ps) ((p.0, x) ∷ ps) (p ∷ insert_entry nat_cmp ps k x) ≡ p ∷ ps ++ (k, x) ∷ []) [
      | Less ↦ λ e. absurd (omega (arith, ranked k p.0 Less e, h.0))
      | Equal ↦ λ e. absurd (omega (arith, ranked k p.0 Equal e, h.0))
      | Greater ↦ λ e. ap (λ (l : List (ℕ × X)). p ∷ l) (entry-last ps k x h.1)
    ] refl

pub keys-snoc : {X : Type 0} (ps : List (ℕ × X)) (k : ℕ) (x : X) → keys_of (ps ++ (k, x) ∷ []) ≡ keys_of ps ++ k ∷ []
keys-snoc {X} ps k x = map-append (λ (q : ℕ × X). q.0) ps ((k, x) ∷ [])

pub not_false : (b : Bool) → b ≡ false → not b ≡ true
not_false true h = absurd (false≢true (sym h))
not_false false h = refl

all-at : {X : Type 0} (P : X → Type 0) (done : List X) (x : X) (todo : List X) → AllByRecursion P (done ++ x ∷ todo) → P x
all-at P [] x todo h = h.0
all-at P (y ∷ done) x todo h = all-at P done x todo h.1

last_below : (done : List ℕ) (x : ℕ) (todo : List ℕ) → IsRising (done ++ x ∷ todo) → 0 < x → last_id done < x
last_below [] x todo r h = h
last_below (k ∷ []) x todo r h = r.0.0
last_below (k ∷ j ∷ ks) x todo r h = last_below (j ∷ ks) x todo r.1 h

all_below : (done : List ℕ) (x : ℕ) (todo : List ℕ) → IsRising (done ++ x ∷ todo) → AllByRecursion (λ k. k < x) done
all_below [] x todo r = tt
all_below (k ∷ done) x todo r = (all-at (λ j. k < j) done x todo r.0, all_below done x todo r.1)

-- each number of a group is a further one of those before it
pub is_next : (next : ℕ) (done : List ℕ) (x : ℕ) (todo : List ℕ) → AreHandles next (done ++ x ∷ todo) → (is_further next done x ≡ true)
    × AllByRecursion (λ k. k < x) done × (x < next)
is_next next done x todo h =
    let at = all-at (λ k. (0 < k) × (k < next)) done x todo h.given in (
      and_both _ _ (lt-ltb (last_id done) x (last_below done x todo h.rising at.0))
          (and_both _ _ (lt-ltb x next at.1) (lt-ltb (length done) 65535 (omega (arith, h.few, length-append done (x ∷ todo))))),
      all_below done x todo h.rising,
      at.1,
    )

pub keys-more : {X : Type 0} (done : List (ℕ × X)) (q : ℕ × X) (todo : List (ℕ × X)) →
    keys_of (done ++ q ∷ todo) ≡ keys_of done ++ q.0 ∷ keys_of todo
keys-more {X} done q todo = map-append (λ (q : ℕ × X). q.0) done (q ∷ todo)

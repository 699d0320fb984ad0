-- Where good diaries have as many receipts as a part has entries, somebody was told of each entry.
use Rattle.std.proofs.Common.{◌≡◌, ◌≢◌, ℕ, zero, suc, ◌-◌, ◌<◌, ◌≤◌, List, [], ◌∷◌, ◌++◌, length, map, Some, slice_get, refl, sym, ap, subst, ◌∙◌, inl, inr, arith}
use Rattle.std.specs.List.{AllByRecursion}
use Rattle.th_model.specs.Handles.{IsRising}
use Rattle.th_log.specs.Outcome.{Told}
use Rattle.th_log.specs.History.{Piece}
use Rattle.th_log.specs.Audit.{Stands, IsFree, AreApart, AreGood}
use Rattle.th_accounts.specs.declared.account.AccountFault.TheVariants.{Untold}
use Rattle.th_accounts.specs.Accounts.{all_of, IsAccount, IsAmong, IsNoAccount, WasTold}
use Rattle.th_accounts.proofs.Pigeons.{Apart, Below, Has, few, pigeon}

pub get_lt : {X : Type 0} (xs : List X) (k : ℕ) (x : X) → slice_get xs k ≡ Some x → k < length xs
get_lt [] k x h = cc
get_lt (y ∷ xs) zero x h = omega arith
get_lt (y ∷ xs) (suc k) x h = omega (arith, get_lt xs k x h)

all-append : {X : Type 0} (P : X → Type 0) (xs ys : List X) → AllByRecursion P xs → AllByRecursion P ys → AllByRecursion P (xs ++ ys)
all-append P [] ys h k = k
all-append P (x ∷ xs) ys h k = (h.0, all-append P xs ys h.1 k)

apart-append : (xs ys : List ℕ) → Apart xs → Apart ys → AllByRecursion (λ x. AllByRecursion (λ y. y ≢ x) ys) xs → Apart (xs ++ ys)
apart-append [] ys a b c = b
apart-append (x ∷ xs) ys a b c = (all-append (λ y. y ≢ x) xs ys a.0 c.0, apart-append xs ys a.1 b c.1)

length_map : {X : Type 0} (f : X → ℕ) (xs : List X) → length (map f xs) ≡ length xs
length_map f [] = refl
length_map f (x ∷ xs) = omega (arith, length_map f xs)

map_append : {X : Type 0} (f : X → ℕ) (xs ys : List X) → map f (xs ++ ys) ≡ map f xs ++ map f ys
map_append f [] ys = refl
map_append f (x ∷ xs) ys = ap (λ zs. f x ∷ zs) (map_append f xs ys)

module _ {S C R : Type 0} (p : Piece S C R) where
  abbrev number : Told C R → ℕ
  number t = t.place - p.first

  abbrev Stand : List (Told C R) → Type 0
  Stand ts = AllByRecursion (Stands p) ts

  stand_all : (ds : List (List (Told C R))) → AllByRecursion Stand ds → Stand (all_of ds)
  stand_all [] h = tt
  stand_all (d ∷ ds) h = all-append (Stands p) d (all_of ds) h.0 (stand_all ds h.1)

  below : (ts : List (Told C R)) → Stand ts → Below (length p.entries) (map number ts)
  below [] h = tt
  below (t ∷ ts) h = (get_lt p.entries (number t) _ h.0.entry, below ts h.1)

  above : (a : ℕ) (ts : List (Told C R)) → p.first ≤ a → Stand ts → AllByRecursion (λ x. a < x)
      (map (λ (t : Told C R). t.place) ts) → AllByRecursion (λ y. y ≢ a - p.first) (map number ts)
  above a [] le h r = tt
  above a (t ∷ ts) le h r = (λ e. omega (arith, e, le, h.0.begun, r.0), above a ts le h.1 r.1)

  rising : (ts : List (Told C R)) → Stand ts → IsRising (map (λ (t : Told C R). t.place) ts) → Apart (map number ts)
  rising [] h r = tt
  rising (t ∷ ts) h r = (above t.place ts h.0.begun h.1 r.0, rising ts h.1 r.1)

  -- no receipt of these has the place of this one
  head_free : (u : Told C R) (d ts : List (Told C R)) → Stands p u → Stand ts → AllByRecursion
      (λ t. IsFree t.place (u ∷ d)) ts → AllByRecursion (λ y. y ≢ number u) (map number ts)
  head_free u d [] su h f = tt
  head_free u d (t ∷ ts) su h f = (λ e. f.0.0 (omega (arith, e, su.begun, h.0.begun)), head_free u d ts su h.1 f.1)

  tail_free : (u : Told C R) (d ts : List (Told C R)) → AllByRecursion (λ t. IsFree t.place (u ∷ d)) ts → AllByRecursion
      (λ t. IsFree t.place d) ts
  tail_free u d [] f = tt
  tail_free u d (t ∷ ts) f = (f.0.1, tail_free u d ts f.1)

  crossing : (d ts : List (Told C R)) → Stand d → Stand ts → AllByRecursion (λ t. IsFree t.place d) ts → AllByRecursion
      (λ x. AllByRecursion (λ y. y ≢ x) (map number ts)) (map number d)
  crossing [] ts h k f = tt
  crossing (u ∷ d) ts h k f = (head_free u d ts h.0 k f, crossing d ts h.1 k (tail_free u d ts f))

  free_all : (d : List (Told C R)) (ds : List (List (Told C R))) → AllByRecursion
      (λ e. AllByRecursion (λ t. IsFree t.place d) e) ds → AllByRecursion (λ t. IsFree t.place d) (all_of ds)
  free_all d [] h = tt
  free_all d (e ∷ ds) h = all-append (λ t. IsFree t.place d) e (all_of ds) h.0 (free_all d ds h.1)

  apart_all : (ds : List (List (Told C R))) → AllByRecursion Stand ds → AllByRecursion
      (λ d. IsRising (map (λ (t : Told C R). t.place) d)) ds → AreApart ds → Apart (map number (all_of ds))
  apart_all [] h r a = tt
  apart_all (d ∷ ds) h r a = subst Apart (sym (map_append number d (all_of ds)))
      (apart-append (map number d) (map number (all_of ds)) (rising d h.0 r.0) (apart_all ds h.1 r.1 a.1)
      (crossing d (all_of ds) h.0 (stand_all ds h.1) (free_all d ds a.0)))

  pick : (k : ℕ) (ts : List (Told C R)) → Stand ts → Has k (map number ts) → (t : Told C R) × IsAmong t ts × (number t ≡ k) × Stands p t
  pick k [] h q = absurd q
  pick k (t ∷ ts) h (inl e) = (t, inl refl, sym e, h.0)
  pick k (t ∷ ts) h (inr q) = let r = pick k ts h.1 q in (r.0, inr r.1, r.2, r.3)

  -- good diaries have no more receipts than the part has entries
  pub no_more : (ds : List (List (Told C R))) → AreGood p ds → length (all_of ds) ≤ length p.entries
  no_more ds g = omega (
    arith,
    length_map number (all_of ds),
    few (length p.entries) (map number (all_of ds)) (apart_all ds g.stand g.rise g.apart) (below (all_of ds) (stand_all ds g.stand)),
  )

  pub untold : (ds : List (List (Told C R))) → AreGood p ds → length (all_of ds) ≡ length p.entries →
      (k : ℕ) → k < length p.entries → WasTold p ds k
  untold ds g whole k lt =
      let h = stand_all ds g.stand in
      let got = pick k (all_of ds) h
      (pigeon (length p.entries) (map number (all_of ds)) k (apart_all ds g.stand g.rise g.apart) (below (all_of ds) h)
      (length_map number (all_of ds) ∙ whole) lt) in
      record {
        receipt = got.0;
        among = got.1;
        place = omega (arith, got.2, got.3.begun);
        entry = subst (λ i. slice_get p.entries i ≡ Some (got.0.call, got.0.reply)) got.2 got.3.entry;
      }

  -- so diaries with as many are an account of the whole
  pub account : (ds : List (List (Told C R))) → AreGood p ds → length p.entries - length (all_of ds) ≡ 0 → IsAccount p ds
  account ds g none =
      let count : length (all_of ds) ≡ length p.entries = omega (arith, none, no_more ds g) in
      record { good = g; count = count; all = untold ds g count }

  -- and with fewer they are none
  pub no_account : (ds : List (List (Told C R))) (n : ℕ) → AreGood p ds → length p.entries - length (all_of ds) ≡ n → n ≢ 0
      → IsNoAccount p ds (Untold n)
  no_account ds n g left some = (g, omega (arith, some), omega (arith, left, no_more ds g))

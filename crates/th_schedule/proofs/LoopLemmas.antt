-- What the loops keep.
use Rattle.std.proofs.Common.{◌≡◌, ℕ, zero, suc, ◌+◌, ◌-◌, ◌<◌, ◌≤◌, true, false, Bool, cond, ◌||◌, List, [], ◌∷◌, ◌++◌, length, map, take, drop, Some, slice_get, get_or, refl, sym, ap, ◌∙◌, arith}
use Rattle.std.specs.List.{AllByRecursion}
use Rattle.std.specs.declared.vec.Vec.{Vec}
use Rattle.std.proofs.lemmas.List.{length-map, map-append}
use Rattle.std.proofs.lemmas.Option.{none-some, same_Some, slice_get-get_or}
use Rattle.th_orders.specs.declared.rests.EventAt.{EventAt}
use Rattle.th_orders.specs.Orders.{Nexts, Sessions}
use Rattle.th_registry.specs.History.{ChannelSegment}
use Rattle.th_schedule.specs.Hub.{behind, first_of}
use Rattle.th_schedule.specs.declared.receipts.Unread.{Unread}
use Rattle.th_schedule.specs.declared.receipts.Unread.TheVariants.{Stranger, Short}
use Rattle.th_schedule.specs.Schedule.{AreEntries, Told, event_of, told_of}
use Rattle.th_schedule.specs.Strangers.{IsFirstIn, IsStrangerOrShort, why_of}
use Rattle.th_schedule.specs.Untold.{own, untold_from}
use Rattle.th_schedule.proofs.Passing.{at, pass-told, pass-untold}

module _ {X : Type 0} where
  take-suc : (xs : List X) (i : ℕ) (x : X) → slice_get xs i ≡ Some x → take (suc i) xs ≡ take i xs ++ x ∷ []
  take-suc [] i x h = absurd (none-some x h)
  take-suc (y ∷ xs) zero x h = ap (λ (z : X). z ∷ []) (same_Some y x h)
  take-suc (y ∷ xs) (suc i) x h = ap (λ (l : List X). y ∷ l) (take-suc xs i x h)

  drop-suc : (xs : List X) (i : ℕ) (x : X) → slice_get xs i ≡ Some x → drop i xs ≡ (x ∷ drop (suc i) xs)
  drop-suc [] i x h = absurd (none-some x h)
  drop-suc (y ∷ xs) zero x h = ap (λ (z : X). z ∷ xs) (same_Some y x h)
  drop-suc (y ∷ xs) (suc i) x h = drop-suc xs i x h

  split-suc : (xs : List X) (i : ℕ) (x : X) → slice_get xs i ≡ Some x → xs ≡ take i xs ++ x ∷ drop (suc i) xs
  split-suc [] i x h = absurd (none-some x h)
  split-suc (y ∷ xs) zero x h = ap (λ (z : X). z ∷ xs) (same_Some y x h)
  split-suc (y ∷ xs) (suc i) x h = ap (λ (l : List X). y ∷ l) (split-suc xs i x h)

  -- the item at a number, as a loop reads it
  module _ (xs : List X) (i : ℕ) (x : X) (lt : i < length xs) (is : x ≡ get_or xs i x) where
    pub item-at : slice_get xs i ≡ Some x
    item-at = slice_get-get_or xs i x lt ∙ ap (λ (y : X). Some y) (sym is)

    pub take-item : take (i + 1) xs ≡ take i xs ++ x ∷ []
    take-item = (let next : i + 1 ≡ suc i = omega arith in ap (λ (j : ℕ). take j xs) next ∙ take-suc xs i x item-at)

    pub drop-item : drop i xs ≡ (x ∷ drop (i + 1) xs)
    drop-item = (let next : suc i ≡ i + 1 = omega arith in drop-suc xs i x item-at ∙ ap (λ (j : ℕ). x ∷ drop j xs) next)

    pub split-item : xs ≡ take i xs ++ x ∷ drop (i + 1) xs
    split-item =
        let next : suc i ≡ i + 1 = omega arith in
        split-suc xs i x item-at ∙ ap (λ (j : ℕ). take i xs ++ x ∷ drop j xs) next

  -- the same of items that are copied
  pub drop-got : (xs : List X) (i : ℕ) (d : X) → i < length xs → drop i xs ≡ (get_or xs i d ∷ drop (i + 1) xs)
  drop-got xs i d lt =
      let next : suc i ≡ i + 1 = omega arith in
      drop-suc xs i (get_or xs i d) (slice_get-get_or xs i d lt) ∙ ap (λ (j : ℕ). get_or xs i d ∷ drop j xs) next

  pub all-snoc : (P : X → Type 0) (xs : List X) (x : X) → AllByRecursion P xs → P x → AllByRecursion P (xs ++ x ∷ [])
  all-snoc P [] x h p = (p, tt)
  all-snoc P (y ∷ xs) x h p = (h.0, all-snoc P xs x h.1 p)

  pub take-whole : (xs : List X) (i : ℕ) → length xs ≤ i → take i xs ≡ xs
  take-whole [] zero le = refl
  take-whole [] (suc i) le = refl
  take-whole (y ∷ xs) zero le = absurd (omega (arith, le))
  take-whole (y ∷ xs) (suc i) le = ap (λ (l : List X). y ∷ l) (take-whole xs i (omega (arith, le)))

  pub length-take-of : (xs : List X) (i : ℕ) → i ≤ length xs → length (take i xs) ≡ i
  length-take-of [] zero le = refl
  length-take-of [] (suc i) le = absurd (omega (arith, le))
  length-take-of (y ∷ xs) zero le = refl
  length-take-of (y ∷ xs) (suc i) le = ap suc (length-take-of xs i (omega (arith, le)))

pub map-snoc : {X Y : Type 0} (f : X → Y) (xs : List X) (x : X) → map f (xs ++ x ∷ []) ≡ map f xs ++ f x ∷ []
map-snoc f [] x = refl
map-snoc {X} {Y} f (y ∷ xs) x = ap (λ (l : List Y). f y ∷ l) (map-snoc f xs x)

-- one mark more
pub one-more : (c a b : Bool) → (cond c true a || b) ≡ (a || (c || b))
one-more true true b = refl
one-more true false b = refl
one-more false true b = refl
one-more false false b = refl

pub or-more : (a b c : Bool) → ((a || b) || c) ≡ (a || (b || c))
or-more true b c = refl
or-more false b c = refl

pub or-none : (a : Bool) → (a || false) ≡ a
or-none true = refl
or-none false = refl

-- one topic more
pub own-snoc : (told : EventAt → Bool) (t : ℕ) (ns ms : Nexts) (n m j : ℕ) → length ns ≡ length ms → j ≡ t + length ns →
    own told t (ns ++ n ∷ []) (ms ++ m ∷ []) ≡ own told t ns ms ++ untold_from told j n (m - n) ∷ []
own-snoc told t [] [] n m j same is = (let one : t ≡ j = omega (arith, is) in ap (λ (i : ℕ). untold_from told i n (m - n) ∷ []) one)
own-snoc told t [] (y ∷ ms) n m j same is = absurd (omega (arith, same))
own-snoc told t (x ∷ ns) [] n m j same is = absurd (omega (arith, same))
own-snoc told t (x ∷ ns) (y ∷ ms) n m j same is =
    ap (λ (s : Sessions). untold_from told t x (y - x) ∷ s) (own-snoc told (t + 1) ns ms n m j (omega (arith, same)) (omega (arith, is)))

-- one place further in a topic
module _ (told : EventAt → Bool) (t first number m : ℕ) (lt : first + number < m) where
  abbrev pub rest_from : ℕ → List EventAt
  rest_from n = untold_from told t n (m - n)

  next-place : (first + number) + 1 ≡ first + (number + 1)
  next-place = omega arith

  pub one-told : told (at t (first + number)) ≡ true → rest_from (first + (number + 1)) ≡ rest_from (first + number)
  one-told h = ap rest_from (sym next-place) ∙ sym (pass-told told t (first + number) m lt h)

  pub one-untold : told (at t (first + number)) ≡ false →
      (at t (first + number) ∷ rest_from (first + (number + 1))) ≡ rest_from (first + number)
  one-untold h = ap (λ (n : ℕ). at t (first + number) ∷ rest_from n) (sym next-place) ∙ sym (pass-untold told t (first + number) m lt h)

-- the events of which nobody was told, of one topic more
pub own-next : (told : EventAt → Bool) (qs : List ChannelSegment) (p : ChannelSegment) (i first count : ℕ) → length qs ≡ i →
    first ≡ first_of p → first_of p + count ≡ behind p → own told 0 (map first_of (qs ++ p ∷ [])) (map behind (qs ++ p ∷ [])) ≡
    own told 0 (map first_of qs) (map behind qs) ++ untold_from told i first count ∷ []
own-next told qs p i first count len is all =
    let left : behind p - first_of p ≡ count = omega (arith, all) in
    let same : length (map first_of qs) ≡ length (map behind qs) = omega (arith, length-map qs first_of, length-map qs behind) in
    let number : i ≡ 0 + length (map first_of qs) = omega (arith, length-map qs first_of, len) in
    ap (λ (ns : Nexts). own told 0 ns (map behind (qs ++ p ∷ []))) (map-snoc first_of qs p)
    ∙ ap (λ (ms : Nexts). own told 0 (map first_of qs ++ first_of p ∷ []) ms) (map-snoc behind qs p)
    ∙ own-snoc told 0 (map first_of qs) (map behind qs) (first_of p) (behind p) i same number
    ∙ ap (λ (c : ℕ). own told 0 (map first_of qs) (map behind qs) ++ untold_from told i (first_of p) c ∷ []) left
    ∙ ap (λ (n : ℕ). own told 0 (map first_of qs) (map behind qs) ++ untold_from told i n count ∷ []) (sym is)

-- the events of one receipt more
pub events-next : (s : List Told) (i : ℕ) (x : Told) (old new : List EventAt) (e : EventAt) → take (i + 1) s ≡ take i s ++ x ∷ [] →
    old ≡ map event_of (take i s) → e ≡ event_of x → new ≡ old ++ e ∷ [] → new ≡ map event_of (take (i + 1) s)
events-next s i x old new e more is one all = all ∙ ap (λ (f : EventAt). old ++ f ∷ []) one
    ∙ ap (λ (l : List EventAt). l ++ event_of x ∷ []) is
    ∙ sym (map-snoc event_of (take i s) x) ∙ ap (λ (l : List Told). map event_of l) (sym more)

-- where the receipts of a session are not all entries
pub strange : {Z : Type 0} (ps : List ChannelSegment) (ss : List (Vec Told Z)) (i : ℕ) (s : Vec Told Z) (why : Unread) → i < length ss →
    s ≡ get_or ss i s → AreEntries ps (map told_of (take i ss)) → IsFirstIn ps s.items why →
    IsStrangerOrShort ps (map told_of ss) (why_of i why)
strange {Z} ps ss i s (Stranger topic place) lt is good f = record {
  earlier = map told_of (take i ss);
  before = f.before;
  stranger = f.stranger;
  after = f.after;
  later = map told_of (drop (i + 1) ss);
  here = ap (λ (l : List (Vec Told Z)). map told_of l) (split-item ss i s lt is)
      ∙ map-append told_of (take i ss) (s ∷ drop (i + 1) ss)
      ∙ ap (λ (l : List Told). map told_of (take i ss) ++ l ∷ map told_of (drop (i + 1) ss)) f.here;
  session_is = length-map (take i ss) told_of ∙ length-take-of ss i (omega (arith, lt));
  event_is = f.event_is;
  good = (good, f.good);
  bad = f.bad;
}
strange ps ss i s Short lt is good f = tt

-- The events of which nobody was told, as they are passed.
use Rattle.std.proofs.Common.{◌≡◌, ℕ, zero, suc, ◌+◌, ◌-◌, ◌<◌, ◌≤◌, true, false, Bool, eqb, List, [], ◌∷◌, Some, slice_get, refl, sym, ap, ◌∙◌, inl, inr, arith}
use Rattle.std.specs.Prelude.{if◌then◌else◌}
use Rattle.std.proofs.lemmas.Bool.{eqb-true, eqb-false}
use Rattle.std.proofs.lemmas.Option.{none-some, same_Some}
use Rattle.th_orders.specs.declared.rests.EventAt.{EventAt}
use Rattle.th_orders.specs.Orders.{AreOver, Nexts, Sessions, Takes, advanced, first_of}
use Rattle.th_orders.proofs.Greedy.{cons_not, head_is, tail_is}
use Rattle.th_schedule.specs.Untold.{own, untold_from}

abbrev pub at : ℕ → ℕ → EventAt
at t n = record { topic = t; place = n }

-- each next place is not behind the end
abbrev pub AreWithin : Nexts → Nexts → Type 0
AreWithin [] [] = Unit {0}
AreWithin [] (m ∷ ms) = ⊥
AreWithin (n ∷ ns) [] = ⊥
AreWithin (n ∷ ns) (m ∷ ms) = (n ≤ m) × AreWithin ns ms

pub within-advance : (ns ms : Nexts) (k n m : ℕ) → AreWithin ns ms → slice_get ns k ≡ Some n → slice_get ms k ≡ Some m → n < m →
    AreWithin (advanced ns k) ms
within-advance [] ms k n m w a b lt = absurd (none-some n a)
within-advance (x ∷ ns) [] k n m w a b lt = absurd w
within-advance (x ∷ ns) (y ∷ ms) zero n m w a b lt = (omega (arith, same_Some x n a, same_Some y m b, lt), w.1)
within-advance (x ∷ ns) (y ∷ ms) (suc k) n m w a b lt = (w.0, within-advance ns ms k n m w.1 a b lt)

pub within-end : (ns ms : Nexts) (k n : ℕ) → AreWithin ns ms → slice_get ns k ≡ Some n → (m : ℕ) × (slice_get ms k ≡ Some m) × (n ≤ m)
within-end [] ms k n w a = absurd (none-some n a)
within-end (x ∷ ns) [] k n w a = absurd w
within-end (x ∷ ns) (y ∷ ms) zero n w a = (y, refl, omega (arith, same_Some x n a, w.0))
within-end (x ∷ ns) (y ∷ ms) (suc k) n w a = within-end ns ms k n w.1 a

module _ (told : EventAt → Bool) where
  -- one place further
  untold-next : (t n m : ℕ) → n < m → untold_from told t n (m - n) ≡
      (if told (at t n) then untold_from told t (n + 1) (m - (n + 1)) else at t n ∷ untold_from told t (n + 1) (m - (n + 1)))
  untold-next t n m lt =
      let more : m - n ≡ suc (m - (n + 1)) = omega (arith, lt) in
      ap (λ (c : ℕ). untold_from told t n c) more

  pub pass-told : (t n m : ℕ) → n < m → told (at t n) ≡ true → untold_from told t n (m - n) ≡ untold_from told t (n + 1) (m - (n + 1))
  pass-told t n m lt h = untold-next t n m lt
      ∙ ap (λ (b : Bool). if b then untold_from told t (n + 1) (m - (n + 1)) else at t n ∷ untold_from told t (n + 1) (m - (n + 1))) h

  pub pass-untold : (t n m : ℕ) → n < m → told (at t n) ≡ false →
      untold_from told t n (m - n) ≡ (at t n ∷ untold_from told t (n + 1) (m - (n + 1)))
  pass-untold t n m lt h = untold-next t n m lt
      ∙ ap (λ (b : Bool). if b then untold_from told t (n + 1) (m - (n + 1)) else at t n ∷ untold_from told t (n + 1) (m - (n + 1))) h

  record IsHead (t n c : ℕ) (e : EventAt) (tail : List EventAt) : Type 0 where
    topic : e.topic ≡ t
    from : n ≤ e.place
    below : e.place < n + c
    free : told e ≡ false
    here : e.place ≡ n → (k : ℕ) × (c ≡ suc k) × (tail ≡ untold_from told t (n + 1) k)
    after : n < e.place → told (at t n) ≡ true

  head-untold : (t n c : ℕ) (e : EventAt) (tail : List EventAt) → untold_from told t n c ≡ (e ∷ tail) → IsHead t n c e tail
  head-untold t n zero e tail is = absurd (cons_not e tail is)
  head-untold t n (suc c) e tail is = elim (told (at t n)) as (λ b. told (at t n) ≡ b →
      (if b then untold_from told t (n + 1) c else at t n ∷ untold_from told t (n + 1) c) ≡ (e ∷ tail) → IsHead t n (suc c) e tail) [
        | true ↦ λ q is. let h = head-untold t (n + 1) c e tail is in record {
          topic = h.topic;
          from = omega (arith, h.from);
          below = omega (arith, h.below);
          free = h.free;
          here = λ same. absurd (omega (arith, same, h.from));
          after = λ lt. q;
        }
        | false ↦ λ q is.
            let one : at t n ≡ e = head_is (at t n) e (untold_from told t (n + 1) c) tail is in
            let placed : n ≡ e.place = ap (λ (x : EventAt). x.place) one in
            record {
              topic = sym (ap (λ (x : EventAt). x.topic) one);
              from = omega (arith, placed);
              below = omega (arith, placed);
              free = ap told (sym one) ∙ q;
              here = λ same. (c, refl, sym (tail_is (at t n) e (untold_from told t (n + 1) c) tail is));
              after = λ lt. absurd (omega (arith, placed, lt));
            }
      ] refl is

  -- a told event is nobody's own
  pub own-stays : (t : ℕ) (ns ms : Nexts) (k n m : ℕ) → slice_get ns k ≡ Some n → slice_get ms k ≡ Some m → n < m →
      ((j : ℕ) → j ≡ t + k → told (at j n) ≡ true) → own told t (advanced ns k) ms ≡ own told t ns ms
  own-stays t [] ms k n m a b lt is = absurd (none-some n a)
  own-stays t (x ∷ ns) [] k n m a b lt is = absurd (none-some m b)
  own-stays t (x ∷ ns) (y ∷ ms) zero n m a b lt is =
      let at-x : told (at t x) ≡ true = ap (λ (p : ℕ). told (at t p)) (same_Some x n a) ∙ is t (omega arith) in
      let x-lt : x < y = omega (arith, same_Some x n a, same_Some y m b, lt) in
      ap (λ (s : List EventAt). s ∷ own told (t + 1) ns ms) (sym (pass-told t x y x-lt at-x))
  own-stays t (x ∷ ns) (y ∷ ms) (suc k) n m a b lt is = ap (λ (s : Sessions). untold_from told t x (y - x) ∷ s)
      (own-stays (t + 1) ns ms k n m a b lt (λ j e. is j (omega (arith, e))))

  -- another one is taken of its topic
  pub own-takes : (t : ℕ) (ns ms : Nexts) (k n m : ℕ) (e : EventAt) → slice_get ns k ≡ Some n → slice_get ms k ≡ Some m → n < m →
      e.topic ≡ t + k → e.place ≡ n → told e ≡ false → Takes (own told t ns ms) e (own told t (advanced ns k) ms)
  own-takes t [] ms k n m e a b lt topic place free = absurd (none-some n a)
  own-takes t (x ∷ ns) [] k n m e a b lt topic place free = absurd (none-some m b)
  own-takes t (x ∷ ns) (y ∷ ms) zero n m e a b lt topic place free =
      let x-lt : x < y = omega (arith, same_Some x n a, same_Some y m b, lt) in
      let topic-is : t ≡ e.topic = omega (arith, topic) in
      let place-is : x ≡ e.place = omega (arith, place, same_Some x n a) in
      let one : at t x ≡ e = ap (λ (j : ℕ). at j x) topic-is ∙ ap (λ (p : ℕ). at e.topic p) place-is in
      inl (
        untold_from told t (x + 1) (y - (x + 1)),
        pass-untold t x y x-lt (ap told one ∙ free) ∙ ap (λ (f : EventAt). f ∷ untold_from told t (x + 1) (y - (x + 1))) one,
        refl,
      )
  own-takes t (x ∷ ns) (y ∷ ms) (suc k) n m e a b lt topic place free =
      inr (own told (t + 1) (advanced ns k) ms, refl, own-takes (t + 1) ns ms k n m e a b lt (omega (arith, topic)) place free)

  -- and is the first that is left there
  pub own-first : (t : ℕ) (ns ms : Nexts) (k n m : ℕ) (e : EventAt) → slice_get ns k ≡ Some n → slice_get ms k ≡ Some m → n < m →
      e.topic ≡ t + k → e.place ≡ n → told e ≡ false → first_of (slice_get (own told t ns ms) k) ≡ Some e
  own-first t [] ms k n m e a b lt topic place free = absurd (none-some n a)
  own-first t (x ∷ ns) [] k n m e a b lt topic place free = absurd (none-some m b)
  own-first t (x ∷ ns) (y ∷ ms) zero n m e a b lt topic place free =
      let x-lt : x < y = omega (arith, same_Some x n a, same_Some y m b, lt) in
      let topic-is : t ≡ e.topic = omega (arith, topic) in
      let place-is : x ≡ e.place = omega (arith, place, same_Some x n a) in
      let one : at t x ≡ e = ap (λ (j : ℕ). at j x) topic-is ∙ ap (λ (p : ℕ). at e.topic p) place-is in
      ap (λ (l : List EventAt). first_of (Some l)) (pass-untold t x y x-lt (ap told one ∙ free)) ∙ ap (λ (f : EventAt). Some f) one
  own-first t (x ∷ ns) (y ∷ ms) (suc k) n m e a b lt topic place free =
      own-first (t + 1) ns ms k n m e a b lt (omega (arith, topic)) place free

  pub record IsOwn (t : ℕ) (ns ms : Nexts) (e : EventAt) (new : Sessions) : Type 0 where
    pub k : ℕ
    pub n : ℕ
    pub m : ℕ
    pub topic : e.topic ≡ t + k
    pub next : slice_get ns k ≡ Some n
    pub end : slice_get ms k ≡ Some m
    pub from : n ≤ e.place
    pub below : e.place < m
    pub free : told e ≡ false
    pub here : e.place ≡ n → new ≡ own told t (advanced ns k) ms

  pub own-taken : (t : ℕ) (ns ms : Nexts) (e : EventAt) (new : Sessions) → Takes (own told t ns ms) e new → IsOwn t ns ms e new
  own-taken t [] ms e new h = absurd h
  own-taken t (x ∷ ns) [] e new h = absurd h
  own-taken t (x ∷ ns) (y ∷ ms) e new (inl h) =
      let head = head-untold t x (y - x) e h.0 h.1 in
      record {
        k = 0;
        n = x;
        m = y;
        topic = omega (arith, head.topic);
        next = refl;
        end = refl;
        from = head.from;
        below = omega (arith, head.from, head.below);
        free = head.free;
        here = λ same.
            let rest = head.here same in
            let left : rest.0 ≡ y - (x + 1) = omega (arith, rest.1) in
            h.2 ∙ ap (λ (s : List EventAt). s ∷ own told (t + 1) ns ms)
            (rest.2 ∙ ap (λ (c : ℕ). untold_from told t (x + 1) c) left);
      }
  own-taken t (x ∷ ns) (y ∷ ms) e new (inr h) =
      let more = own-taken (t + 1) ns ms e h.0 h.2 in
      record {
        k = suc more.k;
        n = more.n;
        m = more.m;
        topic = omega (arith, more.topic);
        next = more.next;
        end = more.end;
        from = more.from;
        below = more.below;
        free = more.free;
        here = λ same. h.1 ∙ ap (λ (s : Sessions). untold_from told t x (y - x) ∷ s) (more.here same);
      }

  -- where such a session is held up, somebody was told of the next event of its topic
  pub record IsHeldOwn (t : ℕ) (ns : Nexts) (e : EventAt) : Type 0 where
    pub k : ℕ
    pub n : ℕ
    pub topic : e.topic ≡ t + k
    pub next : slice_get ns k ≡ Some n
    pub from : n ≤ e.place
    pub after : (j : ℕ) → j ≡ t + k → n < e.place → told (at j n) ≡ true

  pub own-head : (t : ℕ) (ns ms : Nexts) (i : ℕ) (e : EventAt) → first_of (slice_get (own told t ns ms) i) ≡ Some e → IsHeldOwn t ns e
  own-head t [] ms i e h = absurd (none-some e h)
  own-head t (x ∷ ns) [] i e h = absurd (none-some e h)
  own-head t (x ∷ ns) (y ∷ ms) zero e h = elim (untold_from told t x (y - x)) as
      (λ l. untold_from told t x (y - x) ≡ l → first_of (Some l) ≡ Some e → IsHeldOwn t (x ∷ ns) e) [
        | [] ↦ λ is f. absurd (none-some e f)
        | f ∷ tail ↦ λ is g.
            let head = head-untold t x (y - x) e tail (is ∙ ap (λ (z : EventAt). z ∷ tail) (same_Some f e g)) in
            record {
              k = 0;
              n = x;
              topic = omega (arith, head.topic);
              next = refl;
              from = head.from;
              after = λ j same lt. (let one : j ≡ t = omega (arith, same) in ap (λ (i : ℕ). told (at i x)) one ∙ head.after lt);
            }
      ] refl h
  own-head t (x ∷ ns) (y ∷ ms) (suc i) e h =
      let more = own-head (t + 1) ns ms i e h in
      record {
        k = suc more.k;
        n = more.n;
        topic = omega (arith, more.topic);
        next = more.next;
        from = more.from;
        after = λ j same lt. more.after j (omega (arith, same)) lt;
      }

  -- once all are over and nothing told is next, each topic is at its end
  pub own-ended : (t : ℕ) (ns ms : Nexts) → AreWithin ns ms → AreOver (own told t ns ms) →
      ((k n j : ℕ) → slice_get ns k ≡ Some n → j ≡ t + k → told (at j n) ≡ true → ⊥) → ns ≡ ms
  own-ended t [] [] w over none = refl
  own-ended t [] (m ∷ ms) w over none = absurd w
  own-ended t (n ∷ ns) [] w over none = absurd w
  own-ended t (n ∷ ns) (m ∷ ms) w over none =
      let here : n ≡ m = elim (eqb n m) as (λ b. eqb n m ≡ b → n ≡ m) [
        | true ↦ λ q. eqb-true n m q
        | false ↦ λ q.
            let lt : n < m = omega (arith, eqb-false n m q, w.0) in
            elim (told (at t n)) as (λ b. told (at t n) ≡ b → n ≡ m) [
              | true ↦ λ h. absurd (none 0 n t refl (omega arith) h)
              | false ↦ λ h. absurd (cons_not (at t n) (untold_from told t (n + 1) (m - (n + 1))) (sym over.0 ∙ pass-untold t n m lt h))
            ] refl
      ] refl in
      let rest = own-ended (t + 1) ns ms w.1 over.1 (λ k i j a e h. none (suc k) i j a (omega (arith, e)) h) in
      ap (λ (i : ℕ). i ∷ ns) here ∙ ap (λ (l : Nexts). m ∷ l) rest

  pub own-over : (t : ℕ) (ns : Nexts) → AreOver (own told t ns ns)
  own-over t [] = tt
  own-over t (n ∷ ns) =
      let none : n - n ≡ 0 = omega arith in
      (ap (λ (c : ℕ). untold_from told t n c) none, own-over (t + 1) ns)

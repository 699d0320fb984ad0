-- How a search for an order goes on, and where it ends.
use Rattle.std.proofs.Common.{◌≡◌, ℕ, zero, suc, ◌+◌, ◌<◌, List, [], ◌∷◌, ◌++◌, length, replicate, map, Some, None, slice_get, refl, sym, ap, subst, ◌∙◌, inl, inr, arith, append_assoc, append-nil, length-append}
use Rattle.std.proofs.lemmas.Option.{none-some}
use Rattle.std.specs.declared.vec.Vec.{Vec}
use Rattle.th_orders.specs.declared.rests.EventAt.{EventAt}
use Rattle.th_orders.specs.Orders.{Along, AreOver, IsHeldAt, IsHeldUp, IsNext, IsOrder, Nexts, Sessions, Takes, advanced, first_of}
use Rattle.th_orders.specs.Rests.{events_of, left, rests}
use Rattle.th_orders.specs.Search.{Goes}
use Rattle.th_orders.proofs.Greedy.{greedy}

pub first-within : (ss : Sessions) (k : ℕ) (e : EventAt) → first_of (slice_get ss k) ≡ Some e → k < length ss
first-within [] k e f = absurd (none-some e f)
first-within (s ∷ ss) zero e f = omega arith
first-within (s ∷ ss) (suc k) e f = omega (arith, first-within ss k e f)

-- nothing is taken at first
pub rests-all : {Z : Type 0} (ss : List (Vec EventAt Z)) → rests (replicate (length ss) 0) ss ≡ map events_of ss
rests-all [] = refl
rests-all (s ∷ ss) = ap (λ (r : Sessions). s.items ∷ r) (rests-all ss)

-- one event more, and more events
along-more : (c : Nexts) (ss : Sessions) (es : List EventAt) (c' : Nexts) (ss' : Sessions) (e : EventAt) (last : Sessions) →
    Along c ss es c' ss' → Takes ss' e last → IsNext c' e → Along c ss (es ++ e ∷ []) (advanced c' e.topic) last
along-more c ss [] c' ss' e last m t n = (
  last,
  subst (λ s. Takes s e last) m.1 t,
  subst (λ k. IsNext k e) m.0 n,
  (ap (λ (k : Nexts). advanced k e.topic) m.0, refl),
)
along-more c ss (x ∷ es) c' ss' e last m t n = (m.0, m.1, m.2, along-more (advanced c x.topic) m.0 es c' ss' e last m.3 t n)

along-on : (c : Nexts) (ss : Sessions) (es : List EventAt) (c1 : Nexts) (s1 : Sessions) (fs : List EventAt) (c2 : Nexts) (s2 : Sessions) →
    Along c ss es c1 s1 → Along c1 s1 fs c2 s2 → Along c ss (es ++ fs) c2 s2
along-on c ss [] c1 s1 fs c2 s2 m k = subst (λ d. Along d ss fs c2 s2) m.0 (subst (λ s. Along c1 s fs c2 s2) m.1 k)
along-on c ss (x ∷ es) c1 s1 fs c2 s2 m k = (m.0, m.1, m.2, along-on (advanced c x.topic) m.0 es c1 s1 fs c2 s2 m.3 k)

pub goes-none : (c : Nexts) (ss : Sessions) (o : List EventAt) → Goes c ss o c ss o
goes-none c ss o = ([], sym (append-nil o), (refl, refl))

pub goes-more : (c : Nexts) (ss : Sessions) (o : List EventAt) (c' : Nexts) (ss' : Sessions) (o' : List EventAt) (e : EventAt)
    (last : Sessions) → Goes c ss o c' ss' o' → Takes ss' e last → IsNext c' e → Goes c ss o (advanced c' e.topic) last (o' ++ e ∷ [])
goes-more c ss o c' ss' o' e last g t n = (
  g.0 ++ e ∷ [],
  ap (λ (l : List EventAt). l ++ e ∷ []) g.1 ∙ append_assoc o g.0 (e ∷ []),
  along-more c ss g.0 c' ss' e last g.2 t n,
)

pub goes-on : (c : Nexts) (ss : Sessions) (o : List EventAt) (c1 : Nexts) (s1 : Sessions) (o1 : List EventAt) (c2 : Nexts) (s2 : Sessions)
    (o2 : List EventAt) → Goes c ss o c1 s1 o1 → Goes c1 s1 o1 c2 s2 o2 → Goes c ss o c2 s2 o2
goes-on c ss o c1 s1 o1 c2 s2 o2 g h = (
  g.0 ++ h.0,
  h.1 ∙ ap (λ (l : List EventAt). l ++ h.0) g.1 ∙ append_assoc o g.0 h.0,
  along-on c ss g.0 c1 s1 h.0 c2 s2 g.2 h.2,
)

-- fewer are left
pub left-takes : (ss : Sessions) (e : EventAt) (ss' : Sessions) → Takes ss e ss' → left ss ≡ left ss' + 1
left-takes [] e ss' t = absurd t
left-takes (s ∷ ss) e ss' (inl t) =
    let old : left (s ∷ ss) ≡ length (e ∷ t.0) + left ss = ap (λ (l : List EventAt). length l + left ss) t.1 in
    let new : left ss' ≡ length t.0 + left ss = ap left t.2 in
    omega (arith, old, new)
left-takes (s ∷ ss) e ss' (inr t) =
    let new : left ss' ≡ length s + left t.0 = ap left t.1 in
    omega (arith, new, left-takes ss e t.0 t.2)

left-along : (c : Nexts) (ss : Sessions) (es : List EventAt) (c' : Nexts) (ss' : Sessions) → Along c ss es c' ss' →
    left ss ≡ left ss' + length es
left-along c ss [] c' ss' m = (let same : left ss' ≡ left ss = ap left m.1 in omega (arith, same))
left-along c ss (e ∷ es) c' ss' m = omega (arith, left-takes ss e m.0 m.1, left-along (advanced c e.topic) m.0 es c' ss' m.3)

pub left-goes : (c : Nexts) (ss : Sessions) (o : List EventAt) (c' : Nexts) (ss' : Sessions) (o' : List EventAt) → Goes c ss o c' ss' o' →
    left ss + length o ≡ left ss' + length o'
left-goes c ss o c' ss' o' g =
    let more : length o' ≡ length o + length g.0 = ap length g.1 ∙ length-append o g.0 in
    omega (arith, more, left-along c ss g.0 c' ss' g.2)

-- all sessions are over where none has a first event
pub over-all : (ss : Sessions) → ((k : ℕ) → k < length ss → first_of (slice_get ss k) ≡ None) → AreOver ss
over-all [] h = tt
over-all ([] ∷ ss) h = (refl, over-all ss (λ k lt. h (suc k) (omega (arith, lt))))
over-all ((e ∷ s) ∷ ss) h = absurd (none-some e (sym (h 0 (omega arith))))

not-over : (ss : Sessions) (k : ℕ) (e : EventAt) → AreOver ss → first_of (slice_get ss k) ≡ Some e → ⊥
not-over [] k e h f = none-some e f
not-over (s ∷ ss) zero e h f = none-some e (ap (λ (l : List EventAt). first_of (Some l)) (sym h.0) ∙ f)
not-over (s ∷ ss) (suc k) e h f = not-over ss k e h.1 f

-- what is taken is the first event of some session
first-taken : (ss : Sessions) (e : EventAt) (ss' : Sessions) → Takes ss e ss' → (k : ℕ) × (first_of (slice_get ss k) ≡ Some e)
first-taken [] e ss' t = absurd t
first-taken (s ∷ ss) e ss' (inl t) = (0, ap (λ (l : List EventAt). first_of (Some l)) t.1)
first-taken (s ∷ ss) e ss' (inr t) = let f = first-taken ss e t.0 t.2 in (suc f.0, f.1)

-- what was taken stands in the way of no order
rest : (c : Nexts) (ss : Sessions) (es : List EventAt) (c' : Nexts) (ss' : Sessions) (all : List EventAt) → Along c ss es c' ss' →
    IsOrder c ss all → (fs : List EventAt) × IsOrder c' ss' fs
rest c ss [] c' ss' all m o = (all, subst (λ d. IsOrder d ss' all) (sym m.0) (subst (λ s. IsOrder c s all) (sym m.1) o))
rest c ss (e ∷ es) c' ss' all m o =
    let got = greedy c ss all e m.0 o m.1 m.2 in rest (advanced c e.topic) m.0 es c' ss' got.0 m.3 got.1

no-order : (c : Nexts) (ss : Sessions) (k : ℕ) (e : EventAt) (all : List EventAt) → ((j : ℕ) → IsHeldAt c ss j) →
    first_of (slice_get ss k) ≡ Some e → IsOrder c ss all → ⊥
no-order c ss k e [] held f (c', ss', m, over) = not-over ss k e (subst AreOver m.1 over) f
no-order c ss k e (x ∷ all) held f (c', ss', m, over) = let t = first-taken ss x m.0 m.1 in held t.0 x t.1 m.2

pub held-up : (c : Nexts) (ss : Sessions) (es : List EventAt) (c' : Nexts) (ss' : Sessions) (k : ℕ) (e : EventAt) → Along c ss es c' ss' →
    ((j : ℕ) → IsHeldAt c' ss' j) → first_of (slice_get ss' k) ≡ Some e → ((j : ℕ) → j < k → first_of (slice_get ss' j) ≡ None) →
    IsHeldUp c ss k e
held-up c ss es c' ss' k e m held f over = record {
  taken = es;
  nexts' = c';
  ss' = ss';
  along = m;
  held = held;
  here = f;
  first = over;
  none = λ all o. (let r = rest c ss es c' ss' all m o in no-order c' ss' k e r.0 held f r.1);
}

-- from no event on
pub from-none : (c : Nexts) (ss : Sessions) (o0 o : List EventAt) (c' : Nexts) (ss' : Sessions) → o0 ≡ [] → Goes c ss o0 c' ss' o →
    Along c ss o c' ss'
from-none c ss o0 o c' ss' none g =
    subst (λ (l : List EventAt). Along c ss l c' ss') (sym (g.1 ∙ ap (λ (l : List EventAt). l ++ g.0) none)) g.2

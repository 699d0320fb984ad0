-- Each session that can go on is due, or becomes due when it can.
use Rattle.std.proofs.Common.{◌≡◌, ◌⊎◌, ℕ, ◌+◌, ◌^◌, ◌<◌, true, false, ◌&&◌, eqb, List, [], ◌∷◌, ◌++◌, length, Option, Some, None, slice_get, refl, sym, ap, subst, ◌∙◌, inl, inr, arith, length-append}
use Rattle.std.specs.HashMap.{HashMap, Updates}
use Rattle.std.proofs.lemmas.Bool.{eqb-true, eqb-false}
use Rattle.std.proofs.lemmas.Option.{none-some, same_Some}
use Rattle.th_orders.specs.declared.rests.EventAt.{EventAt}
use Rattle.th_orders.specs.Orders.{IsHeldAt, IsNext, Nexts, Sessions, advanced, first_of}
use Rattle.th_orders.specs.Waiting.{AreSeenTo, IsAwaited, IsDue, IsGone, Wakes, same_event, waits}
use Rattle.th_orders.proofs.Greedy.{more, other, raised}

pub due-before : (ds : List ℕ) (d k : ℕ) → IsDue ds k → IsDue (ds ++ d ∷ []) k
due-before [] d k h = absurd h
due-before (x ∷ ds) d k (inl h) = inl h
due-before (x ∷ ds) d k (inr h) = inr (due-before ds d k h)

pub due-last : (ds : List ℕ) (d : ℕ) → IsDue (ds ++ d ∷ []) d
due-last [] d = inl refl
due-last (x ∷ ds) d = inr (due-last ds d)

due-either : (ds : List ℕ) (d k : ℕ) → IsDue (ds ++ d ∷ []) k → IsDue ds k ⊎ (d ≡ k)
due-either [] d k (inl h) = inr h
due-either [] d k (inr h) = absurd h
due-either (x ∷ ds) d k (inl h) = inl (inl h)
due-either (x ∷ ds) d k (inr h) = elim (due-either ds d k h) as (λ _. IsDue (x ∷ ds) k ⊎ (d ≡ k)) [
  | inl i ↦ inl (inr i)
  | inr i ↦ inr i
]

pub same-event : (e f : EventAt) → e.topic ≡ f.topic → e.place ≡ f.place → e ≡ f
same-event e f t p =
    let placed : (n : ℕ) → EventAt = λ n. record { topic = f.topic; place = n } in
    let at : (n : ℕ) → EventAt = λ n. record { topic = n; place = e.place } in
    ap at t ∙ ap placed p

-- two events are one or not
pub event-or-not : (e f : EventAt) → (e ≡ f) ⊎ (e ≡ f → ⊥)
event-or-not e f = elim (eqb e.topic f.topic) as (λ b. eqb e.topic f.topic ≡ b → (e ≡ f) ⊎ (e ≡ f → ⊥)) [
  | false ↦ λ t. inr (λ is. eqb-false e.topic f.topic t (ap (λ (x : EventAt). x.topic) is))
  | true ↦ λ t. elim (eqb e.place f.place) as (λ b. eqb e.place f.place ≡ b → (e ≡ f) ⊎ (e ≡ f → ⊥)) [
    | false ↦ λ p. inr (λ is. eqb-false e.place f.place p (ap (λ (x : EventAt). x.place) is))
    | true ↦ λ p. inl (same-event e f (eqb-true e.topic f.topic t) (eqb-true e.place f.place p))
  ] refl
] refl

apart-keys : (e f : EventAt) → (f ≡ e → ⊥) → same_event (e.topic, e.place) (f.topic, f.place) ≡ false
apart-keys e f ne = elim (eqb e.topic f.topic) as (λ b. eqb e.topic f.topic ≡ b → (b && eqb e.place f.place) ≡ false) [
  | false ↦ λ t. refl
  | true ↦ λ t. elim (eqb e.place f.place) as (λ b. eqb e.place f.place ≡ b → b ≡ false) [
    | false ↦ λ p. refl
    | true ↦ λ p. absurd (ne (sym (same-event e f (eqb-true e.topic f.topic t) (eqb-true e.place f.place p))))
  ] refl
] refl

-- what is noted for an event is noted for no other
pub noted-others : {S : Type 0} (m n : HashMap (ℕ × ℕ) ℕ S) (x : EventAt) (k : ℕ) →
    Updates same_event m n (x.topic, x.place) (Some k) → (e : EventAt) → (e ≡ x → ⊥) → waits n e ≡ waits m e
noted-others m n x k u e ne = u.2 (e.topic, e.place) (apart-keys x e ne)

-- whoever waits for the next event is woken
module _ (c : Nexts) (w : EventAt → Option ℕ) (topic : ℕ) (due : List ℕ) (n : EventAt) (t : n.topic ≡ topic) (next : IsNext c n) where
  is-that : (e : EventAt) → e.topic ≡ topic → IsNext c e → e ≡ n
  is-that e same is =
      let one : e.topic ≡ n.topic = same ∙ sym t in
      same-event e n one (same_Some e.place n.place (sym is ∙ ap (slice_get c) one ∙ next))

  pub wakes-one : (s : ℕ) (due' : List ℕ) → w n ≡ Some s → due' ≡ due ++ s ∷ [] → Wakes c w topic due due'
  wakes-one s due' has more = record {
    kept = λ k d. subst (λ l. IsDue l k) (sym more) (due-before due s k d);
    woken = λ e k same small is noted. subst (λ l. IsDue l k) (sym more)
        (subst (λ (j : ℕ). IsDue (due ++ s ∷ []) j) (same_Some s k (sym has ∙ ap w (sym (is-that e same is)) ∙ noted))
        (due-last due s));
    few = omega (arith, ap length more, length-append due (s ∷ []));
  }

  pub wakes-none : w n ≡ None → Wakes c w topic due due
  wakes-none has = record {
    kept = λ k d. d;
    woken = λ e k same small is noted. absurd (none-some k (sym has ∙ ap w (sym (is-that e same is)) ∙ noted));
    few = omega arith;
  }

module _ (c : Nexts) (ss : Sessions) (due : List ℕ) (k : ℕ) (w : EventAt → Option ℕ) where
  -- a session that is over waits for nothing
  pub seen-over : AreSeenTo c ss (due ++ k ∷ []) w → first_of (slice_get ss k) ≡ None → AreSeenTo c ss due w
  seen-over all over j e f = elim (all j e f) as (λ _. IsGone c e ⊎ IsAwaited c ss due w e) [
    | inl g ↦ inl g
    | inr (i, here, inl d) ↦ elim (due-either due k i d) as (λ _. IsGone c e ⊎ IsAwaited c ss due w e) [
      | inl d' ↦ inr (i, here, inl d')
      | inr is ↦ absurd (none-some e (sym over ∙ ap (λ (n : ℕ). first_of (slice_get ss n)) is ∙ here))
    ]
    | inr (i, here, inr d) ↦ inr (i, here, inr d)
  ]

  -- a session that can't go on is noted
  pub seen-waits : (x : EventAt) (w' : EventAt → Option ℕ) → AreSeenTo c ss (due ++ k ∷ []) w →
      first_of (slice_get ss k) ≡ Some x → x.place < 2 ^ 64 → (IsNext c x → ⊥) → w' x ≡ Some k →
      ((e : EventAt) → (e ≡ x → ⊥) → w' e ≡ w e) → AreSeenTo c ss due w'
  seen-waits x w' all first fits held noted others j e f =
      let Seen : Type 0 = IsGone c e ⊎ IsAwaited c ss due w' e in
      let at-x : e ≡ x → Seen = λ is. subst (λ (y : EventAt). IsGone c y ⊎ IsAwaited c ss due w' y) (sym is)
      (inr (k, first, inr (noted, fits, held))) in
      elim (all j e f) as (λ _. Seen) [
        | inl g ↦ inl g
        | inr (i, here, inl d) ↦ elim (due-either due k i d) as (λ _. Seen) [
          | inl d' ↦ inr (i, here, inl d')
          | inr is ↦ at-x (same_Some e x (sym here ∙ ap (λ (n : ℕ). first_of (slice_get ss n)) (sym is) ∙ first))
        ]
        | inr (i, here, inr (n, small, not)) ↦ elim (event-or-not e x) as (λ _. Seen) [
          | inl is ↦ at-x is
          | inr ne ↦ inr (i, here, inr (others e ne ∙ n, small, not))
        ]
      ]

  -- once an event is taken, its session is due, and so is the one that waits for the next
  pub seen-takes : (x : EventAt) (ss' : Sessions) (due1 due' : List ℕ) → AreSeenTo c ss (due ++ k ∷ []) w →
      first_of (slice_get ss k) ≡ Some x → IsNext c x → ((j : ℕ) → (j ≡ k → ⊥) → slice_get ss' j ≡ slice_get ss j) →
      due1 ≡ due ++ k ∷ [] → Wakes (advanced c x.topic) w x.topic due1 due' → AreSeenTo (advanced c x.topic) ss' due' w
  seen-takes x ss' due1 due' all first next others one wakes j e f =
      let c' : Nexts = advanced c x.topic in
      let Seen : Type 0 = IsGone c' e ⊎ IsAwaited c' ss' due' w e in
      let stays : (i : ℕ) → IsDue (due ++ k ∷ []) i → IsDue due' i =
      λ i d. wakes.kept i (subst (λ l. IsDue l i) (sym one) d) in
      let gone-x : e ≡ x → Seen = λ is. subst (λ (y : EventAt). IsGone c' y ⊎ IsAwaited c' ss' due' w y) (sym is)
      (inl (x.place + 1, raised c x.topic x.place next, omega arith)) in
      let at-k : (i : ℕ) → k ≡ i → first_of (slice_get ss i) ≡ Some e → Seen =
      λ i is here. gone-x (same_Some e x (sym here ∙ ap (λ (n : ℕ). first_of (slice_get ss n)) (sym is) ∙ first)) in
      let still : (i : ℕ) → (i ≡ k → ⊥) → first_of (slice_get ss i) ≡ Some e → first_of (slice_get ss' i) ≡ Some e =
      λ i ne here. ap first_of (others i ne) ∙ here in
      let before : first_of (slice_get ss j) ≡ Some e → Seen = λ old. elim (all j e old) as (λ _. Seen) [
        | inl (n, at, past) ↦ let m = more c x.topic e.topic n at in inl (m.0, m.1, omega (arith, past, m.2))
        | inr (i, here, inl d) ↦ elim (eqb i k) as (λ b. eqb i k ≡ b → Seen) [
          | true ↦ λ q. at-k i (sym (eqb-true i k q)) here
          | false ↦ λ q. inr (i, still i (eqb-false i k q) here, inl (stays i d))
        ] refl
        | inr (i, here, inr (n, small, not)) ↦ elim (eqb i k) as (λ b. eqb i k ≡ b → Seen) [
          | true ↦ λ q. at-k i (sym (eqb-true i k q)) here
          | false ↦ λ q. elim (eqb e.topic x.topic) as (λ b. eqb e.topic x.topic ≡ b → Seen) [
            | false ↦ λ t. inr (
              i,
              still i (eqb-false i k q) here,
              inr (n, small, λ is. not (sym (other c x.topic e.topic (eqb-false e.topic x.topic t)) ∙ is)),
            )
            | true ↦ λ t. elim (eqb e.place (x.place + 1)) as (λ b. eqb e.place (x.place + 1) ≡ b → Seen) [
              | true ↦ λ p.
                  let same = eqb-true e.topic x.topic t in
                  let here-next : IsNext c' e = ap (slice_get c') same ∙ raised c x.topic x.place next
                  ∙ ap (λ (m : ℕ). Some m) (sym (eqb-true e.place (x.place + 1) p)) in
                  inr (i, still i (eqb-false i k q) here, inl (wakes.woken e i same small here-next n))
              | false ↦ λ p. inr (
                i,
                still i (eqb-false i k q) here,
                inr (
                  n,
                  small,
                  λ is. eqb-false e.place (x.place + 1) p (same_Some e.place (x.place + 1)
                      (sym is ∙ ap (slice_get c') (eqb-true e.topic x.topic t) ∙ raised c x.topic x.place next)),
                ),
              )
            ] refl
          ] refl
        ] refl
      ] in
      elim (eqb j k) as (λ b. eqb j k ≡ b → Seen) [
        | true ↦ λ q. inr (j, f, inl (stays j (subst (λ (n : ℕ). IsDue (due ++ k ∷ []) n) (sym (eqb-true j k q)) (due-last due k))))
        | false ↦ λ q. before (ap first_of (sym (others j (eqb-false j k q))) ∙ f)
      ] refl

-- with nobody due each session is held up
pub all-held : (c : Nexts) (ss : Sessions) (due : List ℕ) (w : EventAt → Option ℕ) → due ≡ [] → AreSeenTo c ss due w →
    (k : ℕ) → IsHeldAt c ss k
all-held c ss due w none all k e f next = elim (all k e f) as (λ _. ⊥) [
  | inl (n, at, past) ↦ omega (arith, same_Some n e.place (sym at ∙ next), past)
  | inr (i, here, inl d) ↦ subst (λ l. IsDue l i) none d
  | inr (i, here, inr (n, small, not)) ↦ not next
]

-- at first all are due
pub all-due : (c : Nexts) (ss : Sessions) (due : List ℕ) (w : EventAt → Option ℕ) →
    ((k : ℕ) (e : EventAt) → first_of (slice_get ss k) ≡ Some e → IsDue due k) → AreSeenTo c ss due w
all-due c ss due w h k e f = inr (k, f, inl (h k e f))

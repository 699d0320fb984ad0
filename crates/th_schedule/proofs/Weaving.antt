-- An order of what was told and of the other events, and the search that finds it.
use Rattle.std.proofs.Common.{◌≡◌, ℕ, zero, suc, ◌+◌, ◌-◌, ◌<◌, ◌≤◌, true, false, List, [], ◌∷◌, ◌++◌, length, Some, None, slice_get, refl, sym, ap, subst, ◌∙◌, inl, inr, arith}
use Rattle.std.specs.Prelude.{leb}
use Rattle.std.proofs.lemmas.Bool.{leb-false, leb-true}
use Rattle.std.proofs.lemmas.Option.{same_Some}
use Rattle.th_orders.specs.declared.rests.EventAt.{EventAt}
use Rattle.th_orders.specs.Orders.{Along, AreOver, IsHeldAt, IsHeldUp, IsNext, IsOrder, Nexts, Sessions, Takes, advanced, first_of}
use Rattle.th_orders.proofs.Greedy.{more, raised}
use Rattle.th_orders.proofs.Searching.{first-within, over-all}
use Rattle.th_schedule.specs.Untold.{own}
use Rattle.th_schedule.specs.Woven.{Weaves, is_told}
use Rattle.th_schedule.proofs.Passing.{AreWithin, at, own-ended, own-first, own-head, own-over, own-stays, own-taken, own-takes, within-advance}
use Rattle.th_schedule.proofs.Telling.{over-both, over-left, over-right, over-told, takes-either, takes-left, takes-right, told-after, told-before, told-takes}

pub get-left : {X : Type 0} (a b : List X) (k : ℕ) → k < length a → slice_get (a ++ b) k ≡ slice_get a k
get-left [] b k lt = absurd (omega (arith, lt))
get-left (x ∷ a) b zero lt = refl
get-left (x ∷ a) b (suc k) lt = get-left a b k (omega (arith, lt))

get-right : {X : Type 0} (a b : List X) (k : ℕ) → length a ≤ k → slice_get (a ++ b) k ≡ slice_get b (k - length a)
get-right [] b k le = ap (slice_get b) (omega arith)
get-right (x ∷ a) b zero le = absurd (omega (arith, le))
get-right (x ∷ a) b (suc k) le = get-right a b k (omega (arith, le)) ∙ ap (slice_get b) (omega (arith, le))

same-next : (c : Nexts) (t a b : ℕ) → slice_get c t ≡ Some a → slice_get c t ≡ Some b → a ≡ b
same-next c t a b h g = same_Some a b (sym h ∙ g)

-- the places of a topic rise
pub weaves-more : (all : Sessions) (es : List EventAt) (c : Nexts) (a : Sessions) (c' : Nexts) (a' : Sessions) (u n : ℕ) →
    Weaves all c a es c' a' → slice_get c u ≡ Some n → (m : ℕ) × (slice_get c' u ≡ Some m) × (n ≤ m)
weaves-more all [] c a c' a' u n w h = (n, ap (λ (d : Nexts). slice_get d u) w.0 ∙ h, omega arith)
weaves-more all (e ∷ es) c a c' a' u n w h =
    let one = more c e.topic u n h in
    let rest = weaves-more all es (advanced c e.topic) w.0 c' a' u one.0 w.3 one.1 in
    (rest.0, rest.1, omega (arith, one.2, rest.2))

-- the event that is next is behind its topic's next place afterwards
weaves-one : (all : Sessions) (es : List EventAt) (c : Nexts) (a : Sessions) (c' : Nexts) (a' : Sessions) (e : EventAt) → IsNext c e →
    Weaves all (advanced c e.topic) a es c' a' → (m : ℕ) × (slice_get c' e.topic ≡ Some m) × (e.place < m)
weaves-one all es c a c' a' e next w =
    let rest = weaves-more all es (advanced c e.topic) a c' a' e.topic (e.place + 1) w (raised c e.topic e.place next) in
    (rest.0, rest.1, omega (arith, rest.2))

-- once all sessions are over, each event of which one was told has passed
pub weaves-passes : (all : Sessions) (es : List EventAt) (c : Nexts) (a : Sessions) (c' : Nexts) (a' : Sessions) (e : EventAt) →
    Weaves all c a es c' a' → AreOver a' → is_told a e ≡ true → (m : ℕ) × (slice_get c' e.topic ≡ Some m) × (e.place < m)
weaves-passes all [] c a c' a' e w over told = absurd (over-told a e (subst AreOver w.1 over) told)
weaves-passes all (x ∷ es) c a c' a' e (mid, inl t, next, rest) over told =
    elim (told-after a x mid e t told) as (λ _. (m : ℕ) × (slice_get c' e.topic ≡ Some m) × (e.place < m)) [
      | inl is ↦ subst (λ (y : EventAt). (m : ℕ) × (slice_get c' y.topic ≡ Some m) × (y.place < m)) is
          (weaves-one all es c mid c' a' x next rest)
      | inr h ↦ weaves-passes all es (advanced c x.topic) mid c' a' e rest over h
    ]
weaves-passes all (x ∷ es) c a c' a' e (mid, inr t, next, rest) over told =
    weaves-passes all es (advanced c x.topic) mid c' a' e rest over (ap (λ (s : Sessions). is_told s e) t.1 ∙ told)

module _ (all : Sessions) (ms : Nexts) where
  -- what the sessions are told of is told of all
  abbrev pub AreTold : Sessions → Type 0
  AreTold a = (e : EventAt) → is_told a e ≡ true → is_told all e ≡ true

  abbrev pub AreInside : Type 0
  AreInside = (e : EventAt) → is_told all e ≡ true → (m : ℕ) × (slice_get ms e.topic ≡ Some m) × (e.place < m)

  abbrev pub with_own : Sessions → Nexts → Sessions
  with_own a c = a ++ own (is_told all) 0 c ms

  stays : (c : Nexts) (e : EventAt) (m : ℕ) → is_told all e ≡ true → IsNext c e → slice_get ms e.topic ≡ Some m → e.place < m →
      own (is_told all) 0 (advanced c e.topic) ms ≡ own (is_told all) 0 c ms
  stays c e m told next end lt = own-stays (is_told all) 0 c ms e.topic e.place m next end lt
      (λ j same. (let one : j ≡ e.topic = omega (arith, same) in ap (λ (i : ℕ). is_told all (at i e.place)) one ∙ told))

  -- how far a search has come
  pub record Goes (c : Nexts) (a : Sessions) (es : List EventAt) (c' : Nexts) (ss' : Sessions) : Type 0 where
    pub left : Sessions
    pub is : ss' ≡ with_own left c'
    pub woven : Weaves all c a es c' left
    pub told : AreTold left
    pub within : AreWithin c' ms

  pub forward : (es : List EventAt) (c : Nexts) (a : Sessions) (c' : Nexts) (ss' : Sessions) → AreInside →
      Along c (with_own a c) es c' ss' → AreTold a → AreWithin c ms → Goes c a es c' ss'
  forward [] c a c' ss' inside m told within = record {
    left = a;
    is = m.1 ∙ ap (with_own a) (sym m.0);
    woven = (m.0, refl);
    told = told;
    within = subst (λ (d : Nexts). AreWithin d ms) (sym m.0) within;
  }
  forward (e ∷ es) c a c' ss' inside (mid, takes, next, rest) told within =
      elim (takes-either a (own (is_told all) 0 c ms) e mid takes) as (λ _. Goes c a (e ∷ es) c' ss') [
        | inl (a1, t, is) ↦
            let e-told = told e (told-takes a e a1 t) in
            let end = inside e e-told in
            let still = stays c e end.0 e-told next end.1 end.2 in
            let here : mid ≡ with_own a1 (advanced c e.topic) = is ∙ ap (λ (s : Sessions). a1 ++ s) (sym still) in
            let g = forward es (advanced c e.topic) a1 c' ss' inside
            (subst (λ s. Along (advanced c e.topic) s es c' ss') here rest)
            (λ f h. told f (told-before a e a1 f t h))
            (within-advance c ms e.topic e.place end.0 within next end.1 end.2) in
            record { left = g.left; is = g.is; woven = (a1, inl t, next, g.woven); told = g.told; within = g.within }
        | inr (b1, t, is) ↦
            let o = own-taken (is_told all) 0 c ms e b1 t in
            let topic : o.k ≡ e.topic = omega (arith, o.topic) in
            let at-k : slice_get c o.k ≡ Some e.place = ap (slice_get c) topic ∙ next in
            let place : e.place ≡ o.n = same-next c o.k e.place o.n at-k o.next in
            let b-is : b1 ≡ own (is_told all) 0 (advanced c e.topic) ms = o.here place
            ∙ ap (λ (k : ℕ). own (is_told all) 0 (advanced c k) ms) topic in
            let here : mid ≡ with_own a (advanced c e.topic) = is ∙ ap (λ (s : Sessions). a ++ s) b-is in
            let end : slice_get ms e.topic ≡ Some o.m = ap (slice_get ms) (sym topic) ∙ o.end in
            let g = forward es (advanced c e.topic) a c' ss' inside
            (subst (λ s. Along (advanced c e.topic) s es c' ss') here rest) told
            (within-advance c ms e.topic e.place o.m within next end o.below) in
            record { left = g.left; is = g.is; woven = (a, inr (o.free, refl), next, g.woven); told = g.told; within = g.within }
      ]

  pub backward : (es : List EventAt) (c : Nexts) (a : Sessions) (c' : Nexts) (a' : Sessions) → c' ≡ ms → Weaves all c a es c' a' →
      AreTold a → Along c (with_own a c) es c' (with_own a' c')
  backward [] c a c' a' end w told = (
    w.0,
    ap (λ (s : Sessions). s ++ own (is_told all) 0 c' ms) w.1 ∙ ap (with_own a) w.0,
  )
  backward (e ∷ es) c a c' a' end (mid, inl t, next, rest) told =
      let past = weaves-one all es c mid c' a' e next rest in
      let at-end : slice_get ms e.topic ≡ Some past.0 = ap (λ (d : Nexts). slice_get d e.topic) (sym end) ∙ past.1 in
      let still = stays c e past.0 (told e (told-takes a e mid t)) next at-end past.2 in
      let more = backward es (advanced c e.topic) mid c' a' end rest (λ f h. told f (told-before a e mid f t h)) in (
        with_own mid (advanced c e.topic),
        subst (λ (s : Sessions). Takes (with_own a c) e (mid ++ s)) (sym still)
            (takes-left a (own (is_told all) 0 c ms) e mid t),
        next,
        more,
      )
  backward (e ∷ es) c a c' a' end (mid, inr t, next, rest) told =
      let past = weaves-one all es c mid c' a' e next rest in
      let at-end : slice_get ms e.topic ≡ Some past.0 = ap (λ (d : Nexts). slice_get d e.topic) (sym end) ∙ past.1 in
      let rest' = subst (λ (s : Sessions). Weaves all (advanced c e.topic) s es c' a') t.1 rest in (
        with_own a (advanced c e.topic),
        takes-right a (own (is_told all) 0 c ms) e (own (is_told all) 0 (advanced c e.topic) ms)
            (own-takes (is_told all) 0 c ms e.topic e.place past.0 e next at-end past.2 (omega arith) refl t.0),
        next,
        backward es (advanced c e.topic) a c' a' end rest' told,
      )

  -- an order that the search has found, from these places on
  pub found : (es : List EventAt) (c : Nexts) → AreInside → AreWithin c ms → IsOrder c (with_own all c) es →
      (over : Sessions) × Weaves all c all es ms over × AreOver over
  found es c inside within (c', ss', along, over) =
      let g = forward es c all c' ss' inside along (λ e h. h) within in
      let both : AreOver (with_own g.left c') = subst AreOver g.is over in
      let done = over-left g.left (own (is_told all) 0 c' ms) both in
      let end : c' ≡ ms = own-ended (is_told all) 0 c' ms g.within (over-right g.left (own (is_told all) 0 c' ms) both)
      (λ k n j at-k same told.
      (let j-is : j ≡ k = omega (arith, same) in
      let past = weaves-passes all es c all c' g.left (at j n) g.woven done told in
      let here : slice_get c' j ≡ Some n = ap (slice_get c') j-is ∙ at-k in
      omega (arith, same-next c' j past.0 n past.1 here, past.2))) in
      (g.left, subst (λ (d : Nexts). Weaves all c all es d g.left) end g.woven, done)

  -- and one that is there is an order for the search
  pub searched : (es : List EventAt) (c : Nexts) (over : Sessions) → Weaves all c all es ms over → AreOver over →
      IsOrder c (with_own all c) es
  searched es c over w done = (
    ms,
    with_own over ms,
    backward es c all ms over refl w (λ e h. h),
    over-both over (own (is_told all) 0 ms ms) done (own-over (is_told all) 0 ms),
  )

  -- where the search is held up, a session is
  pub record Stuck (c : Nexts) (session : ℕ) (e : EventAt) : Type 0 where
    pub taken : List EventAt
    pub nexts : Nexts
    pub left : Sessions
    pub woven : Weaves all c all taken nexts left
    pub held : (k : ℕ) → IsHeldAt nexts left k
    pub told : (x : EventAt) (end : ℕ) → IsNext nexts x → slice_get ms x.topic ≡ Some end → x.place < end → is_told all x ≡ true
    pub here : first_of (slice_get left session) ≡ Some e
    pub first : (k : ℕ) → k < session → first_of (slice_get left k) ≡ None

  pub stuck : (c : Nexts) (session : ℕ) (e : EventAt) → AreInside → AreWithin c ms → IsHeldUp c (with_own all c) session e →
      Stuck c session e
  stuck c session e inside within up =
      let g = forward up.taken c all up.nexts' up.ss' inside up.along (λ f h. h) within in
      let mine : Sessions = own (is_told all) 0 up.nexts' ms in
      let seen : (k : ℕ) → k < length g.left → first_of (slice_get up.ss' k) ≡ first_of (slice_get g.left k) =
      λ k lt. ap (λ (s : Sessions). first_of (slice_get s k)) g.is ∙ ap first_of (get-left g.left mine k lt) in
      let inside-left : session < length g.left = elim (leb (length g.left) session) as
      (λ b. leb (length g.left) session ≡ b → session < length g.left) [
        | false ↦ λ q. leb-false (length g.left) session q
        | true ↦ λ q.
            let past : length g.left ≤ session = leb-true (length g.left) session q in
            let done : AreOver g.left = over-all g.left (λ k lt. sym (seen k lt) ∙ up.first k (omega (arith, lt, past))) in
            let i : ℕ = session - length g.left in
            let at-own : first_of (slice_get mine i) ≡ Some e =
            ap first_of (sym (get-right g.left mine session past)) ∙ ap (λ (s : Sessions). first_of (slice_get s session)) (sym g.is)
            ∙ up.here in
            let o = own-head (is_told all) 0 up.nexts' ms i e at-own in
            let topic : o.k ≡ e.topic = omega (arith, o.topic) in
            let next-at : slice_get up.nexts' e.topic ≡ Some o.n = ap (slice_get up.nexts') (sym topic) ∙ o.next in
            let not : o.n ≡ e.place → ⊥ = λ same. up.held session e up.here (next-at ∙ ap (λ (n : ℕ). Some n) same) in
            let lt : o.n < e.place = omega (arith, o.from, not) in
            let told = o.after e.topic o.topic lt in
            let passed = weaves-passes all up.taken c all up.nexts' g.left (at e.topic o.n) g.woven done told in
            absurd (omega (arith, same-next up.nexts' e.topic passed.0 o.n passed.1 next-at, passed.2))
      ] refl in
      record {
        taken = up.taken;
        nexts = up.nexts';
        left = g.left;
        woven = g.woven;
        held = λ k f h. up.held k f (seen k (first-within g.left k f h) ∙ h);
        told = λ x end next at-end lt. elim (is_told all x) as (λ b. is_told all x ≡ b → b ≡ true) [
          | true ↦ λ q. refl
          | false ↦ λ q.
              let i : ℕ = length g.left + x.topic in
              let number : i - length g.left ≡ x.topic = omega arith in
              let own-x = own-first (is_told all) 0 up.nexts' ms x.topic x.place end x next at-end lt (omega arith) refl q in
              let there : slice_get (with_own g.left up.nexts') i ≡ slice_get mine x.topic =
              get-right g.left mine i (omega arith) ∙ ap (slice_get mine) number in
              absurd (up.held i x (ap (λ (s : Sessions). first_of (slice_get s i)) g.is ∙ ap first_of there ∙ own-x) next)
        ] refl;
        here = sym (seen session inside-left) ∙ up.here;
        first = λ k lt. sym (seen k (omega (arith, lt, inside-left))) ∙ up.first k lt;
      }

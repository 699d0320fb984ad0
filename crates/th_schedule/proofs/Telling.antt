-- What sessions were told, as it is taken.
use Rattle.std.proofs.Common.{◌≡◌, ◌⊎◌, true, false, Bool, ◌||◌, ◌&&◌, eqb, List, [], ◌∷◌, ◌++◌, refl, sym, ap, ◌∙◌, inl, inr}
use Rattle.std.proofs.lemmas.Bool.{eqb-true, eq-eqb, false≢true}
use Rattle.th_orders.specs.declared.rests.EventAt.{EventAt}
use Rattle.th_orders.specs.Orders.{AreOver, Sessions, Takes}
use Rattle.th_orders.proofs.Waking.{same-event}
use Rattle.th_schedule.specs.Woven.{is_same, is_told, tells}

pub or-true : (a b : Bool) → (a || b) ≡ true → (a ≡ true) ⊎ (b ≡ true)
or-true true b h = inl refl
or-true false b h = inr h

pub or-left : (a b : Bool) → a ≡ true → (a || b) ≡ true
or-left true b h = refl
or-left false b h = absurd (false≢true h)

pub or-right : (a b : Bool) → b ≡ true → (a || b) ≡ true
or-right true b h = refl
or-right false b h = h

and-both : (a b : Bool) → (a && b) ≡ true → (a ≡ true) × (b ≡ true)
and-both true b h = (refl, h)
and-both false b h = absurd (false≢true h)

pub same-is : (e x : EventAt) → is_same x e ≡ true → x ≡ e
same-is e x h =
    let both = and-both (eqb x.topic e.topic) (eqb x.place e.place) h in
    same-event x e (eqb-true x.topic e.topic both.0) (eqb-true x.place e.place both.1)

is-same : (e : EventAt) → is_same e e ≡ true
is-same e = ap (λ b. b && eqb e.place e.place) (eq-eqb e.topic e.topic refl) ∙ eq-eqb e.place e.place refl

-- an event that is taken was told
pub told-takes : (ss : Sessions) (e : EventAt) (new : Sessions) → Takes ss e new → is_told ss e ≡ true
told-takes [] e new t = absurd t
told-takes (s ∷ ss) e new (inl t) =
    or-left (tells s e) (is_told ss e) (ap (λ (l : List EventAt). tells l e) t.1 ∙ or-left (is_same e e) (tells t.0 e) (is-same e))
told-takes (s ∷ ss) e new (inr t) = or-right (tells s e) (is_told ss e) (told-takes ss e t.0 t.2)

-- what is told of the rest was told before
pub told-before : (ss : Sessions) (x : EventAt) (new : Sessions) (e : EventAt) → Takes ss x new → is_told new e ≡ true → is_told ss e ≡ true
told-before [] x new e t h = absurd t
told-before (s ∷ ss) x new e (inl t) h =
    elim (or-true (tells t.0 e) (is_told ss e) (ap (λ (n : Sessions). is_told n e) (sym t.2) ∙ h)) as (λ _. is_told (s ∷ ss) e ≡ true) [
      | inl a ↦ or-left (tells s e) (is_told ss e) (ap (λ (l : List EventAt). tells l e) t.1 ∙ or-right (is_same x e) (tells t.0 e) a)
      | inr b ↦ or-right (tells s e) (is_told ss e) b
    ]
told-before (s ∷ ss) x new e (inr t) h =
    elim (or-true (tells s e) (is_told t.0 e) (ap (λ (n : Sessions). is_told n e) (sym t.1) ∙ h)) as (λ _. is_told (s ∷ ss) e ≡ true) [
      | inl a ↦ or-left (tells s e) (is_told ss e) a
      | inr b ↦ or-right (tells s e) (is_told ss e) (told-before ss x t.0 e t.2 b)
    ]

-- what was told is taken, or told of the rest
pub told-after : (ss : Sessions) (x : EventAt) (new : Sessions) (e : EventAt) → Takes ss x new → is_told ss e ≡ true →
    (x ≡ e) ⊎ (is_told new e ≡ true)
told-after [] x new e t h = absurd t
told-after (s ∷ ss) x new e (inl t) h =
    let Goal : Type 0 = (x ≡ e) ⊎ (is_told new e ≡ true) in
    elim (or-true (tells s e) (is_told ss e) h) as (λ _. Goal) [
      | inl a ↦ elim (or-true (is_same x e) (tells t.0 e) (ap (λ (l : List EventAt). tells l e) (sym t.1) ∙ a)) as (λ _. Goal) [
        | inl q ↦ inl (same-is e x q)
        | inr q ↦ inr (ap (λ (n : Sessions). is_told n e) t.2 ∙ or-left (tells t.0 e) (is_told ss e) q)
      ]
      | inr b ↦ inr (ap (λ (n : Sessions). is_told n e) t.2 ∙ or-right (tells t.0 e) (is_told ss e) b)
    ]
told-after (s ∷ ss) x new e (inr t) h =
    let Goal : Type 0 = (x ≡ e) ⊎ (is_told new e ≡ true) in
    elim (or-true (tells s e) (is_told ss e) h) as (λ _. Goal) [
      | inl a ↦ inr (ap (λ (n : Sessions). is_told n e) t.1 ∙ or-left (tells s e) (is_told t.0 e) a)
      | inr b ↦ elim (told-after ss x t.0 e t.2 b) as (λ _. Goal) [
        | inl q ↦ inl q
        | inr q ↦ inr (ap (λ (n : Sessions). is_told n e) t.1 ∙ or-right (tells s e) (is_told t.0 e) q)
      ]
    ]

pub over-told : (ss : Sessions) (e : EventAt) → AreOver ss → is_told ss e ≡ true → ⊥
over-told [] e over h = false≢true h
over-told (s ∷ ss) e over h = elim (or-true (tells s e) (is_told ss e) h) as (λ _. ⊥) [
  | inl a ↦ false≢true (ap (λ (l : List EventAt). tells l e) (sym over.0) ∙ a)
  | inr b ↦ over-told ss e over.1 b
]

-- of two groups of sessions
pub takes-either : (a b : Sessions) (e : EventAt) (new : Sessions) → Takes (a ++ b) e new →
    ((a' : Sessions) × Takes a e a' × (new ≡ a' ++ b)) ⊎ ((b' : Sessions) × Takes b e b' × (new ≡ a ++ b'))
takes-either [] b e new t = inr (new, t, refl)
takes-either (s ∷ a) b e new (inl t) = inl (t.0 ∷ a, inl (t.0, t.1, refl), t.2)
takes-either (s ∷ a) b e new (inr t) = elim (takes-either a b e t.0 t.2) as
    (λ _. ((a' : Sessions) × Takes (s ∷ a) e a' × (new ≡ a' ++ b)) ⊎ ((b' : Sessions) × Takes b e b' × (new ≡ (s ∷ a) ++ b'))) [
      | inl x ↦ inl (s ∷ x.0, inr (x.0, refl, x.1), t.1 ∙ ap (λ (r : Sessions). s ∷ r) x.2)
      | inr x ↦ inr (x.0, x.1, t.1 ∙ ap (λ (r : Sessions). s ∷ r) x.2)
    ]

pub takes-left : (a b : Sessions) (e : EventAt) (a' : Sessions) → Takes a e a' → Takes (a ++ b) e (a' ++ b)
takes-left [] b e a' t = absurd t
takes-left (s ∷ a) b e a' (inl t) = inl (t.0, t.1, ap (λ (r : Sessions). r ++ b) t.2)
takes-left (s ∷ a) b e a' (inr t) = inr (t.0 ++ b, ap (λ (r : Sessions). r ++ b) t.1, takes-left a b e t.0 t.2)

pub takes-right : (a b : Sessions) (e : EventAt) (b' : Sessions) → Takes b e b' → Takes (a ++ b) e (a ++ b')
takes-right [] b e b' t = t
takes-right (s ∷ a) b e b' t = inr (a ++ b', refl, takes-right a b e b' t)

pub over-left : (a b : Sessions) → AreOver (a ++ b) → AreOver a
over-left [] b h = tt
over-left (s ∷ a) b h = (h.0, over-left a b h.1)

pub over-right : (a b : Sessions) → AreOver (a ++ b) → AreOver b
over-right [] b h = h
over-right (s ∷ a) b h = over-right a b h.1

pub over-both : (a b : Sessions) → AreOver a → AreOver b → AreOver (a ++ b)
over-both [] b g h = h
over-both (s ∷ a) b g h = (g.0, over-both a b g.1 h)

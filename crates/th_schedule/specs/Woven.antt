-- What sessions were told of several topics, and what nobody was told of, as one order (docs/HISTORIES.md, "The whole hub").
use Rattle.std.specs.Prelude.{◌≡◌, ◌⊎◌, Bool, false, ◌||◌, ◌&&◌, nat_eq, List, [], ◌∷◌}
use Rattle.th_orders.specs.declared.rests.EventAt.{EventAt}
use Rattle.th_orders.specs.Orders.{IsNext, Nexts, Sessions, Takes, advanced}

abbrev pub is_same : EventAt → EventAt → Bool
is_same e f = nat_eq e.topic f.topic && nat_eq e.place f.place

-- whether one session was told of the event
abbrev pub tells : List EventAt → EventAt → Bool
tells [] e = false
tells (x ∷ xs) e = is_same x e || tells xs e

-- whether any was
abbrev pub is_told : Sessions → EventAt → Bool
is_told [] e = false
is_told (s ∷ ss) e = tells s e || is_told ss e

-- The event is the first of what is left of a session. Or none of all sessions was told of it.
abbrev pub Passes : (all : Sessions) → Sessions → EventAt → Sessions → Type 0
Passes all ss e new = Takes ss e new ⊎ ((is_told all e ≡ false) × (new ≡ ss))

-- The events stand one after another: each is the next one of its topic.
abbrev pub Weaves : (all : Sessions) → Nexts → Sessions → List EventAt → Nexts → Sessions → Type 0
Weaves all nexts ss [] nexts' ss' = (nexts' ≡ nexts) × (ss' ≡ ss)
Weaves all nexts ss (e ∷ es) nexts' ss' =
    (mid : Sessions) × Passes all ss e mid × IsNext nexts e
    × Weaves all (advanced nexts e.topic) mid es nexts' ss'

-- One order of what several sessions were told of several topics (docs/HISTORIES.md, "One order").
use Rattle.std.specs.Prelude.{◌≡◌, ◌⊎◌, ℕ, zero, suc, ◌+◌, ◌<◌, List, [], ◌∷◌, Option, Some, None, slice_get}
use Rattle.std.specs.List.{AllByRecursion}
use Rattle.th_orders.specs.declared.rests.EventAt.{EventAt}

-- what each session was told, in the order of its answers
abbrev pub Sessions : Type 0
Sessions = List (List EventAt)

-- the next place of each topic
abbrev pub Nexts : Type 0
Nexts = List ℕ

-- after one event more of the topic
abbrev pub advanced : Nexts → ℕ → Nexts
advanced [] topic = []
advanced (n ∷ ns) zero = (n + 1) ∷ ns
advanced (n ∷ ns) (suc topic) = n ∷ advanced ns topic

-- the event is the next one of its topic
abbrev pub IsNext : Nexts → EventAt → Type 0
IsNext nexts e = slice_get nexts e.topic ≡ Some e.place

-- one session's first event is taken
abbrev pub Takes : Sessions → EventAt → Sessions → Type 0
Takes [] e new = ⊥
Takes (s ∷ ss) e new =
    ((tail : List EventAt) × (s ≡ e ∷ tail) × (new ≡ tail ∷ ss))
    ⊎ ((rest : Sessions) × (new ≡ s ∷ rest) × Takes ss e rest)

-- The events are taken one after another: each is then the first of its session, and the next one of its topic.
abbrev pub Along : Nexts → Sessions → List EventAt → Nexts → Sessions → Type 0
Along nexts ss [] nexts' ss' = (nexts' ≡ nexts) × (ss' ≡ ss)
Along nexts ss (e ∷ es) nexts' ss' =
    (mid : Sessions) × Takes ss e mid × IsNext nexts e
    × Along (advanced nexts e.topic) mid es nexts' ss'

-- nothing is left of any session
abbrev pub AreOver : Sessions → Type 0
AreOver ss = AllByRecursion (λ s. s ≡ []) ss

-- The order has all that the sessions were told, each session's in its order, and each topic's by its places.
abbrev pub IsOrder : Nexts → Sessions → List EventAt → Type 0
IsOrder nexts ss es =
    (nexts' : Nexts) × (ss' : Sessions) × Along nexts ss es nexts' ss' × AreOver ss'

-- Whoever takes any event that is the first of its session and the next one of its topic still finds an order for the
-- rest, if there was one for all: so a search never has to go back.
abbrev pub NoChoiceIsWrong : Type 0
NoChoiceIsWrong = (nexts : Nexts) (ss : Sessions) (es : List EventAt) (e : EventAt) (mid : Sessions)
    → IsOrder nexts ss es → Takes ss e mid → IsNext nexts e
    → (rest : List EventAt) × IsOrder (advanced nexts e.topic) mid rest

-- the first event that is left of a session, if there is such a session
abbrev pub first_of : Option (List EventAt) → Option EventAt
first_of None = None
first_of (Some []) = None
first_of (Some (e ∷ es)) = Some e

-- the first event of the session of this number is not the next one of its topic
abbrev pub IsHeldAt : Nexts → Sessions → ℕ → Type 0
IsHeldAt nexts ss k = (e : EventAt) → first_of (slice_get ss k) ≡ Some e → IsNext nexts e → ⊥

-- The search has come to an end before it had an order: after these events each session that is not over is held up. The first
-- of them has this number, and this event is the first that is left of it. So there is no order.
pub record IsHeldUp (nexts : Nexts) (ss : Sessions) (session : ℕ) (e : EventAt) : Type 0 where
  pub taken : List EventAt
  pub nexts' : Nexts
  pub ss' : Sessions
  pub along : Along nexts ss taken nexts' ss'
  pub held : (k : ℕ) → IsHeldAt nexts' ss' k
  pub here : first_of (slice_get ss' session) ≡ Some e
  pub first : (k : ℕ) → k < session → first_of (slice_get ss' k) ≡ None
  pub none : (es : List EventAt) → IsOrder nexts ss es → ⊥

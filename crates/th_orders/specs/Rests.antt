-- What is left of sessions.
use Rattle.std.specs.Prelude.{ℕ, ◌+◌, List, [], ◌∷◌, length, drop}
use Rattle.std.specs.declared.vec.Vec.{Vec}
use Rattle.th_orders.specs.declared.rests.EventAt.{EventAt}
use Rattle.th_orders.specs.Orders.{Sessions}

-- the events of a session
abbrev pub events_of : {Z : Type 0} → Vec EventAt Z → List EventAt
events_of s = s.items

-- of each session, without as many events as were taken
abbrev pub rests : {Z : Type 0} → List ℕ → List (Vec EventAt Z) → Sessions
rests [] ss = []
rests (n ∷ ns) [] = []
rests (n ∷ ns) (s ∷ ss) = drop n s.items ∷ rests ns ss

-- how many events are left
abbrev pub left : Sessions → ℕ
left [] = 0
left (s ∷ ss) = length s + left ss

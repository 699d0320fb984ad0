-- The events of which nobody was told.
use Rattle.std.specs.Prelude.{ℕ, zero, suc, ◌+◌, ◌-◌, Bool, if◌then◌else◌, ◌&&◌, nat_eq, List, [], ◌∷◌}
use Rattle.std.specs.HashSet.{HashSet, contains}
use Rattle.th_orders.specs.declared.rests.EventAt.{EventAt}
use Rattle.th_orders.specs.Orders.{Nexts, Sessions}

-- events by topic and place
abbrev pub same_key : ℕ × ℕ → ℕ × ℕ → Bool
same_key x y = nat_eq x.0 y.0 && nat_eq x.1 y.1

abbrev pub noted : {S : Type 0} → HashSet (ℕ × ℕ) S → EventAt → Bool
noted told e = contains same_key told (e.topic, e.place)

-- of a topic, from a place on, of so many
abbrev pub untold_from : (EventAt → Bool) → (topic place count : ℕ) → List EventAt
untold_from told topic place zero = []
untold_from told topic place (suc count) =
    if told (record { topic = topic; place = place }) then untold_from told topic (place + 1) count
    else record { topic = topic; place = place } ∷ untold_from told topic (place + 1) count

-- of each topic, counted from this number on, from its next place to its end
abbrev pub own : (EventAt → Bool) → (topic : ℕ) → (nexts ends : Nexts) → Sessions
own told topic [] ends = []
own told topic (n ∷ ns) [] = []
own told topic (n ∷ ns) (m ∷ ms) = untold_from told topic n (m - n) ∷ own told (topic + 1) ns ms

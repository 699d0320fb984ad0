-- How a search for an order goes on, and why it tells none.
use Rattle.std.specs.Prelude.{◌≡◌, List, ◌++◌}
use Rattle.th_orders.specs.declared.rests.EventAt.{EventAt}
use Rattle.th_orders.specs.declared.search.Unordered.{Unordered}
use Rattle.th_orders.specs.declared.search.Unordered.TheVariants.{HeldUp, Short}
use Rattle.th_orders.specs.Orders.{Along, IsHeldUp, Nexts, Sessions}

-- some events more were taken, and stand behind those of before
abbrev pub Goes : Nexts → Sessions → List EventAt → Nexts → Sessions → List EventAt → Type 0
Goes nexts ss order nexts' ss' order' =
    (es : List EventAt) × (order' ≡ order ++ es) × Along nexts ss es nexts' ss'

-- there is none, and this is where the search came to its end; or memory was refused
abbrev pub IsUnordered : Nexts → Sessions → Unordered → Type 0
IsUnordered nexts ss (HeldUp session topic place) =
    IsHeldUp nexts ss session (record { topic = topic; place = place })
IsUnordered nexts ss Short = Unit {0}

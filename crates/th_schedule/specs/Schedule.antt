-- One order of all that happened on a hub's topics, or why there is none (docs/HISTORIES.md, "The whole hub").
use Rattle.std.specs.Prelude.{◌≡◌, ℕ, ◌<◌, true, List, ◌∷◌, ◌++◌, length, map, Some, None, slice_get}
use Rattle.std.specs.List.{AllByRecursion}
use Rattle.std.specs.declared.vec.Vec.{Vec}
use Rattle.th_log.specs.Audit.{Stands}
use Rattle.th_registry.specs.declared.channel.Channel.TheVariants.{Broadcast, Watch}
use Rattle.th_registry.specs.declared.opening.TopicId.{TopicId}
use Rattle.th_registry.specs.History.{ChannelSegment}
use Rattle.th_registry.specs.Receipts.{ChannelReceipt}
use Rattle.th_orders.specs.declared.rests.EventAt.{EventAt}
use Rattle.th_orders.specs.Orders as orders
use Rattle.th_orders.specs.Orders.{AreOver, IsHeldAt, IsNext, Nexts, Sessions}
use Rattle.th_schedule.specs.declared.schedules.Unscheduled.{Unscheduled}
use Rattle.th_schedule.specs.declared.schedules.Unscheduled.TheVariants.{Stranger, HeldUp, Short}
use Rattle.th_schedule.specs.Hub.{IsLegalHub, behind, first_of}
use Rattle.th_schedule.specs.Woven.{Weaves, is_told}

-- a receipt with the number of its topic
abbrev pub Told : Type 0
Told = TopicId × ChannelReceipt

abbrev pub told_of : {Z : Type 0} → Vec Told Z → List Told
told_of s = s.items

abbrev pub place_of : ChannelReceipt → ℕ
place_of (Broadcast t) = t.place
place_of (Watch t) = t.place

abbrev pub event_of : Told → EventAt
event_of t = record { topic = t.0.0; place = place_of t.1 }

-- the events of which sessions were told
abbrev pub events_of : List (List Told) → Sessions
events_of ss = map (λ s. map event_of s) ss

-- what is told is what stands in its topic's segment
abbrev pub StandsIn : ChannelSegment → ChannelReceipt → Type 0
StandsIn (Broadcast p) (Broadcast t) = Stands p t
StandsIn (Watch p) (Watch t) = Stands p t
StandsIn p t = ⊥

abbrev pub IsEntry : List ChannelSegment → Told → Type 0
IsEntry ps t = (p : ChannelSegment) × (slice_get ps t.0.0 ≡ Some p) × StandsIn p t.1

-- all that sessions were told
abbrev pub AreEntries : List ChannelSegment → List (List Told) → Type 0
AreEntries ps ss = AllByRecursion (λ s. AllByRecursion (IsEntry ps) s) ss

-- The order has each entry of the segments, each topic's in their order. Each session was told of such entries, in their
-- order, and no two of the same. Carried out one after another, they are a legal history of the hub.
pub record IsSchedule (ps : List ChannelSegment) (ss : List (List Told))
    (order : List EventAt) : Type 0 where
  pub receipts : AreEntries ps ss
  pub over : Sessions
  pub woven : Weaves (events_of ss) (map first_of ps) (events_of ss) order (map behind ps) over
  pub nothing : AreOver over
  pub legal : IsLegalHub ps order

-- the first receipt, sessions and receipts in order, that is no entry: one of this session, of this event
pub record IsStranger (ps : List ChannelSegment) (ss : List (List Told)) (session : ℕ)
    (e : EventAt) : Type 0 where
  pub earlier : List (List Told)
  pub before : List Told
  pub stranger : Told
  pub after : List Told
  pub later : List (List Told)
  pub here : ss ≡ earlier ++ (before ++ stranger ∷ after) ∷ later
  pub session_is : length earlier ≡ session
  pub event_is : event_of stranger ≡ e
  pub good : AreEntries ps earlier × AllByRecursion (IsEntry ps) before
  pub bad : IsEntry ps stranger → ⊥

-- After these events none can come next: each session that is not over waits for another event, and of each topic's next
-- entry somebody was told. The first of these sessions has this number, and begins with this event.
pub record IsStuck (ps : List ChannelSegment) (ss : Sessions) (session : ℕ)
    (e : EventAt) : Type 0 where
  pub taken : List EventAt
  pub nexts : Nexts
  pub left : Sessions
  pub woven : Weaves ss (map first_of ps) ss taken nexts left
  pub held : (k : ℕ) → IsHeldAt nexts left k
  pub told : (x : EventAt) (end : ℕ) → IsNext nexts x → slice_get (map behind ps) x.topic ≡ Some end
      → x.place < end → is_told ss x ≡ true
  pub here : orders.first_of (slice_get left session) ≡ Some e
  pub first : (k : ℕ) → k < session → orders.first_of (slice_get left k) ≡ None

abbrev pub HasNone : List ChannelSegment → List (List Told) → Type 0
HasNone ps ss = (order : List EventAt) → IsSchedule ps ss order → ⊥

-- there is no schedule, and this is why; or memory was refused
abbrev pub IsUnscheduled : List ChannelSegment → List (List Told) → Unscheduled → Type 0
IsUnscheduled ps ss (Stranger session topic place) =
    IsStranger ps ss session (record { topic = topic; place = place }) × HasNone ps ss
IsUnscheduled ps ss (HeldUp session topic place) =
    IsStuck ps (events_of ss) session (record { topic = topic; place = place }) × HasNone ps ss
IsUnscheduled ps ss Short = Unit {0}

-- Why there is no schedule, as it is found.
use Rattle.std.specs.Prelude.{◌≡◌, ℕ, List, ◌∷◌, ◌++◌}
use Rattle.std.specs.List.{AllByRecursion}
use Rattle.th_registry.specs.History.{ChannelSegment}
use Rattle.th_orders.specs.declared.rests.EventAt.{EventAt}
use Rattle.th_orders.specs.declared.search.Unordered.{Unordered}
use Rattle.th_orders.specs.declared.search.Unordered.TheVariants as Unordereds
use Rattle.th_schedule.specs.declared.receipts.Unread.{Unread}
use Rattle.th_schedule.specs.declared.receipts.Unread.TheVariants.{Stranger, Short}
use Rattle.th_schedule.specs.Schedule.{IsEntry, IsStranger, Told, event_of}
use Rattle.th_schedule.specs.declared.schedules.Unscheduled.{Unscheduled}
use Rattle.th_schedule.specs.declared.schedules.Unscheduled.TheVariants as Unscheduleds

-- the first receipt of a session that is no entry
pub record IsFirst (ps : List ChannelSegment) (s : List Told) (e : EventAt) : Type 0 where
  pub before : List Told
  pub stranger : Told
  pub after : List Told
  pub here : s ≡ before ++ stranger ∷ after
  pub event_is : event_of stranger ≡ e
  pub good : AllByRecursion (IsEntry ps) before
  pub bad : IsEntry ps stranger → ⊥

-- this is its event, or memory was refused
abbrev pub IsFirstIn : List ChannelSegment → List Told → Unread → Type 0
IsFirstIn ps s (Stranger topic place) = IsFirst ps s (record { topic = topic; place = place })
IsFirstIn ps s Short = Unit {0}

-- the same of all sessions
abbrev pub IsStrangerOrShort : List ChannelSegment → List (List Told) → Unscheduled → Type 0
IsStrangerOrShort ps ss (Unscheduleds.Stranger session topic place) =
    IsStranger ps ss session (record { topic = topic; place = place })
IsStrangerOrShort ps ss (Unscheduleds.HeldUp session topic place) = ⊥
IsStrangerOrShort ps ss Unscheduleds.Short = Unit {0}

-- why there is no schedule, by what is wrong with a session
abbrev pub why_of : ℕ → Unread → Unscheduled
why_of session (Stranger topic place) = Unscheduleds.Stranger session topic place
why_of session Short = Unscheduleds.Short

-- the same by why there is no order
abbrev pub unordered_of : Unordered → Unscheduled
unordered_of (Unordereds.HeldUp session topic place) = Unscheduleds.HeldUp session topic place
unordered_of Unordereds.Short = Unscheduleds.Short

-- What is always true of the histories of a hub's topics (docs/HISTORIES.md).
use Rattle.std.specs.Prelude.{◌≡◌, ℕ, ◌+◌, ◌≤◌, ◌<◌, [], ◌∷◌, length, Bool, true, false, Ok, IfOk, nat_eq}
use Rattle.std.specs.Prelude as prelude
use Rattle.std.specs.List.{AllByRecursion}
use Rattle.std.specs.Cmp.Lexicographic.{pointwise}
use Rattle.th_model.specs.BroadcastPicture as broadcast_picture
use Rattle.th_model.specs.WatchPicture as watch_picture
use Rattle.th_log.specs.History.{Machine, IsLegal, most}
use Rattle.th_log.specs.Machines as machines
use Rattle.th_registry.specs.declared.channel.Channel.TheVariants.{Broadcast, Watch}
use Rattle.th_registry.specs.Events.{Event, DropsTx, DropsRx, Ended, EventResult, sender_of}
use Rattle.th_registry.specs.History.{History, ChannelSegment, segment}
use Rattle.th_registry.specs.Hub.{Query, On, Cut, say}
use Rattle.th_registry.specs.Endless.{EndlessChannel, EndlessTopics, endless, AreProper}
use Rattle.th_registry.specs.Live.{Handle, Sender, Receiver, IsLive}

-- What is true of a channel's history between two events. The present segment is a legal history that ends at what is
-- seen now ("The log"); its limit is the desk's; and room is left for spending each live handle, in the segment and
-- among all events of the channel ("The limit").
pub record IsKept {E S C R : Type 0} (m : Machine E S C R) (is_sound : S → Type 0)
    (limit : ℕ) (h : History E S C R) : Type 0 where
  pub legal : IsLegal m is_sound (segment h (m.see h.state))
  pub same_limit : h.limit ≡ limit
  pub within : length h.entries + m.live (m.see h.state) ≤ limit
  pub total : h.first + length h.entries + m.live (m.see h.state) ≤ most

-- of a channel of either kind
abbrev pub IsKeptChannel : (limit : ℕ) → EndlessChannel → Type 0
IsKeptChannel limit (Broadcast h) = IsKept machines.broadcast broadcast_picture.IsSound limit h
IsKeptChannel limit (Watch h) =
    IsKept (machines.watch (pointwise nat_eq)) watch_picture.IsSound limit h

-- of the channel of each topic
abbrev pub AreKept : (limit : ℕ) → EndlessTopics → Type 0
AreKept limit ts = AllByRecursion (λ topic. IsKeptChannel limit topic.1) ts

-- whatever is asked of the hub, its histories stay so
abbrev pub HistoriesStayKept : Type 0
HistoriesStayKept = (limit : ℕ) (ts : EndlessTopics) (q : Query) →
    0 < limit → AreProper ts → AreKept limit ts →
    AreKept limit (say (endless limit) ts q).1

-- the topics after these queries
abbrev pub after : (limit : ℕ) → EndlessTopics → prelude.List Query → EndlessTopics
after limit ts [] = ts
after limit ts (q ∷ qs) = after limit (say (endless limit) ts q).1 qs

-- so are those of every hub that is reached from the empty one
abbrev pub HistoriesAreKept : Type 0
HistoriesAreKept = (limit : ℕ) (qs : prelude.List Query) →
    0 < limit → AreKept limit (after limit [] qs)

-- a segment that is a legal history of its kind of channel
abbrev pub IsLegalSegment : ChannelSegment → Type 0
IsLegalSegment (Broadcast p) = IsLegal machines.broadcast broadcast_picture.IsSound p
IsLegalSegment (Watch p) = IsLegal (machines.watch (pointwise nat_eq)) watch_picture.IsSound p

-- a cut hands out a legal history ("Segments")
abbrev pub CutsAreLegal : Type 0
CutsAreLegal = (limit : ℕ) (ts : EndlessTopics) (n : ℕ) → AreKept limit ts →
    IfOk (say (endless limit) ts (Cut n)).0 IsLegalSegment

-- the event is the end of a handle
abbrev pub IsEndOf : Event → Handle → Type 0
IsEndOf (DropsTx by) x = x ≡ Sender (sender_of by)
IsEndOf (DropsRx r) x = x ≡ Receiver r
IsEndOf event x = ⊥

-- it is said that the handle is at its end
abbrev pub is_done : EventResult → Bool
is_done (Ok Ended) = true
is_done told = false

-- the end of a live handle is never refused ("The limit")
abbrev pub LiveHandlesEnd : Type 0
LiveHandlesEnd = (limit : ℕ) (ts : EndlessTopics) (n : ℕ) (event : Event) (x : Handle) →
    AreKept limit ts →
    IsEndOf event x → IsLive ts n x → is_done (say (endless limit) ts (On n event)).0.0 ≡ true

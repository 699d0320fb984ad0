-- One legal history of all topics of a hub (docs/HISTORIES.md, "The whole hub").
use Rattle.std.specs.Prelude.{◌≡◌, ℕ, ◌+◌, ◌-◌, List, [], ◌∷◌, length, map, set, Option, Some, slice_get, nat_eq}
use Rattle.std.specs.Option.{option_map}
use Rattle.std.specs.Cmp.Lexicographic.{pointwise}
use Rattle.th_model.specs.declared.broadcast.BCall.{BCall}
use Rattle.th_model.specs.declared.broadcast.BReply.{BReply}
use Rattle.th_model.specs.declared.watch.WCall.{WCall}
use Rattle.th_model.specs.declared.watch.WReply.{WReply}
use Rattle.th_model.specs.BroadcastMachine as broadcast_machine
use Rattle.th_model.specs.BroadcastPicture as broadcast_picture
use Rattle.th_model.specs.WatchMachine as watch_machine
use Rattle.th_model.specs.WatchPicture as watch_picture
use Rattle.th_log.specs.History.{IsRun, Machine, end_of}
use Rattle.th_log.specs.Machines as machines
use Rattle.th_registry.specs.declared.channel.Channel.{Channel}
use Rattle.th_registry.specs.declared.channel.Channel.TheVariants.{Broadcast, Watch}
use Rattle.th_registry.specs.Calls.{Bytes}
use Rattle.th_registry.specs.History.{ChannelSegment}
use Rattle.th_orders.specs.declared.rests.EventAt.{EventAt}

-- a channel that remembers all that was ever sent or published, and what is seen of it
abbrev pub State : Type 0
State = Channel (broadcast_machine.Endless Bytes) (watch_machine.Endless Bytes)

abbrev pub Shown : Type 0
Shown = Channel (broadcast_picture.Picture Bytes) (watch_picture.Picture Bytes)

-- a call of a channel with its reply
abbrev pub Entry : Type 0
Entry = Channel (BCall Bytes × BReply Bytes) (WCall Bytes × WReply Bytes)

-- watch channels of the hub compare values byte by byte
abbrev pub watch : Machine (watch_machine.Endless Bytes) (watch_picture.Picture Bytes)
    (WCall Bytes) (WReply Bytes)
watch = machines.watch (pointwise nat_eq)

abbrev pub see : State → Shown
see (Broadcast e) = Broadcast (broadcast_picture.see e)
see (Watch e) = Watch (watch_picture.see e)

-- of a segment: the channel where it begins, what is seen where it ends, its first place, and the place behind it
abbrev pub start_of : ChannelSegment → State
start_of (Broadcast p) = Broadcast (broadcast_picture.whole p.start)
start_of (Watch p) = Watch (watch_picture.whole p.start)

abbrev pub last_of : ChannelSegment → Shown
last_of (Broadcast p) = Broadcast p.last
last_of (Watch p) = Watch p.last

abbrev pub first_of : ChannelSegment → ℕ
first_of (Broadcast p) = p.first
first_of (Watch p) = p.first

abbrev pub behind : ChannelSegment → ℕ
behind (Broadcast p) = p.first + length p.entries
behind (Watch p) = p.first + length p.entries

-- the entry at a place
abbrev pub entry_at : ChannelSegment → ℕ → Option Entry
entry_at (Broadcast p) place = option_map (λ x. Broadcast x) (slice_get p.entries (place - p.first))
entry_at (Watch p) place = option_map (λ x. Watch x) (slice_get p.entries (place - p.first))

-- the channel is ready for the call, replies so, and is the other one after it
abbrev pub Answers : State → Entry → State → Type 0
Answers (Broadcast e) (Broadcast x) new =
    IsRun machines.broadcast e (x ∷ []) × (new ≡ Broadcast (end_of machines.broadcast e (x ∷ [])))
Answers (Watch e) (Watch x) new = IsRun watch e (x ∷ []) × (new ≡ Watch (end_of watch e (x ∷ [])))
Answers old x new = ⊥

-- One event of the hub: a topic's channel answers as the entry at this place says, and no other channel has changed.
pub record Happens (ps : List ChannelSegment) (hub : List State) (e : EventAt)
    (hub' : List State) : Type 0 where
  pub segment : ChannelSegment
  pub entry : Entry
  pub old : State
  pub new : State
  pub topic : slice_get ps e.topic ≡ Some segment
  pub here : entry_at segment e.place ≡ Some entry
  pub channel : slice_get hub e.topic ≡ Some old
  pub answers : Answers old entry new
  pub after : hub' ≡ set hub e.topic new

-- one event after another
abbrev pub IsHubRun : List ChannelSegment → List State → List EventAt → List State → Type 0
IsHubRun ps hub [] hub' = hub' ≡ hub
IsHubRun ps hub (e ∷ es) hub' = (mid : List State) × Happens ps hub e mid × IsHubRun ps mid es hub'

-- A legal history of the hub: from the channels where the segments begin, to what is seen where they end.
abbrev pub IsLegalHub : List ChannelSegment → List EventAt → Type 0
IsLegalHub ps es =
    (hub : List State) × IsHubRun ps (map start_of ps) es hub × (map see hub ≡ map last_of ps)

-- The hub: topics in order of opening, and what they say to what is asked of them.
use Rattle.std.specs.Prelude.{ℕ, ◌+◌, ◌≡◌, ◌^◌, ◌⊎◌, nat_eq, nat_le, nat_lt, if◌then◌else◌, [], ◌∷◌, ◌++◌, length, map, Option, Some, None, is_some, slice_get, position, Result, Ok, Err, is_ok, Bool, true, false, not, ◌&&◌}
use Rattle.std.specs.Prelude as prelude
use Rattle.std.specs.Option.{option_map}
use Rattle.std.specs.Map.{keys_of, values_of}
use Rattle.std.specs.Cmp.Lexicographic.{pointwise}
use Rattle.indexmap.specs.IndexMap.{set_value_at}
use Rattle.th_model.specs.declared.handles.TxId.{TxId}
use Rattle.th_model.specs.declared.handles.RxId.{RxId}
use Rattle.th_model.specs.declared.broadcast.BCall.{BCall}
use Rattle.th_model.specs.declared.broadcast.BCall.TheVariants as BCalls
use Rattle.th_model.specs.declared.broadcast.BReply.{BReply}
use Rattle.th_model.specs.declared.watch.WCall.{WCall}
use Rattle.th_model.specs.declared.watch.WReply.{WReply}
use Rattle.th_model.specs.declared.listing.Listed.{Listed}
use Rattle.th_model.specs.declared.making.Making.{Making}
use Rattle.th_model.specs.declared.making.Making.TheVariants as Makings
use Rattle.th_model.specs.declared.short.Short.{Short}
use Rattle.th_model.specs.Limits.{capacity_of}
use Rattle.th_log.specs.Calls.{broadcast_waits, watch_waits}
use Rattle.th_log.specs.Replies.{broadcast_made_rx}
use Rattle.th_registry.specs.declared.channel.Channel.{Channel}
use Rattle.th_registry.specs.declared.channel.Channel.TheVariants.{Broadcast, Watch}
use Rattle.th_registry.specs.declared.opening.Refusal.{Refusal}
use Rattle.th_registry.specs.declared.opening.Refusal.TheVariants as Refusals
use Rattle.th_registry.specs.declared.opening.Found.{Found}
use Rattle.th_registry.specs.declared.outcome.NoEvent.{NoEvent}
use Rattle.th_registry.specs.declared.outcome.NoEvent.TheVariants as NoEvents
use Rattle.th_registry.specs.Kinds.{kind_of}
use Rattle.th_registry.specs.Calls.{Bytes, tx}
use Rattle.th_registry.specs.History.{BroadcastSegment, WatchSegment, ChannelSegment}
use Rattle.th_registry.specs.Receipts.{Receipt, BroadcastReceipt, WatchReceipt, ChannelReceipt}
use Rattle.th_registry.specs.Events.{Event, Resubscribes, DropsTx, DropsRx, Own, Outcome, EventResult, broadcast_call, broadcast_outcome, watch_call, watch_outcome, is_by_hub, is_end, takes_memory}

-- the most topics of a hub
abbrev pub most_topics : ℕ
most_topics = 1024

-- What the hub asks of a kind of channel, with endless states or with pictures. C are the channels with their histories, K
-- the calls, R the replies, and P the segments.
pub record ChannelMachine (C K R P : Type 0) : Type 0 where
  -- the reply to a call, and the channel after it
  pub step : C → K → R × C
  -- whether there is no room for the call in the log
  pub is_full : C → K → Bool
  pub has_sender : C → TxId → Bool
  pub has_receiver : C → RxId → Bool
  -- the segment so far, and the channel with the next one begun
  pub cut : C → P × C
  -- the receipt of the next event, of a call that is replied so
  pub receipt : C → K → R → Receipt K R

-- the machines of both kinds, and new channels; the key is no other channel's
pub record Machines (B W : Type 0) : Type 0 where
  pub broadcast : ChannelMachine B (BCall Bytes) (BReply Bytes) BroadcastSegment
  pub broadcast_opened : (capacity base key : ℕ) → B
  pub watch : ChannelMachine W (WCall Bytes) (WReply Bytes) WatchSegment
  pub watch_opened : Bytes → (key : ℕ) → W

-- what is asked of a hub
pub data Query : Type 0 where
  Find : Bytes → Query
  List : Query
  Open : Bytes → Making → Query
  On : ℕ → Event → Query
  Cut : ℕ → Query

-- what is said of an event, and its receipt, if one is handed out
abbrev pub Noted : Type 0
Noted = EventResult × Option ChannelReceipt

-- what is said to it: the topic of the name; the topics; the number that is told of a new topic; what came of the event;
-- the topic's segment
abbrev pub Said : Query → Type 0
Said (Find name) = Option Found
Said List = Result (prelude.List Listed) (Short Unit)
Said (Open name making) = Result ℕ Refusal
Said (On topic event) = Noted
Said (Cut topic) = Result ChannelSegment NoEvent

-- whether memory is asked for before this is said: for a list, for an opening that nothing else refuses, for an event by
-- the table, and for a segment
abbrev pub asks_memory : (q : Query) → Said q → Bool
asks_memory (Find name) found = false
asks_memory List topics = true
asks_memory (Open name making) opened = is_ok opened
asks_memory (On topic event) noted = takes_memory event noted.0
asks_memory (Cut topic) segment = is_ok segment

-- what is said where memory is refused
abbrev pub IsRefusal : (q : Query) → Said q → Type 0
IsRefusal (Find name) found = ⊥
IsRefusal List topics = topics ≡ Err (record { call = tt })
IsRefusal (Open name making) opened = opened ≡ Err Refusals.Short
IsRefusal (On topic event) noted = noted ≡ (Err NoEvents.Short, None)
IsRefusal (Cut topic) segment = segment ≡ Err NoEvents.Short

-- the reply to a call, if there is room for it in the log
abbrev pub if_room : {C K R P : Type 0} → ChannelMachine C K R P → C → K → Result R NoEvent × C
if_room m c call =
    if m.is_full c call then (Err NoEvents.LogFull, c)
    else (Ok (m.step c call).0, (m.step c call).1)

-- What a channel replies to a call, or the first reason why there is no event: the kind has no such call; it goes
-- through the hub's own sender, and that is not live; it would wait; there is no room for it in the log.
abbrev pub replies : {C K R P : Type 0} → ChannelMachine C K R P → (waits : K → R → Bool)
    (no_sender : Bool) → C → Option K → Result R NoEvent × C
replies m waits no_sender c None = (Err NoEvents.WrongKind, c)
replies m waits no_sender c (Some call) =
    if no_sender then (Err NoEvents.NoSender, c)
    else if waits call (m.step c call).0 then (Err NoEvents.Blocked, c)
    else if_room m c call

-- the same of a call that goes through the hub's own sender or not
abbrev pub hub_replies : {C K R P : Type 0} → ChannelMachine C K R P → (waits : K → R → Bool) →
    C → (by_hub : Bool) → Option K → Result R NoEvent × C
hub_replies m waits c by_hub call =
    replies m waits (by_hub && not (m.has_sender c (tx 1))) c call

-- once there is a new receiver, the old one is spent by its last call
abbrev pub moved_by : {C K R P : Type 0} → ChannelMachine C K R P → (R → Option RxId) → K →
    Result R NoEvent × C → Result R NoEvent × C
moved_by m made_rx last (Ok reply, c) =
    (Ok reply, if is_some (made_rx reply) then (m.step c last).1 else c)
moved_by m made_rx last (Err why, c) = (Err why, c)

-- a handle is spent only where it is live
abbrev pub if_live : {C R : Type 0} → Bool → C → Result R NoEvent × C → Result R NoEvent × C
if_live live c s = if live then s else (Err NoEvents.NotLive, c)

-- what came of an event, by the reply to its call
abbrev pub came : {R : Type 0} → (R → Outcome) → Result R NoEvent → EventResult
came outcome (Ok reply) = Ok (outcome reply)
came outcome (Err why) = Err why

-- the receipt of what is replied to a call, where it was an event
abbrev pub receipted : {C K R P : Type 0} → ChannelMachine C K R P → C → Result R NoEvent →
    Option K → Option (Receipt K R)
receipted m c (Ok reply) (Some call) = Some (m.receipt c call reply)
receipted m c (Ok reply) None = None
receipted m c (Err why) call = None

-- topics in order of opening, each with its name
abbrev pub Topics : Type 0 → Type 0 → Type 0
Topics B W = prelude.List (Bytes × Channel B W)

module _ {B W : Type 0} where
  abbrev pub found_in : ℕ → Option (Bytes × Channel B W) → Option Found
  found_in n None = None
  found_in n (Some topic) = Some (record { topic = record { 0 = n }; kind = kind_of topic.1 })

  abbrev pub found_at : Topics B W → Option ℕ → Option Found
  found_at ts None = None
  found_at ts (Some n) = found_in n (slice_get ts n)

  -- the topic of this name: its number from 0, and its kind
  abbrev pub find : Topics B W → Bytes → Option Found
  find ts name = found_at ts (position (pointwise nat_eq name) (keys_of ts))

  abbrev pub listed : Bytes × Channel B W → Listed
  listed topic = record { name = topic.0; kind = kind_of topic.1 }

  -- each topic with its kind, in order of opening
  abbrev pub list : Topics B W → prelude.List Listed
  list ts = map listed ts

  -- what a channel says, and the topics with the channel as it is after it
  abbrev pub written : {A : Type 0} → Topics B W → ℕ → A × Channel B W → A × Topics B W
  written ts n s = (s.0, set_value_at ts n s.1)

  abbrev pub on_channel : {A : Type 0} → Topics B W → ℕ →
      (Channel B W → Result A NoEvent × Channel B W) →
      Option (Channel B W) → Result A NoEvent × Topics B W
  on_channel ts n f None = (Err NoEvents.NoTopic, ts)
  on_channel ts n f (Some c) = written ts n (f c)

  -- what the channel of topic n says
  abbrev pub at_topic : {A : Type 0} → Topics B W → ℕ →
      (Channel B W → Result A NoEvent × Channel B W) →
      Result A NoEvent × Topics B W
  at_topic ts n f = on_channel ts n f (slice_get (values_of ts) n)

  -- a new topic at the end, if there is room for one
  abbrev pub added : Topics B W → Bytes → Option (ℕ × Channel B W) → Result ℕ Refusal × Topics B W
  added ts name None = (Err Refusals.BadCapacity, ts)
  added ts name (Some made) =
      if nat_le most_topics (length ts) then (Err Refusals.TooManyTopics, ts)
      else (Ok made.0, ts ++ (name, made.1) ∷ [])

-- a broadcast channel
module _ {B : Type 0} (m : ChannelMachine B (BCall Bytes) (BReply Bytes) BroadcastSegment) where
  -- one call of a broadcast channel, through the hub's own sender or not
  abbrev pub broadcast_replies : B → (by_hub : Bool) → Option (BCall Bytes) →
      Result (BReply Bytes) NoEvent × B
  broadcast_replies c by_hub call = hub_replies m broadcast_waits c by_hub call

  -- once there is a new receiver, the old one is spent
  abbrev pub moved : RxId → Result (BReply Bytes) NoEvent × B → Result (BReply Bytes) NoEvent × B
  moved r s = moved_by m broadcast_made_rx (BCalls.DropRx r) s

  -- what a broadcast channel replies to an event
  abbrev pub broadcast_event : B → Event → Result (BReply Bytes) NoEvent × B
  broadcast_event c (Resubscribes r) =
      moved r (broadcast_replies c false (broadcast_call (Resubscribes r)))
  broadcast_event c (DropsTx (Own t)) =
      if_live (m.has_sender c t) c (broadcast_replies c false (broadcast_call (DropsTx (Own t))))
  broadcast_event c (DropsRx r) =
      if_live (m.has_receiver c r) c (broadcast_replies c false (broadcast_call (DropsRx r)))
  broadcast_event c event = broadcast_replies c (is_by_hub event) (broadcast_call event)

  -- the receipt of its one call, or of its first; the end of a handle has none
  abbrev pub broadcast_receipt : B → Event → Option BroadcastReceipt
  broadcast_receipt c event =
      if is_end event then None
      else receipted m c (broadcast_event c event).0 (broadcast_call event)

-- a watch channel
module _ {W : Type 0} (m : ChannelMachine W (WCall Bytes) (WReply Bytes) WatchSegment) where
  -- one call of a watch channel
  abbrev pub watch_replies : W → (by_hub : Bool) → Option (WCall Bytes) →
      Result (WReply Bytes) NoEvent × W
  watch_replies c by_hub call = hub_replies m watch_waits c by_hub call

  abbrev pub watch_event : W → Event → Result (WReply Bytes) NoEvent × W
  watch_event c (DropsTx (Own t)) =
      if_live (m.has_sender c t) c (watch_replies c false (watch_call (DropsTx (Own t))))
  watch_event c (DropsRx r) =
      if_live (m.has_receiver c r) c (watch_replies c false (watch_call (DropsRx r)))
  watch_event c event = watch_replies c (is_by_hub event) (watch_call event)

  abbrev pub watch_receipt : W → Event → Option WatchReceipt
  watch_receipt c event =
      if is_end event then None else receipted m c (watch_event c event).0 (watch_call event)

module _ {B W : Type 0} where
  abbrev pub as_broadcast : Event → Result (BReply Bytes) NoEvent × B → EventResult × Channel B W
  as_broadcast event s = (came (broadcast_outcome event) s.0, Broadcast s.1)

  abbrev pub as_watch : Event → Result (WReply Bytes) NoEvent × W → EventResult × Channel B W
  as_watch event s = (came (watch_outcome event) s.0, Watch s.1)

-- a channel of either kind
module _ {B W : Type 0} (b : ChannelMachine B (BCall Bytes) (BReply Bytes) BroadcastSegment)
    (w : ChannelMachine W (WCall Bytes) (WReply Bytes) WatchSegment) where
  -- what a channel says of an event
  abbrev pub channel_event : Channel B W → Event → EventResult × Channel B W
  channel_event (Broadcast c) event = as_broadcast event (broadcast_event b c event)
  channel_event (Watch c) event = as_watch event (watch_event w c event)

  -- the receipt of an event, if one is handed out
  abbrev pub channel_receipt : Channel B W → Event → Option ChannelReceipt
  channel_receipt (Broadcast c) event = option_map (λ r. Broadcast r) (broadcast_receipt b c event)
  channel_receipt (Watch c) event = option_map (λ r. Watch r) (watch_receipt w c event)

  -- a channel's segment so far, and the channel with the next one begun
  abbrev pub cut_channel : Channel B W → Result ChannelSegment NoEvent × Channel B W
  cut_channel (Broadcast c) = (Ok (Broadcast (b.cut c).0), Broadcast (b.cut c).1)
  cut_channel (Watch c) = (Ok (Watch (w.cut c).0), Watch (w.cut c).1)

module _ {B W : Type 0} (m : Machines B W) where
  -- a broadcast channel and its capacity in force. None for a capacity out of range, nor for a base past the last
  -- position, which no number of a line is.
  abbrev pub made_broadcast : (key asked base : ℕ) → Option (ℕ × Channel B W)
  made_broadcast key asked base =
      if nat_lt base (2 ^ 64)
      then option_map (λ c. (c, Broadcast (m.broadcast_opened c base key))) (capacity_of asked)
      else None

  -- the channel of a making, and the number that is told: of a broadcast channel its capacity in force, of a watch
  -- channel 1
  abbrev pub made : (key : ℕ) → Making → Option (ℕ × Channel B W)
  made key (Makings.Broadcast asked) = made_broadcast key asked 0
  made key (Makings.BroadcastAt asked base) = made_broadcast key asked base
  made key (Makings.Watch value) = Some (1, Watch (m.watch_opened value key))

  -- a topic is opened, or the first refusal that holds: the name is there, the capacity is out of range, there are
  -- as many topics as there may be; a channel's key is the topic's number, counted from 1
  abbrev pub open_topic : Topics B W → Bytes → Making → Result ℕ Refusal × Topics B W
  open_topic ts name making =
      if is_some (find ts name) then (Err Refusals.Exists, ts)
      else added ts name (made (length ts + 1) making)

  -- one event of the hub, or why there was none
  abbrev pub event : Topics B W → ℕ → Event → EventResult × Topics B W
  event ts n e = at_topic ts n (λ c. channel_event m.broadcast m.watch c e)

  abbrev pub receipt_on : Option (Channel B W) → Event → Option ChannelReceipt
  receipt_on None e = None
  receipt_on (Some c) e = channel_receipt m.broadcast m.watch c e

  -- its receipt, if one is handed out
  abbrev pub receipt : Topics B W → ℕ → Event → Option ChannelReceipt
  receipt ts n e = receipt_on (slice_get (values_of ts) n) e

  -- what the hub says to a query, and the topics after it
  abbrev pub say : Topics B W → (q : Query) → Said q × Topics B W
  say ts (Find name) = (find ts name, ts)
  say ts List = (Ok (list ts), ts)
  say ts (Open name making) = open_topic ts name making
  say ts (On n e) = (((event ts n e).0, receipt ts n e), (event ts n e).1)
  say ts (Cut n) = at_topic ts n (cut_channel m.broadcast m.watch)

  -- memory was refused where it is asked for, and nothing has changed
  abbrev pub IsShort : Topics B W → (q : Query) → Said q → Topics B W → Type 0
  IsShort ts q said after = IsRefusal q said × (after ≡ ts) × (asks_memory q (say ts q).0 ≡ true)

  -- a desk that holds these topics says what the hub says, or that memory was refused
  abbrev pub Says : Topics B W → (q : Query) → Said q → Topics B W → Type 0
  Says ts q said after = (say ts q ≡ (said, after)) ⊎ IsShort ts q said after

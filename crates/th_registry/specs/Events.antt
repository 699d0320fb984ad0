-- The events of a hub's topics, the channel call that each is, and what comes of it.
use Rattle.std.specs.Prelude.{Bool, true, false, if◌then◌else◌, Option, Some, None, Result, Ok, Err}
use Rattle.th_model.specs.declared.handles.TxId.{TxId}
use Rattle.th_model.specs.declared.handles.RxId.{RxId}
use Rattle.th_model.specs.declared.broadcast.BCall.{BCall}
use Rattle.th_model.specs.declared.broadcast.BCall.TheVariants as BCalls
use Rattle.th_model.specs.declared.broadcast.BReply.{BReply}
use Rattle.th_model.specs.declared.broadcast.BReply.TheVariants as BReplies
use Rattle.th_model.specs.declared.watch.WCall.{WCall}
use Rattle.th_model.specs.declared.watch.WCall.TheVariants as WCalls
use Rattle.th_model.specs.declared.watch.WReply.{WReply}
use Rattle.th_model.specs.declared.watch.WReply.TheVariants as WReplies
use Rattle.th_model.specs.declared.verb.Question.{Question}
use Rattle.th_model.specs.declared.verb.ReceiverVerb.{ReceiverVerb}
use Rattle.th_model.specs.declared.verb.SenderVerb.{SenderVerb}
use Rattle.th_model.specs.declared.verb.Start.{Start}
use Rattle.th_log.specs.Calls.{broadcast_asked, broadcast_by_receiver, broadcast_by_sender, broadcast_subscribing, watch_asked, watch_by_receiver, watch_by_sender, watch_subscribing}
use Rattle.th_log.specs.Replies as log
use Rattle.th_registry.specs.declared.channel.Channel.{Channel}
use Rattle.th_registry.specs.declared.channel.Channel.TheVariants.{Broadcast, Watch}
use Rattle.th_registry.specs.declared.outcome.NoEvent.{NoEvent}
use Rattle.th_registry.specs.Calls.{Bytes, tx}

-- by which sender: the hub's own, which is sender 1 of each topic, or the asker's
pub data By : Type 0 where
  Hub : By
  Own : TxId → By

abbrev pub sender_of : By → TxId
sender_of Hub = tx 1
sender_of (Own t) = t

abbrev pub is_hub : By → Bool
is_hub Hub = true
is_hub (Own t) = false

-- by the asker's own sender, or else by the hub's
abbrev pub any_sender : Option TxId → By
any_sender None = Hub
any_sender (Some t) = Own t

-- One event of a topic. `Resubscribes` is two calls of the channel: a new receiver, then the end of the old one.
pub data Event : Type 0 where
  -- a new sender, by the hub's own
  Binds : Event
  -- a new receiver, which begins at the tail or at the oldest kept value
  Subscribes : Start → By → Event
  Sends : TxId → SenderVerb Bytes → Event
  Asks : By → Question → Event
  Receives : RxId → ReceiverVerb → Event
  -- a new receiver for this one, which is spent then
  Resubscribes : RxId → Event
  -- the end of a sender, and of a receiver
  DropsTx : By → Event
  DropsRx : RxId → Event

-- whether an event goes through the hub's own sender
abbrev pub is_by_hub : Event → Bool
is_by_hub Binds = true
is_by_hub (Subscribes start by) = is_hub by
is_by_hub (Asks by question) = is_hub by
is_by_hub (DropsTx by) = is_hub by
is_by_hub event = false

-- whether an event is the end of a handle, of which no receipt is handed out
abbrev pub is_end : Event → Bool
is_end (DropsTx by) = true
is_end (DropsRx r) = true
is_end event = false

-- the call of a broadcast channel, and of a watch channel, if it has one
abbrev pub broadcast_call : Event → Option (BCall Bytes)
broadcast_call Binds = Some (BCalls.CloneTx (tx 1))
broadcast_call (Subscribes start by) = broadcast_subscribing start (sender_of by)
broadcast_call (Sends t verb) = broadcast_by_sender verb t
broadcast_call (Asks by question) = broadcast_asked question (sender_of by)
broadcast_call (Receives r verb) = broadcast_by_receiver verb r
broadcast_call (Resubscribes r) = Some (BCalls.Resubscribe r)
broadcast_call (DropsTx by) = Some (BCalls.DropTx (sender_of by))
broadcast_call (DropsRx r) = Some (BCalls.DropRx r)

abbrev pub watch_call : Event → Option (WCall Bytes)
watch_call Binds = Some (WCalls.CloneTx (tx 1))
watch_call (Subscribes start by) = watch_subscribing start (sender_of by)
watch_call (Sends t verb) = watch_by_sender verb t
watch_call (Asks by question) = watch_asked question (sender_of by)
watch_call (Receives r verb) = watch_by_receiver verb r
watch_call (Resubscribes r) = None
watch_call (DropsTx by) = Some (WCalls.DropTx (sender_of by))
watch_call (DropsRx r) = Some (WCalls.DropRx r)

-- what a channel replied
abbrev pub ChannelReply : Type 0
ChannelReply = Channel (BReply Bytes) (WReply Bytes)

-- what came of an event: a new handle, the end of one, or another reply of the channel
pub data Outcome : Type 0 where
  NewTx : TxId → Outcome
  NewRx : RxId → Outcome
  Ended : Outcome
  Replied : ChannelReply → Outcome

-- a handle of this number that was made, or else the reply
abbrev pub made_or : {H : Type 0} → (H → Outcome) → ChannelReply → Option H → Outcome
made_or number reply (Some handle) = number handle
made_or number reply None = Replied reply

-- by the reply: the handle of its side that the event was to make
abbrev pub broadcast_made_tx : BReply Bytes → Outcome
broadcast_made_tx reply = made_or (λ t. NewTx t) (Broadcast reply) (log.broadcast_made_tx reply)

abbrev pub broadcast_made_rx : BReply Bytes → Outcome
broadcast_made_rx reply = made_or (λ r. NewRx r) (Broadcast reply) (log.broadcast_made_rx reply)

abbrev pub watch_made_tx : WReply Bytes → Outcome
watch_made_tx reply = made_or (λ t. NewTx t) (Watch reply) (log.watch_made_tx reply)

abbrev pub watch_made_rx : WReply Bytes → Outcome
watch_made_rx reply = made_or (λ r. NewRx r) (Watch reply) (log.watch_made_rx reply)

-- the end of a handle, where the channel is done with it, or else the reply
abbrev pub ended_or : (is_done : Bool) → ChannelReply → Outcome
ended_or is_done reply = if is_done then Ended else Replied reply

abbrev pub is_broadcast_done : BReply Bytes → Bool
is_broadcast_done BReplies.Done = true
is_broadcast_done reply = false

abbrev pub is_watch_done : WReply Bytes → Bool
is_watch_done WReplies.Done = true
is_watch_done reply = false

-- what comes of an event, by the reply to its call
abbrev pub broadcast_outcome : Event → BReply Bytes → Outcome
broadcast_outcome Binds reply = broadcast_made_tx reply
broadcast_outcome (Subscribes start by) reply = broadcast_made_rx reply
broadcast_outcome (Resubscribes r) reply = broadcast_made_rx reply
broadcast_outcome (DropsTx by) reply = ended_or (is_broadcast_done reply) (Broadcast reply)
broadcast_outcome (DropsRx r) reply = ended_or (is_broadcast_done reply) (Broadcast reply)
broadcast_outcome event reply = Replied (Broadcast reply)

abbrev pub watch_outcome : Event → WReply Bytes → Outcome
watch_outcome Binds reply = watch_made_tx reply
watch_outcome (Subscribes start by) reply = watch_made_rx reply
watch_outcome (DropsTx by) reply = ended_or (is_watch_done reply) (Watch reply)
watch_outcome (DropsRx r) reply = ended_or (is_watch_done reply) (Watch reply)
watch_outcome event reply = Replied (Watch reply)

-- what is said of an event: what came of it, or why there was none
abbrev pub EventResult : Type 0
EventResult = Result Outcome NoEvent

-- The table of what may be refused for want of memory: by the event, and by what would be said of it. Each event takes
-- room in its channel's log, but for the end of a live handle: room for that was made with the handle.
abbrev pub takes_memory : Event → EventResult → Bool
takes_memory (DropsTx by) told = false
takes_memory (DropsRx r) told = false
takes_memory event (Ok outcome) = true
takes_memory event (Err why) = false

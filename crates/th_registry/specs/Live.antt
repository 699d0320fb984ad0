-- The live handles of a hub's topics, and those that an event makes and ends.
use Rattle.std.specs.Prelude.{ℕ, ◌≡◌, Bool, true, false, Option, Some, None, is_some, slice_get, Ok, Err}
use Rattle.std.specs.Map.{values_of}
use Rattle.th_model.specs.declared.handles.TxId.{TxId}
use Rattle.th_model.specs.declared.handles.RxId.{RxId}
use Rattle.th_model.specs.Handles.{is_sender}
use Rattle.th_model.specs.Places.{place_of}
use Rattle.th_model.specs.WatchMachine.{reader_of}
use Rattle.th_model.specs.declared.broadcast.BReply.TheVariants as BReplies
use Rattle.th_model.specs.declared.watch.WReply.TheVariants as WReplies
use Rattle.th_registry.specs.declared.channel.Channel.TheVariants.{Broadcast, Watch}
use Rattle.th_registry.specs.declared.outcome.NoEvent.TheVariants as NoEvents
use Rattle.th_registry.specs.Events.{Event, Subscribes, Sends, Asks, Receives, Resubscribes, DropsTx, DropsRx, Own, NewTx, NewRx, Replied, EventResult, sender_of}
use Rattle.th_registry.specs.Hub.{Query, Find, List, Open, On, Cut, Said}
use Rattle.th_registry.specs.Endless.{EndlessChannel, EndlessTopics}

-- a handle of a channel, by its side
pub data Handle : Type 0 where
  Sender : TxId → Handle
  Receiver : RxId → Handle

-- whether the handle is live on the channel
abbrev pub is_live : EndlessChannel → Handle → Bool
is_live (Broadcast h) (Sender t) = is_sender h.state.senders t.0
is_live (Broadcast h) (Receiver r) = is_some (place_of h.state.index r.0)
is_live (Watch h) (Sender t) = is_sender h.state.senders t.0
is_live (Watch h) (Receiver r) = is_some (reader_of h.state.marks r.0)

-- the same of a channel that may be none
abbrev pub is_live_on : Option EndlessChannel → Handle → Bool
is_live_on None x = false
is_live_on (Some c) x = is_live c x

-- the topic of this number is there, and the handle is live on it
abbrev pub IsLive : EndlessTopics → ℕ → Handle → Type 0
IsLive ts n x = is_live_on (slice_get (values_of ts) n) x ≡ true

-- the handle that an event made, by what is said of it
abbrev pub new_handle : EventResult → Option Handle
new_handle (Ok (NewTx t)) = Some (Sender t)
new_handle (Ok (NewRx r)) = Some (Receiver r)
new_handle told = None

-- What is said of the event ends the handle: the one that it spends, where that was done. A resubscription spends its
-- receiver once there is a new one.
abbrev pub Ends : Event → EventResult → Handle → Type 0
Ends (Resubscribes r) (Ok (NewRx new)) x = x ≡ Receiver r
Ends (DropsTx by) (Ok outcome) x = x ≡ Sender (sender_of by)
Ends (DropsRx r) (Ok outcome) x = x ≡ Receiver r
Ends event told x = ⊥

-- the same of a query, and a handle of topic n
abbrev pub EndsOn : (q : Query) → Said q → ℕ → Handle → Type 0
EndsOn (Find name) said n x = ⊥
EndsOn List said n x = ⊥
EndsOn (Open name making) said n x = ⊥
EndsOn (On topic event) noted n x = (n ≡ topic) × Ends event noted.0 x
EndsOn (Cut topic) said n x = ⊥

-- the event is asked for by this handle, and not through the hub's own sender
abbrev pub AskedBy : Event → Handle → Type 0
AskedBy (Subscribes start (Own t)) x = x ≡ Sender t
AskedBy (Sends t verb) x = x ≡ Sender t
AskedBy (Asks (Own t) question) x = x ≡ Sender t
AskedBy (Receives r verb) x = x ≡ Receiver r
AskedBy (Resubscribes r) x = x ≡ Receiver r
AskedBy (DropsTx (Own t)) x = x ≡ Sender t
AskedBy (DropsRx r) x = x ≡ Receiver r
AskedBy event x = ⊥

-- a channel said that there is no such handle, or that the handle to be spent is not live
abbrev pub lacks_handle : EventResult → Bool
lacks_handle (Err NoEvents.NotLive) = true
lacks_handle (Ok (Replied (Broadcast (BReplies.NoHandle v)))) = true
lacks_handle (Ok (Replied (Watch (WReplies.NoHandle v)))) = true
lacks_handle told = false

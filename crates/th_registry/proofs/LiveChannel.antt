-- The handles of a channel of the hub that are live after an event. A history's step acts on its state as the channel's
-- does, and where there is no event the channel stays as it is.
use Rattle.std.proofs.Common.{◌≡◌, ℕ, Bool, true, false, length, Option, Some, None, is_some, Result, Ok, Err, refl, sym, ap, ◌∙◌, arith}
use Rattle.std.specs.Prelude.{nat_eq, not, ◌&&◌}
use Rattle.std.specs.Cmp.Lexicographic.{pointwise}
use Rattle.std.proofs.lemmas.Bool.{false≢true}
use Rattle.std.proofs.lemmas.Option.{none-some}
use Rattle.th_model.specs.declared.handles.TxId.{TxId}
use Rattle.th_model.specs.declared.handles.RxId.{RxId}
use Rattle.th_model.specs.declared.broadcast.BCall.{BCall}
use Rattle.th_model.specs.declared.broadcast.BCall.TheVariants as BCalls
use Rattle.th_model.specs.declared.broadcast.BReply.{BReply}
use Rattle.th_model.specs.declared.broadcast.BReply.TheVariants as BReplies
use Rattle.th_model.specs.declared.watch.WCall.{WCall}
use Rattle.th_model.specs.declared.watch.WCall.TheVariants as WCalls
use Rattle.th_model.specs.declared.watch.WReply.{WReply}
use Rattle.th_model.specs.declared.watch.WReply.TheVariants as WReplies
use Rattle.th_model.specs.declared.verb.Question.{Question}
use Rattle.th_model.specs.declared.verb.Question.TheVariants as Questions
use Rattle.th_model.specs.declared.verb.ReceiverVerb.{ReceiverVerb}
use Rattle.th_model.specs.declared.verb.ReceiverVerb.TheVariants as ReceiverVerbs
use Rattle.th_model.specs.declared.verb.SenderVerb.{SenderVerb}
use Rattle.th_model.specs.declared.verb.SenderVerb.TheVariants as SenderVerbs
use Rattle.th_model.specs.declared.verb.Start.TheVariants as Starts
use Rattle.th_model.specs.BroadcastMachine as broadcast
use Rattle.th_model.specs.WatchMachine as watch
use Rattle.th_model.specs.Handles.{is_sender, is_full}
use Rattle.th_model.specs.Places.{place_of, with_place}
use Rattle.th_model.proofs.BroadcastProperness.{cond_case}
use Rattle.th_model.proofs.BroadcastProperness as proper
use Rattle.th_log.specs.Calls.{broadcast_asked, broadcast_by_receiver, broadcast_by_sender, broadcast_waits, watch_asked, watch_by_receiver, watch_by_sender, watch_waits}
use Rattle.th_registry.specs.declared.channel.Channel.TheVariants.{Broadcast, Watch}
use Rattle.th_registry.specs.declared.outcome.NoEvent.{NoEvent}
use Rattle.th_registry.specs.declared.outcome.NoEvent.TheVariants as NoEvents
use Rattle.th_registry.specs.Calls.{Bytes, tx, rx}
use Rattle.th_registry.specs.Events.{Event, Binds, Subscribes, Sends, Asks, Receives, Resubscribes, DropsTx, DropsRx, Hub, Own, sender_of, is_hub, EventResult, broadcast_made_rx, broadcast_made_tx, broadcast_outcome, watch_made_rx, watch_made_tx, watch_outcome, ChannelReply, ended_or, is_broadcast_done, is_watch_done}
use Rattle.th_registry.specs.History.{recorded}
use Rattle.th_registry.specs.Hub.{came, if_live, broadcast_replies, broadcast_event, moved, watch_replies, watch_event, channel_event, cut_channel}
use Rattle.th_registry.specs.Endless.{EndlessBroadcast, EndlessChannel, EndlessWatch, endless_broadcast, endless_watch, watch_step, IsProperChannel}
use Rattle.th_registry.specs.Live.{Handle, Sender, Receiver, is_live, new_handle, Ends}
use Rattle.th_registry.proofs.LiveNumbers.{Numbers, Follows, lives, stands, joins, then_goes, as_said}
use Rattle.th_registry.proofs.LiveBroadcast as b
use Rattle.th_registry.proofs.LiveWatch as w

-- what a call of the tables is made by, and that it spends nothing

abbrev pub IsCallBy : Option (BCall Bytes) → Handle → Type 0
IsCallBy None x = Unit {0}
IsCallBy (Some call) x = (b.speaker call ≡ x) × ((y : Handle) → b.Spends call y → ⊥)

abbrev pub IsWatchCallBy : Option (WCall Bytes) → Handle → Type 0
IsWatchCallBy None x = Unit {0}
IsWatchCallBy (Some call) x = (w.speaker call ≡ x) × ((y : Handle) → w.Spends call y → ⊥)

pub sent-by : (verb : SenderVerb Bytes) (t : TxId) → IsCallBy (broadcast_by_sender verb t) (Sender t)
sent-by verb t = elim verb as (λ verb. IsCallBy (broadcast_by_sender verb t) (Sender t)) [
  | SenderVerbs.Send v ↦ (refl, λ y h. h)
  | _ ↦ tt
]

pub watch-sent-by : (verb : SenderVerb Bytes) (t : TxId) → IsWatchCallBy (watch_by_sender verb t) (Sender t)
watch-sent-by verb t = elim verb as (λ verb. IsWatchCallBy (watch_by_sender verb t) (Sender t)) [
  | SenderVerbs.Send v ↦ (refl, λ y h. h)
  | _ ↦ (refl, λ y h. h)
]

pub asked-by : (question : Question) (t : TxId) → IsCallBy (broadcast_asked question t) (Sender t)
asked-by Questions.Queued t = (refl, λ y h. h)
asked-by Questions.Readers t = (refl, λ y h. h)

pub watch-asked-by : (question : Question) (t : TxId) → IsWatchCallBy (watch_asked question t) (Sender t)
watch-asked-by Questions.Queued t = tt
watch-asked-by Questions.Readers t = (refl, λ y h. h)

pub received-by : (verb : ReceiverVerb) (r : RxId) → IsCallBy (broadcast_by_receiver verb r) (Receiver r)
received-by verb r = elim verb as (λ verb. IsCallBy (broadcast_by_receiver verb r) (Receiver r)) [
  | ReceiverVerbs.TryRecv ↦ (refl, λ y h. h)
  | ReceiverVerbs.Recv ↦ (refl, λ y h. h)
  | ReceiverVerbs.Left ↦ (refl, λ y h. h)
  | _ ↦ tt
]

pub watch-received-by : (verb : ReceiverVerb) (r : RxId) → IsWatchCallBy (watch_by_receiver verb r) (Receiver r)
watch-received-by verb r = elim verb as (λ verb. IsWatchCallBy (watch_by_receiver verb r) (Receiver r))
    [ ReceiverVerbs.TryRecv ↦ tt | ReceiverVerbs.Recv ↦ tt | ReceiverVerbs.Left ↦ tt | _ ↦ (refl, λ y h. h) ]

-- the handle that was made, as it is told

made-tx : (reply : BReply Bytes) (x : Handle) → new_handle (Ok (broadcast_made_tx reply)) ≡ Some x → b.made_by reply ≡ Some x
made-tx reply x = elim reply as (λ reply. new_handle (Ok (broadcast_made_tx reply)) ≡ Some x → b.made_by reply ≡ Some x)
    [ BReplies.NewTx t ↦ λ e. e | _ ↦ λ e. absurd (none-some x e) ]

made-rx : (reply : BReply Bytes) (x : Handle) → new_handle (Ok (broadcast_made_rx reply)) ≡ Some x → b.made_by reply ≡ Some x
made-rx reply x = elim reply as (λ reply. new_handle (Ok (broadcast_made_rx reply)) ≡ Some x → b.made_by reply ≡ Some x)
    [ BReplies.NewRx r ↦ λ e. e | _ ↦ λ e. absurd (none-some x e) ]

watch-made-tx : (reply : WReply Bytes) (x : Handle) → new_handle (Ok (watch_made_tx reply)) ≡ Some x → w.made_by reply ≡ Some x
watch-made-tx reply x = elim reply as (λ reply. new_handle (Ok (watch_made_tx reply)) ≡ Some x → w.made_by reply ≡ Some x)
    [ WReplies.NewTx t ↦ λ e. e | _ ↦ λ e. absurd (none-some x e) ]

watch-made-rx : (reply : WReply Bytes) (x : Handle) → new_handle (Ok (watch_made_rx reply)) ≡ Some x → w.made_by reply ≡ Some x
watch-made-rx reply x = elim reply as (λ reply. new_handle (Ok (watch_made_rx reply)) ≡ Some x → w.made_by reply ≡ Some x)
    [ WReplies.NewRx r ↦ λ e. e | _ ↦ λ e. absurd (none-some x e) ]

ended-none : (done : Bool) (reply : ChannelReply) (x : Handle) → new_handle (Ok (ended_or done reply)) ≡ Some x → ⊥
ended-none true reply x e = none-some x e
ended-none false reply x e = none-some x e

made-outcome : (event : Event) (reply : BReply Bytes) (x : Handle) → new_handle (Ok (broadcast_outcome event reply)) ≡ Some x →
    b.made_by reply ≡ Some x
made-outcome Binds reply x e = made-tx reply x e
made-outcome (Subscribes start by) reply x e = made-rx reply x e
made-outcome (Resubscribes r) reply x e = made-rx reply x e
made-outcome (Sends t verb) reply x e = absurd (none-some x e)
made-outcome (Asks by question) reply x e = absurd (none-some x e)
made-outcome (Receives r verb) reply x e = absurd (none-some x e)
made-outcome (DropsTx by) reply x e = absurd (ended-none (is_broadcast_done reply) (Broadcast reply) x e)
made-outcome (DropsRx r) reply x e = absurd (ended-none (is_broadcast_done reply) (Broadcast reply) x e)

watch-made-outcome : (event : Event) (reply : WReply Bytes) (x : Handle) → new_handle (Ok (watch_outcome event reply)) ≡ Some x →
    w.made_by reply ≡ Some x
watch-made-outcome Binds reply x e = watch-made-tx reply x e
watch-made-outcome (Subscribes start by) reply x e = watch-made-rx reply x e
watch-made-outcome (Resubscribes r) reply x e = absurd (none-some x e)
watch-made-outcome (Sends t verb) reply x e = absurd (none-some x e)
watch-made-outcome (Asks by question) reply x e = absurd (none-some x e)
watch-made-outcome (Receives r verb) reply x e = absurd (none-some x e)
watch-made-outcome (DropsTx by) reply x e = absurd (ended-none (is_watch_done reply) (Watch reply) x e)
watch-made-outcome (DropsRx r) reply x e = absurd (ended-none (is_watch_done reply) (Watch reply) x e)

-- a resubscription, by what comes of its first call
abbrev pub moved_on : EndlessBroadcast → RxId → BReply Bytes × broadcast.Endless Bytes → Result (BReply Bytes) NoEvent × EndlessBroadcast
moved_on h r a = let mid = recorded h (BCalls.Resubscribe r) a in moved endless_broadcast r (Ok mid.0, mid.1)

-- an event of a broadcast channel
module _ (h : EndlessBroadcast) (s : broadcast.IsProper h.state) where
  abbrev told : Event → Result (BReply Bytes) NoEvent × EndlessBroadcast → EventResult
  told event a = came (broadcast_outcome event) a.0

  abbrev LeadsOn : Event → Result (BReply Bytes) NoEvent × EndlessBroadcast → Type 0
  LeadsOn event a = Follows (b.numbers h.state) (Ends event (told event a)) (new_handle (told event a)) (b.numbers a.1.state)

  -- where there is none, nothing has changed
  none : (event : Event) (why : NoEvent) → LeadsOn event (Err why, h)
  none event why = stands (b.numbers h.state) (Ends event (Err why))

  -- by a call that spends no more than the event ends
  leads-on : (event : Event) (by_hub : Bool) (call : BCall Bytes) →
      ((x : Handle) → b.Spends call x → Ends event (Ok (broadcast_outcome event (broadcast.step h.state call).0)) x) →
      LeadsOn event (broadcast_replies endless_broadcast h by_hub (Some call))
  leads-on event by_hub call ends =
      let reply = (broadcast.step h.state call).0 in
      cond_case (LeadsOn event) (by_hub && not (is_sender h.state.senders 1)) _ _ (λ _. none event NoEvents.NoSender)
      (λ _. cond_case (LeadsOn event) (broadcast_waits call reply) _ _ (λ _. none event NoEvents.Blocked)
      (λ _. cond_case (LeadsOn event) (endless_broadcast.is_full h call) _ _ (λ _. none event NoEvents.LogFull)
      (λ _. as_said (b.call_follows h.state call (Ends event (Ok (broadcast_outcome event reply))) s ends) (λ x k. k)
      (made-outcome event reply))))

  -- by a call of the tables, which spends nothing
  by-table : (event : Event) (by_hub : Bool) (o : Option (BCall Bytes)) (x : Handle) → IsCallBy o x →
      LeadsOn event (broadcast_replies endless_broadcast h by_hub o)
  by-table event by_hub None x by = none event NoEvents.WrongKind
  by-table event by_hub (Some call) x by = leads-on event by_hub call (λ y k. absurd (by.1 y k))

  -- the end of a handle, where that is live
  spends : (event : Event) (live : Bool) (call : BCall Bytes) →
      ((x : Handle) → b.Spends call x → Ends event (Ok (broadcast_outcome event (broadcast.step h.state call).0)) x) →
      LeadsOn event (if_live live h (broadcast_replies endless_broadcast h false (Some call)))
  spends event live call ends = cond_case (LeadsOn event) live _ _ (λ _. leads-on event false call ends) (λ _. none event NoEvents.NotLive)

  -- a new receiver, and then the end of the old one
  joins-on : (r : RxId) (o : Option ℕ) → place_of h.state.index r.0 ≡ o →
      LeadsOn (Resubscribes r) (moved_on h r (broadcast.at_index h.state o (λ _. broadcast.subscribe h.state)))
  joins-on r None there = stands (b.numbers h.state) (λ x. ⊥)
  joins-on r (Some i) there =
      let tail = broadcast.tail_of h.state in
      let mid = broadcast.numbered (broadcast.with_index h.state (with_place h.state.index h.state.next tail)) in
      cond_case (λ (a : BReply Bytes × broadcast.Endless Bytes). LeadsOn (Resubscribes r) (moved_on h r a))
      (is_full (length h.state.index) h.state.next) (BReplies.TooMany, h.state) (BReplies.NewRx (rx h.state.next), mid)
      (λ _. stands (b.numbers h.state) (λ x. ⊥))
      (λ room.
      let new = joins (b.numbers h.state) (λ x. x ≡ Receiver r) s.handles tail in
      then_goes new
      (b.call_follows mid (BCalls.DropRx r) (λ x. x ≡ Receiver r) (proper.proper-joined h.state s tail (omega arith, omega arith) room)
      (λ x k. k))
      (λ x k. k)
      (λ x e k. false≢true (sym (ap (lives (b.numbers h.state)) (sym k) ∙ (new.fresh x e).1) ∙ ap is_some there)))

  moves-on : (r : RxId) → LeadsOn (Resubscribes r) (broadcast_event endless_broadcast h (Resubscribes r))
  moves-on r = cond_case (λ (a : Result (BReply Bytes) NoEvent × EndlessBroadcast). LeadsOn (Resubscribes r) (moved endless_broadcast r a))
      (endless_broadcast.is_full h (BCalls.Resubscribe r)) _ _
      (λ _. none (Resubscribes r) NoEvents.LogFull) (λ _. joins-on r (place_of h.state.index r.0) refl)

  pub event_follows : (event : Event) → LeadsOn event (broadcast_event endless_broadcast h event)
  event_follows Binds = leads-on Binds true (BCalls.CloneTx (tx 1)) (λ x k. absurd k)
  event_follows (Subscribes Starts.Tail by) = leads-on (Subscribes Starts.Tail by) (is_hub by) (BCalls.Subscribe (sender_of by))
      (λ x k. absurd k)
  event_follows (Subscribes Starts.Oldest by) = leads-on (Subscribes Starts.Oldest by) (is_hub by) (BCalls.SubscribeOldest (sender_of by))
      (λ x k. absurd k)
  event_follows (Sends t verb) = by-table (Sends t verb) false (broadcast_by_sender verb t) (Sender t) (sent-by verb t)
  event_follows (Asks by question) = by-table (Asks by question) (is_hub by) (broadcast_asked question (sender_of by))
      (Sender (sender_of by)) (asked-by question (sender_of by))
  event_follows (Receives r verb) = by-table (Receives r verb) false (broadcast_by_receiver verb r) (Receiver r) (received-by verb r)
  event_follows (Resubscribes r) = moves-on r
  event_follows (DropsTx Hub) = leads-on (DropsTx Hub) true (BCalls.DropTx (tx 1)) (λ x k. k)
  event_follows (DropsTx (Own t)) = spends (DropsTx (Own t)) (endless_broadcast.has_sender h t) (BCalls.DropTx t) (λ x k. k)
  event_follows (DropsRx r) = spends (DropsRx r) (endless_broadcast.has_receiver h r) (BCalls.DropRx r) (λ x k. k)

-- and one of a watch channel
module _ (h : EndlessWatch) (s : watch.IsProper h.state) where
  abbrev watch_told : Event → Result (WReply Bytes) NoEvent × EndlessWatch → EventResult
  watch_told event a = came (watch_outcome event) a.0

  abbrev WatchLeadsOn : Event → Result (WReply Bytes) NoEvent × EndlessWatch → Type 0
  WatchLeadsOn event a = Follows (w.numbers h.state) (Ends event (watch_told event a)) (new_handle (watch_told event a))
      (w.numbers a.1.state)

  watch-none : (event : Event) (why : NoEvent) → WatchLeadsOn event (Err why, h)
  watch-none event why = stands (w.numbers h.state) (Ends event (Err why))

  watch-leads-on : (event : Event) (by_hub : Bool) (call : WCall Bytes) →
      ((x : Handle) → w.Spends call x → Ends event (Ok (watch_outcome event (watch_step h.state call).0)) x) →
      WatchLeadsOn event (watch_replies endless_watch h by_hub (Some call))
  watch-leads-on event by_hub call ends =
      let reply = (watch_step h.state call).0 in
      cond_case (WatchLeadsOn event) (by_hub && not (is_sender h.state.senders 1)) _ _ (λ _. watch-none event NoEvents.NoSender)
      (λ _. cond_case (WatchLeadsOn event) (watch_waits call reply) _ _ (λ _. watch-none event NoEvents.Blocked)
      (λ _. cond_case (WatchLeadsOn event) (endless_watch.is_full h call) _ _ (λ _. watch-none event NoEvents.LogFull)
      (λ _. as_said (w.call_follows (pointwise nat_eq) h.state (Ends event (Ok (watch_outcome event reply))) s call ends) (λ x k. k)
      (watch-made-outcome event reply))))

  watch-by-table : (event : Event) (by_hub : Bool) (o : Option (WCall Bytes)) (x : Handle) → IsWatchCallBy o x →
      WatchLeadsOn event (watch_replies endless_watch h by_hub o)
  watch-by-table event by_hub None x by = watch-none event NoEvents.WrongKind
  watch-by-table event by_hub (Some call) x by = watch-leads-on event by_hub call (λ y k. absurd (by.1 y k))

  watch-spends : (event : Event) (live : Bool) (call : WCall Bytes) →
      ((x : Handle) → w.Spends call x → Ends event (Ok (watch_outcome event (watch_step h.state call).0)) x) →
      WatchLeadsOn event (if_live live h (watch_replies endless_watch h false (Some call)))
  watch-spends event live call ends = cond_case (WatchLeadsOn event) live _ _ (λ _. watch-leads-on event false call ends)
      (λ _. watch-none event NoEvents.NotLive)

  pub watch_event_follows : (event : Event) → WatchLeadsOn event (watch_event endless_watch h event)
  watch_event_follows Binds = watch-leads-on Binds true (WCalls.CloneTx (tx 1)) (λ x k. absurd k)
  watch_event_follows (Subscribes Starts.Tail by) = watch-leads-on (Subscribes Starts.Tail by) (is_hub by) (WCalls.Subscribe (sender_of by))
      (λ x k. absurd k)
  watch_event_follows (Subscribes Starts.Oldest by) = watch-none (Subscribes Starts.Oldest by) NoEvents.WrongKind
  watch_event_follows (Sends t verb) = watch-by-table (Sends t verb) false (watch_by_sender verb t) (Sender t) (watch-sent-by verb t)
  watch_event_follows (Asks by question) = watch-by-table (Asks by question) (is_hub by) (watch_asked question (sender_of by))
      (Sender (sender_of by)) (watch-asked-by question (sender_of by))
  watch_event_follows (Receives r verb) = watch-by-table (Receives r verb) false (watch_by_receiver verb r) (Receiver r)
      (watch-received-by verb r)
  watch_event_follows (Resubscribes r) = watch-none (Resubscribes r) NoEvents.WrongKind
  watch_event_follows (DropsTx Hub) = watch-leads-on (DropsTx Hub) true (WCalls.DropTx (tx 1)) (λ x k. k)
  watch_event_follows (DropsTx (Own t)) = watch-spends (DropsTx (Own t)) (endless_watch.has_sender h t) (WCalls.DropTx t) (λ x k. k)
  watch_event_follows (DropsRx r) = watch-spends (DropsRx r) (endless_watch.has_receiver h r) (WCalls.DropRx r) (λ x k. k)

-- an event of a channel of either kind, and the cutting of its segment
abbrev pub numbers : EndlessChannel → Numbers
numbers (Broadcast h) = b.numbers h.state
numbers (Watch h) = w.numbers h.state

pub lives-is_live : (c : EndlessChannel) (x : Handle) → lives (numbers c) x ≡ is_live c x
lives-is_live (Broadcast h) (Sender t) = refl
lives-is_live (Broadcast h) (Receiver r) = refl
lives-is_live (Watch h) (Sender t) = refl
lives-is_live (Watch h) (Receiver r) = refl

pub channel_follows : (c : EndlessChannel) (event : Event) → IsProperChannel c →
    let s = channel_event endless_broadcast endless_watch c event in Follows (numbers c) (Ends event s.0) (new_handle s.0) (numbers s.1)
channel_follows (Broadcast h) event s = event_follows h s event
channel_follows (Watch h) event s = watch_event_follows h s event

pub cut_stands : (c : EndlessChannel) → numbers (cut_channel endless_broadcast endless_watch c).1 ≡ numbers c
cut_stands (Broadcast h) = refl
cut_stands (Watch h) = refl

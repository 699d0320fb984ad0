-- An event by live handles is not answered that there is no such handle, nor that the handle is not live.
use Rattle.std.proofs.Common.{◌≡◌, ℕ, Bool, true, false, length, Option, Some, None, is_some, slice_get, Result, Ok, refl, sym, ap, ◌∙◌}
use Rattle.std.specs.Map.{values_of}
use Rattle.std.specs.Prelude.{List, nat_eq, not, ◌&&◌}
use Rattle.std.proofs.Math.Bool.{not-not}
use Rattle.std.specs.Cmp.Lexicographic.{pointwise}
use Rattle.std.proofs.lemmas.Bool.{false≢true}
use Rattle.th_model.specs.declared.handles.RxId.{RxId}
use Rattle.th_model.specs.declared.broadcast.BCall.{BCall}
use Rattle.th_model.specs.declared.broadcast.BCall.TheVariants as BCalls
use Rattle.th_model.specs.declared.broadcast.BReply.{BReply}
use Rattle.th_model.specs.declared.broadcast.BReply.TheVariants as BReplies
use Rattle.th_model.specs.declared.watch.WCall.{WCall}
use Rattle.th_model.specs.declared.watch.WCall.TheVariants as WCalls
use Rattle.th_model.specs.declared.watch.WReply.{WReply}
use Rattle.th_model.specs.declared.watch.WReply.TheVariants as WReplies
use Rattle.th_model.specs.declared.verb.Start.TheVariants as Starts
use Rattle.th_model.specs.BroadcastMachine as broadcast
use Rattle.th_model.specs.Handles.{is_full, is_sender}
use Rattle.th_model.specs.Places.{place_of, with_place}
use Rattle.th_model.proofs.BroadcastProperness.{cond_case}
use Rattle.th_log.specs.Calls.{broadcast_asked, broadcast_by_receiver, broadcast_by_sender, broadcast_waits, watch_asked, watch_by_receiver, watch_by_sender, watch_waits}
use Rattle.th_log.specs.Replies.{broadcast_made_rx, broadcast_made_tx, watch_made_rx, watch_made_tx}
use Rattle.th_registry.specs.declared.channel.Channel.TheVariants.{Broadcast, Watch}
use Rattle.th_registry.specs.declared.outcome.NoEvent.{NoEvent}
use Rattle.th_registry.specs.Calls.{Bytes, tx, rx}
use Rattle.th_registry.specs.Events.{Event, Binds, Subscribes, Sends, Asks, Receives, Resubscribes, DropsTx, DropsRx, Hub, Own, Replied, broadcast_outcome, watch_outcome, ChannelReply, NewRx, NewTx, Outcome, ended_or, is_broadcast_done, is_watch_done, made_or}
use Rattle.th_registry.specs.Hub.{came, if_live, on_channel, broadcast_replies, broadcast_event, moved, watch_replies, watch_event, channel_event}
use Rattle.th_registry.specs.Endless.{EndlessBroadcast, EndlessChannel, EndlessTopics, EndlessWatch, endless_broadcast, endless_watch, watch_step}
use Rattle.th_registry.specs.Live.{Handle, Sender, Receiver, is_live, is_live_on, AskedBy, lacks_handle}
use Rattle.th_registry.specs.Laws.{LiveHandlesAreServed}
use Rattle.th_registry.proofs.LiveNumbers.{lives}
use Rattle.th_registry.proofs.LiveBroadcast as b
use Rattle.th_registry.proofs.LiveWatch as w
use Rattle.th_registry.proofs.LiveChannel.{IsCallBy, IsWatchCallBy, sent-by, watch-sent-by, asked-by, watch-asked-by, received-by, watch-received-by, moved_on, lives-is_live}
use Rattle.th_registry.proofs.LiveTopics.{step, hubs_sender}

-- what comes of a reply

plain-known : (reply : BReply Bytes) → b.no_handle reply ≡ false → lacks_handle (Ok (Replied (Broadcast reply))) ≡ false
plain-known reply = elim reply as (λ reply. b.no_handle reply ≡ false → lacks_handle (Ok (Replied (Broadcast reply))) ≡ false)
    [ BReplies.NoHandle v ↦ λ h. h | _ ↦ λ h. refl ]

watch-plain-known : (reply : WReply Bytes) → w.no_handle reply ≡ false → lacks_handle (Ok (Replied (Watch reply))) ≡ false
watch-plain-known reply = elim reply as (λ reply. w.no_handle reply ≡ false → lacks_handle (Ok (Replied (Watch reply))) ≡ false)
    [ WReplies.NoHandle v ↦ λ h. h | _ ↦ λ h. refl ]

made-known : {H : Type 0} (number : H → Outcome) (reply : ChannelReply) (made : Option H) →
    ((x : H) → lacks_handle (Ok (number x)) ≡ false) →
    lacks_handle (Ok (Replied reply)) ≡ false → lacks_handle (Ok (made_or number reply made)) ≡ false
made-known number reply (Some x) new plain = new x
made-known number reply None new plain = plain

ended-known : (done : Bool) (reply : ChannelReply) → lacks_handle (Ok (Replied reply)) ≡ false →
    lacks_handle (Ok (ended_or done reply)) ≡ false
ended-known true reply plain = refl
ended-known false reply plain = plain

outcome-known : (event : Event) (reply : BReply Bytes) → b.no_handle reply ≡ false →
    lacks_handle (Ok (broadcast_outcome event reply)) ≡ false
outcome-known Binds reply h = made-known (λ t. NewTx t) (Broadcast reply) (broadcast_made_tx reply) (λ t. refl) (plain-known reply h)
outcome-known (Subscribes start by) reply h = made-known (λ r. NewRx r) (Broadcast reply) (broadcast_made_rx reply) (λ r. refl)
    (plain-known reply h)
outcome-known (Resubscribes r) reply h = made-known (λ r. NewRx r) (Broadcast reply) (broadcast_made_rx reply) (λ r. refl)
    (plain-known reply h)
outcome-known (Sends t verb) reply h = plain-known reply h
outcome-known (Asks by question) reply h = plain-known reply h
outcome-known (Receives r verb) reply h = plain-known reply h
outcome-known (DropsTx by) reply h = ended-known (is_broadcast_done reply) (Broadcast reply) (plain-known reply h)
outcome-known (DropsRx r) reply h = ended-known (is_broadcast_done reply) (Broadcast reply) (plain-known reply h)

watch-outcome-known : (event : Event) (reply : WReply Bytes) → w.no_handle reply ≡ false →
    lacks_handle (Ok (watch_outcome event reply)) ≡ false
watch-outcome-known Binds reply h = made-known (λ t. NewTx t) (Watch reply) (watch_made_tx reply) (λ t. refl) (watch-plain-known reply h)
watch-outcome-known (Subscribes start by) reply h = made-known (λ r. NewRx r) (Watch reply) (watch_made_rx reply) (λ r. refl)
    (watch-plain-known reply h)
watch-outcome-known (Resubscribes r) reply h = watch-plain-known reply h
watch-outcome-known (Sends t verb) reply h = watch-plain-known reply h
watch-outcome-known (Asks by question) reply h = watch-plain-known reply h
watch-outcome-known (Receives r verb) reply h = watch-plain-known reply h
watch-outcome-known (DropsTx by) reply h = ended-known (is_watch_done reply) (Watch reply) (watch-plain-known reply h)
watch-outcome-known (DropsRx r) reply h = ended-known (is_watch_done reply) (Watch reply) (watch-plain-known reply h)

-- an event that goes through the hub's own sender is none where that is not live
hub-lives : (senders : List ℕ) → not (is_sender senders 1) ≡ false → is_sender senders 1 ≡ true
hub-lives senders e = sym (not-not (is_sender senders 1)) ∙ ap not e

-- an event of a broadcast channel
module _ (h : EndlessBroadcast) where
  abbrev IsServed : Event → Result (BReply Bytes) NoEvent × EndlessBroadcast → Type 0
  IsServed event a = lacks_handle (came (broadcast_outcome event) a.0) ≡ false

  -- by a handle that is live, unless there is no sender to go through
  abbrev IsServing : (by_hub : Bool) → Handle → Type 0
  IsServing by_hub x = (by_hub && not (is_sender h.state.senders 1)) ≡ false → lives (b.numbers h.state) x ≡ true

  known : (event : Event) (by_hub : Bool) (call : BCall Bytes) → IsServing by_hub (b.speaker call) →
      IsServed event (broadcast_replies endless_broadcast h by_hub (Some call))
  known event by_hub call live =
      let reply = (broadcast.step h.state call).0 in
      cond_case (IsServed event) (by_hub && not (is_sender h.state.senders 1)) _ _ (λ _. refl)
      (λ there. cond_case (IsServed event) (broadcast_waits call reply) _ _ (λ _. refl)
      (λ _. cond_case (IsServed event) (endless_broadcast.is_full h call) _ _ (λ _. refl)
      (λ _. outcome-known event reply (b.call_known h.state call (live there)))))

  by-table : (event : Event) (by_hub : Bool) (o : Option (BCall Bytes)) (x : Handle) → IsCallBy o x → IsServing by_hub x →
      IsServed event (broadcast_replies endless_broadcast h by_hub o)
  by-table event by_hub None x by live = refl
  by-table event by_hub (Some call) x by live = known event by_hub call (λ there. ap (lives (b.numbers h.state)) by.0 ∙ live there)

  -- the end of a live handle
  spent-known : (event : Event) (live : Bool) (call : BCall Bytes) → live ≡ true → lives (b.numbers h.state) (b.speaker call) ≡ true →
      IsServed event (if_live live h (broadcast_replies endless_broadcast h false (Some call)))
  spent-known event live call there speaks = cond_case (IsServed event) live _ _ (λ _. known event false call (λ _. speaks))
      (λ no. absurd (false≢true (sym no ∙ there)))

  joined-known : (r : RxId) (o : Option ℕ) → is_some o ≡ true →
      IsServed (Resubscribes r) (moved_on h r (broadcast.at_index h.state o (λ _. broadcast.subscribe h.state)))
  joined-known r None lacks = absurd (false≢true lacks)
  joined-known r (Some i) there = cond_case (λ (a : BReply Bytes × broadcast.Endless Bytes). IsServed (Resubscribes r) (moved_on h r a))
      (is_full (length h.state.index) h.state.next) (BReplies.TooMany, h.state) (
        BReplies.NewRx (rx h.state.next),
        broadcast.numbered (broadcast.with_index h.state
            (with_place h.state.index h.state.next (broadcast.tail_of h.state))),
      ) (λ _. refl) (λ _. refl)

  moved-known : (r : RxId) → lives (b.numbers h.state) (Receiver r) ≡ true →
      IsServed (Resubscribes r) (broadcast_event endless_broadcast h (Resubscribes r))
  moved-known r live =
      cond_case (λ (a : Result (BReply Bytes) NoEvent × EndlessBroadcast). IsServed (Resubscribes r) (moved endless_broadcast r a))
      (endless_broadcast.is_full h (BCalls.Resubscribe r)) _ _ (λ _. refl) (λ _. joined-known r (place_of h.state.index r.0) live)

  event_known : (event : Event) → ((x : Handle) → AskedBy event x → lives (b.numbers h.state) x ≡ true) →
      IsServed event (broadcast_event endless_broadcast h event)
  event_known Binds live = known Binds true (BCalls.CloneTx (tx 1)) (hub-lives h.state.senders)
  event_known (Subscribes Starts.Tail Hub) live = known (Subscribes Starts.Tail Hub) true (BCalls.Subscribe (tx 1))
      (hub-lives h.state.senders)
  event_known (Subscribes Starts.Oldest Hub) live = known (Subscribes Starts.Oldest Hub) true (BCalls.SubscribeOldest (tx 1))
      (hub-lives h.state.senders)
  event_known (Subscribes Starts.Tail (Own t)) live = known (Subscribes Starts.Tail (Own t)) false (BCalls.Subscribe t)
      (λ _. live (Sender t) refl)
  event_known (Subscribes Starts.Oldest (Own t)) live = known (Subscribes Starts.Oldest (Own t)) false (BCalls.SubscribeOldest t)
      (λ _. live (Sender t) refl)
  event_known (Sends t verb) live = by-table (Sends t verb) false (broadcast_by_sender verb t) (Sender t) (sent-by verb t)
      (λ _. live (Sender t) refl)
  event_known (Asks Hub question) live = by-table (Asks Hub question) true (broadcast_asked question (tx 1)) hubs_sender
      (asked-by question (tx 1)) (hub-lives h.state.senders)
  event_known (Asks (Own t) question) live = by-table (Asks (Own t) question) false (broadcast_asked question t) (Sender t)
      (asked-by question t) (λ _. live (Sender t) refl)
  event_known (Receives r verb) live = by-table (Receives r verb) false (broadcast_by_receiver verb r) (Receiver r) (received-by verb r)
      (λ _. live (Receiver r) refl)
  event_known (Resubscribes r) live = moved-known r (live (Receiver r) refl)
  event_known (DropsTx Hub) live = known (DropsTx Hub) true (BCalls.DropTx (tx 1)) (hub-lives h.state.senders)
  event_known (DropsTx (Own t)) live = spent-known (DropsTx (Own t)) (endless_broadcast.has_sender h t) (BCalls.DropTx t)
      (live (Sender t) refl) (live (Sender t) refl)
  event_known (DropsRx r) live = spent-known (DropsRx r) (endless_broadcast.has_receiver h r) (BCalls.DropRx r) (live (Receiver r) refl)
      (live (Receiver r) refl)

-- and one of a watch channel
module _ (h : EndlessWatch) where
  abbrev IsWatchServed : Event → Result (WReply Bytes) NoEvent × EndlessWatch → Type 0
  IsWatchServed event a = lacks_handle (came (watch_outcome event) a.0) ≡ false

  abbrev IsWatchServing : (by_hub : Bool) → Handle → Type 0
  IsWatchServing by_hub x = (by_hub && not (is_sender h.state.senders 1)) ≡ false → lives (w.numbers h.state) x ≡ true

  watch-known : (event : Event) (by_hub : Bool) (call : WCall Bytes) → IsWatchServing by_hub (w.speaker call) →
      IsWatchServed event (watch_replies endless_watch h by_hub (Some call))
  watch-known event by_hub call live =
      let reply = (watch_step h.state call).0 in
      cond_case (IsWatchServed event) (by_hub && not (is_sender h.state.senders 1)) _ _ (λ _. refl)
      (λ there. cond_case (IsWatchServed event) (watch_waits call reply) _ _ (λ _. refl)
      (λ _. cond_case (IsWatchServed event) (endless_watch.is_full h call) _ _ (λ _. refl)
      (λ _. watch-outcome-known event reply (w.call_known (pointwise nat_eq) h.state call (live there)))))

  watch-by-table : (event : Event) (by_hub : Bool) (o : Option (WCall Bytes)) (x : Handle) → IsWatchCallBy o x → IsWatchServing by_hub x →
      IsWatchServed event (watch_replies endless_watch h by_hub o)
  watch-by-table event by_hub None x by live = refl
  watch-by-table event by_hub (Some call) x by live = watch-known event by_hub call
      (λ there. ap (lives (w.numbers h.state)) by.0 ∙ live there)

  watch-spent-known : (event : Event) (live : Bool) (call : WCall Bytes) → live ≡ true → lives (w.numbers h.state) (w.speaker call) ≡ true →
      IsWatchServed event (if_live live h (watch_replies endless_watch h false (Some call)))
  watch-spent-known event live call there speaks = cond_case (IsWatchServed event) live _ _
      (λ _. watch-known event false call (λ _. speaks)) (λ no. absurd (false≢true (sym no ∙ there)))

  watch_event_known : (event : Event) → ((x : Handle) → AskedBy event x → lives (w.numbers h.state) x ≡ true) →
      IsWatchServed event (watch_event endless_watch h event)
  watch_event_known Binds live = watch-known Binds true (WCalls.CloneTx (tx 1)) (hub-lives h.state.senders)
  watch_event_known (Subscribes Starts.Tail Hub) live = watch-known (Subscribes Starts.Tail Hub) true (WCalls.Subscribe (tx 1))
      (hub-lives h.state.senders)
  watch_event_known (Subscribes Starts.Tail (Own t)) live = watch-known (Subscribes Starts.Tail (Own t)) false (WCalls.Subscribe t)
      (λ _. live (Sender t) refl)
  watch_event_known (Subscribes Starts.Oldest by) live = refl
  watch_event_known (Sends t verb) live = watch-by-table (Sends t verb) false (watch_by_sender verb t) (Sender t) (watch-sent-by verb t)
      (λ _. live (Sender t) refl)
  watch_event_known (Asks Hub question) live = watch-by-table (Asks Hub question) true (watch_asked question (tx 1)) hubs_sender
      (watch-asked-by question (tx 1)) (hub-lives h.state.senders)
  watch_event_known (Asks (Own t) question) live = watch-by-table (Asks (Own t) question) false (watch_asked question t) (Sender t)
      (watch-asked-by question t) (λ _. live (Sender t) refl)
  watch_event_known (Receives r verb) live = watch-by-table (Receives r verb) false (watch_by_receiver verb r) (Receiver r)
      (watch-received-by verb r) (λ _. live (Receiver r) refl)
  watch_event_known (Resubscribes r) live = refl
  watch_event_known (DropsTx Hub) live = watch-known (DropsTx Hub) true (WCalls.DropTx (tx 1)) (hub-lives h.state.senders)
  watch_event_known (DropsTx (Own t)) live = watch-spent-known (DropsTx (Own t)) (endless_watch.has_sender h t) (WCalls.DropTx t)
      (live (Sender t) refl) (live (Sender t) refl)
  watch_event_known (DropsRx r) live = watch-spent-known (DropsRx r) (endless_watch.has_receiver h r) (WCalls.DropRx r)
      (live (Receiver r) refl) (live (Receiver r) refl)

channel_known : (c : EndlessChannel) (event : Event) → ((x : Handle) → AskedBy event x → is_live c x ≡ true) →
    lacks_handle (channel_event endless_broadcast endless_watch c event).0 ≡ false
channel_known (Broadcast h) event live = event_known h event (λ x k. lives-is_live (Broadcast h) x ∙ live x k)
channel_known (Watch h) event live = watch_event_known h event (λ x k. lives-is_live (Watch h) x ∙ live x k)

on-known : (ts : EndlessTopics) (n : ℕ) (event : Event) (o : Option EndlessChannel) →
    ((x : Handle) → AskedBy event x → is_live_on o x ≡ true) →
    lacks_handle (on_channel ts n (step event) o).0 ≡ false
on-known ts n event None live = refl
on-known ts n event (Some c) live = channel_known c event live

pub live_handles_are_served : LiveHandlesAreServed
live_handles_are_served limit ts n event live = on-known ts n event (slice_get (values_of ts) n) live

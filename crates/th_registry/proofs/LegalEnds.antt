-- The end of a live handle is done: it never waits, and room is left for it.
use Rattle.std.proofs.Common.{◌≡◌, ℕ, Bool, true, false, Option, Some, None, is_some, slice_get, Result, Ok, refl, sym, ap, ◌∙◌}
use Rattle.std.specs.Prelude.{not, nat_eq}
use Rattle.std.specs.Cmp.Lexicographic.{pointwise}
use Rattle.std.specs.Map.{values_of}
use Rattle.std.proofs.lemmas.Bool.{false≢true}
use Rattle.th_model.specs.declared.handles.TxId.{TxId}
use Rattle.th_model.specs.declared.handles.RxId.{RxId}
use Rattle.th_model.specs.declared.broadcast.BCall.TheVariants as BCalls
use Rattle.th_model.specs.declared.broadcast.BReply.{BReply}
use Rattle.th_model.specs.declared.broadcast.BReply.TheVariants as BReplies
use Rattle.th_model.specs.declared.watch.WCall.TheVariants as WCalls
use Rattle.th_model.specs.declared.watch.WReply.{WReply}
use Rattle.th_model.specs.declared.watch.WReply.TheVariants as WReplies
use Rattle.th_model.specs.Handles.{is_sender}
use Rattle.th_model.specs.Live.{live_handles, live_watchers}
use Rattle.th_model.specs.Places.{place_of}
use Rattle.th_model.specs.BroadcastMachine as broadcast
use Rattle.th_model.specs.BroadcastPicture as broadcast_picture
use Rattle.th_model.specs.WatchMachine.{reader_of}
use Rattle.th_model.specs.WatchPicture as watch_picture
use Rattle.th_log.specs.Machines as machines
use Rattle.th_log.specs.Calls.{broadcast_waits, watch_waits}
use Rattle.th_registry.specs.declared.channel.Channel.TheVariants.{Broadcast, Watch}
use Rattle.th_registry.specs.declared.outcome.NoEvent.{NoEvent}
use Rattle.th_registry.specs.Calls.{tx, Bytes}
use Rattle.th_registry.specs.Events.{By, Event, Binds, Subscribes, Sends, Asks, Receives, Resubscribes, DropsTx, DropsRx, Hub, Own, sender_of, broadcast_outcome, watch_outcome}
use Rattle.th_registry.specs.Hub.{ChannelMachine, replies, if_live, came, on_channel, broadcast_event, watch_event}
use Rattle.th_registry.specs.Endless.{EndlessBroadcast, EndlessChannel, EndlessTopics, EndlessWatch, endless_broadcast, endless_watch, watch_step}
use Rattle.th_registry.specs.Live.{Handle, Sender, Receiver, is_live, is_live_on}
use Rattle.th_registry.specs.Legal.{IsKeptChannel, AreKept, IsEndOf, is_done, LiveHandlesEnd}
use Rattle.th_registry.proofs.LegalHistory.{room-to-spend}
use Rattle.th_registry.proofs.LegalChannel.{IsKeptBroadcast, IsKeptWatch, broadcast-dropped, broadcast-left, watch-dropped, watch-left}
use Rattle.th_registry.proofs.LiveTopics.{step, at-topic}

-- a call that nothing refuses is answered
answered : {C K R P : Type 0} (m : ChannelMachine C K R P) (waits : K → R → Bool) (c : C) (no_sender : Bool) (call : K) (reply : R) →
    no_sender ≡ false →
    waits call (m.step c call).0 ≡ false → m.is_full c call ≡ false → (m.step c call).0 ≡ reply →
    (replies m waits no_sender c (Some call)).0 ≡ Ok reply
answered m waits c no_sender call reply sender goes room is = rw (sender, goes, room) (ap Ok is)

said-live : {C R : Type 0} (live : Bool) (c : C) (s : Result R NoEvent × C) (said : Result R NoEvent) → live ≡ true → s.0 ≡ said →
    (if_live live c s).0 ≡ said
said-live live c s said is same = rw is same

is_some-some : {X : Type 0} (o : Option X) → is_some o ≡ true → (x : X) × (o ≡ Some x)
is_some-some None h = absurd (false≢true h)
is_some-some (Some x) h = (x, refl)

-- a broadcast channel
module _ (limit : ℕ) (h : EndlessBroadcast) (k : IsKeptBroadcast limit h) where
  sender-done : (t : TxId) (no_sender : Bool) → is_sender h.state.senders t.0 ≡ true → no_sender ≡ false →
      (replies endless_broadcast broadcast_waits no_sender h (Some (BCalls.DropTx t))).0 ≡ Ok BReplies.Done
  sender-done t no_sender live sender =
      let fewer = broadcast-dropped h.state t live in
      answered endless_broadcast broadcast_waits h no_sender (BCalls.DropTx t) BReplies.Done sender refl
      (room-to-spend machines.broadcast broadcast_picture.IsSound limit h k
      (live_handles (broadcast_picture.see (broadcast.step h.state (BCalls.DropTx t)).1)) fewer)
      (rw live refl)

  receiver-done : (r : RxId) (i : ℕ) → place_of h.state.index r.0 ≡ Some i →
      (replies endless_broadcast broadcast_waits false h (Some (BCalls.DropRx r))).0 ≡ Ok BReplies.Done
  receiver-done r i there =
      let fewer = broadcast-left h.state r i there in
      answered endless_broadcast broadcast_waits h false (BCalls.DropRx r) BReplies.Done refl refl
      (room-to-spend machines.broadcast broadcast_picture.IsSound limit h k
      (live_handles (broadcast_picture.see (broadcast.step h.state (BCalls.DropRx r)).1)) fewer)
      (rw there refl)

  sender-ends : (by : By) → is_sender h.state.senders (sender_of by).0 ≡ true →
      (broadcast_event endless_broadcast h (DropsTx by)).0 ≡ Ok BReplies.Done
  sender-ends Hub live = sender-done (tx 1) (not (is_sender h.state.senders 1)) live (ap not live)
  sender-ends (Own t) live = said-live (is_sender h.state.senders t.0) h _ _ live (sender-done t false live refl)

  receiver-ends : (r : RxId) → is_some (place_of h.state.index r.0) ≡ true →
      (broadcast_event endless_broadcast h (DropsRx r)).0 ≡ Ok BReplies.Done
  receiver-ends r live =
      let there = is_some-some (place_of h.state.index r.0) live in
      said-live (is_some (place_of h.state.index r.0)) h _ _ live (receiver-done r there.0 there.1)

-- and a watch channel
module _ (limit : ℕ) (h : EndlessWatch) (k : IsKeptWatch limit h) where
  watch-sender-done : (t : TxId) (no_sender : Bool) → is_sender h.state.senders t.0 ≡ true → no_sender ≡ false →
      (replies endless_watch watch_waits no_sender h (Some (WCalls.DropTx t))).0 ≡ Ok WReplies.Done
  watch-sender-done t no_sender live sender =
      let fewer = watch-dropped h.state t live in
      answered endless_watch watch_waits h no_sender (WCalls.DropTx t) WReplies.Done sender refl
      (room-to-spend (machines.watch (pointwise nat_eq)) watch_picture.IsSound limit h k
      (live_watchers (watch_picture.see (watch_step h.state (WCalls.DropTx t)).1)) fewer)
      (rw live refl)

  watch-receiver-done : (r : RxId) (m : ℕ) → reader_of h.state.marks r.0 ≡ Some m →
      (replies endless_watch watch_waits false h (Some (WCalls.DropRx r))).0 ≡ Ok WReplies.Done
  watch-receiver-done r m there =
      let fewer = watch-left h.state r m there in
      answered endless_watch watch_waits h false (WCalls.DropRx r) WReplies.Done refl refl
      (room-to-spend (machines.watch (pointwise nat_eq)) watch_picture.IsSound limit h k
      (live_watchers (watch_picture.see (watch_step h.state (WCalls.DropRx r)).1)) fewer)
      (rw there refl)

  watch-sender-ends : (by : By) → is_sender h.state.senders (sender_of by).0 ≡ true →
      (watch_event endless_watch h (DropsTx by)).0 ≡ Ok WReplies.Done
  watch-sender-ends Hub live = watch-sender-done (tx 1) (not (is_sender h.state.senders 1)) live (ap not live)
  watch-sender-ends (Own t) live = said-live (is_sender h.state.senders t.0) h _ _ live (watch-sender-done t false live refl)

  watch-receiver-ends : (r : RxId) → is_some (reader_of h.state.marks r.0) ≡ true →
      (watch_event endless_watch h (DropsRx r)).0 ≡ Ok WReplies.Done
  watch-receiver-ends r live =
      let there = is_some-some (reader_of h.state.marks r.0) live in
      said-live (is_some (reader_of h.state.marks r.0)) h _ _ live (watch-receiver-done r there.0 there.1)

-- a channel of either kind
module _ (limit : ℕ) where
  tx-ends : (c : EndlessChannel) → IsKeptChannel limit c → (by : By) → is_live c (Sender (sender_of by)) ≡ true →
      is_done (step (DropsTx by) c).0 ≡ true
  tx-ends (Broadcast h) k by live = ap (λ (s : Result (BReply Bytes) NoEvent). is_done (came (broadcast_outcome (DropsTx by)) s))
      (sender-ends limit h k by live)
  tx-ends (Watch h) k by live = ap (λ (s : Result (WReply Bytes) NoEvent). is_done (came (watch_outcome (DropsTx by)) s))
      (watch-sender-ends limit h k by live)

  rx-ends : (c : EndlessChannel) → IsKeptChannel limit c → (r : RxId) → is_live c (Receiver r) ≡ true →
      is_done (step (DropsRx r) c).0 ≡ true
  rx-ends (Broadcast h) k r live = ap (λ (s : Result (BReply Bytes) NoEvent). is_done (came (broadcast_outcome (DropsRx r)) s))
      (receiver-ends limit h k r live)
  rx-ends (Watch h) k r live = ap (λ (s : Result (WReply Bytes) NoEvent). is_done (came (watch_outcome (DropsRx r)) s))
      (watch-receiver-ends limit h k r live)

  ends : (c : EndlessChannel) → IsKeptChannel limit c → (event : Event) (x : Handle) → IsEndOf event x → is_live c x ≡ true →
      is_done (step event c).0 ≡ true
  ends c k (DropsTx by) x end live = tx-ends c k by (ap (is_live c) (sym end) ∙ live)
  ends c k (DropsRx r) x end live = rx-ends c k r (ap (is_live c) (sym end) ∙ live)
  ends c k Binds x end live = absurd end
  ends c k (Subscribes start by) x end live = absurd end
  ends c k (Sends t verb) x end live = absurd end
  ends c k (Asks by question) x end live = absurd end
  ends c k (Receives r verb) x end live = absurd end
  ends c k (Resubscribes r) x end live = absurd end

ends-on : (limit : ℕ) (ts : EndlessTopics) (n : ℕ) (event : Event) (x : Handle) (o : Option EndlessChannel) →
    slice_get (values_of ts) n ≡ o → AreKept limit ts →
    IsEndOf event x → is_live_on o x ≡ true → is_done (on_channel ts n (step event) o).0 ≡ true
ends-on limit ts n event x None at h end live = absurd (false≢true live)
ends-on limit ts n event x (Some c) at h end live = ends limit c (at-topic (IsKeptChannel limit) ts n c h at) event x end live

pub live_handles_end : LiveHandlesEnd
live_handles_end limit ts n event x h end live = ends-on limit ts n event x (slice_get (values_of ts) n) refl h end live

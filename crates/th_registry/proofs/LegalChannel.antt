-- A channel's history is kept by its opening, by each event, and by a cut; and a live handle of it can be ended.
use Rattle.std.proofs.Common.{◌≡◌, ℕ, ◌+◌, ◌^◌, ◌<◌, Bool, true, false, length, Option, Some, None, is_some, Result, refl, sym, ap, ◌∙◌, arith}
use Rattle.std.specs.Prelude.{nat_eq, not, ◌&&◌}
use Rattle.std.specs.Cmp.Lexicographic.{pointwise}
use Rattle.std.proofs.lemmas.Bool.{false≢true}
use Rattle.th_model.specs.declared.handles.TxId.{TxId}
use Rattle.th_model.specs.declared.handles.RxId.{RxId}
use Rattle.th_model.specs.declared.broadcast.BCall.{BCall}
use Rattle.th_model.specs.declared.broadcast.BCall.TheVariants as BCalls
use Rattle.th_model.specs.declared.broadcast.BReply.{BReply}
use Rattle.th_model.specs.declared.broadcast.BReply.TheVariants as BReplies
use Rattle.th_model.specs.declared.watch.WCall.{WCall}
use Rattle.th_model.specs.declared.watch.WCall.TheVariants as WCalls
use Rattle.th_model.specs.declared.watch.WReply.{WReply}
use Rattle.th_model.specs.declared.watch.WReply.TheVariants as WReplies
use Rattle.th_model.specs.Limits.{IsCapacity}
use Rattle.th_model.specs.Live.{live_handles, live_watchers}
use Rattle.th_model.specs.Handles.{is_sender, is_full}
use Rattle.th_model.specs.Places.{place_of, with_place}
use Rattle.th_model.specs.BroadcastMachine as broadcast
use Rattle.th_model.specs.BroadcastPicture as broadcast_picture
use Rattle.th_model.specs.WatchMachine as watch
use Rattle.th_model.specs.WatchMachine.{reader_of, without_reader}
use Rattle.th_model.specs.WatchPicture as watch_picture
use Rattle.th_model.proofs.BroadcastProperness.{cond_case}
use Rattle.th_model.proofs.BroadcastProperness as proper
use Rattle.th_model.proofs.BroadcastSoundness as sound
use Rattle.th_model.proofs.BroadcastSeen as seen
use Rattle.th_model.proofs.Readiness as ready
use Rattle.th_model.proofs.WatchProperness as watch_proper
use Rattle.th_model.proofs.WatchSeen as watch_seen
use Rattle.th_model.proofs.WatchReaders.{length-shown}
use Rattle.th_model.proofs.WatchReadiness as watch_ready
use Rattle.th_model.proofs.LiveCounts.{length-dropped, entry-left}
use Rattle.th_model.proofs.HandleLemmas.{next_is_free}
use Rattle.th_model.proofs.PlaceLemmas.{place-with_other}
use Rattle.std.proofs.lemmas.Option.{none-some}
use Rattle.th_log.specs.Machines as machines
use Rattle.th_log.specs.MachineLaws.{broadcast-whole, broadcast-step, broadcast-answer, watch-whole, watch-step, watch-answer}
use Rattle.th_log.specs.Calls.{broadcast_waits, watch_waits}
use Rattle.th_registry.specs.declared.channel.Channel.TheVariants.{Broadcast, Watch}
use Rattle.th_registry.specs.declared.outcome.NoEvent.{NoEvent}
use Rattle.th_registry.specs.Calls.{Bytes, rx}
use Rattle.th_registry.specs.Events.{Event, Binds, Subscribes, Sends, Asks, Receives, Resubscribes, DropsTx, DropsRx, Hub, Own, broadcast_call, is_hub, watch_call}
use Rattle.th_registry.specs.History.{opened, recorded}
use Rattle.th_registry.specs.Hub.{ChannelMachine, replies, if_live, broadcast_replies, broadcast_event, moved, watch_replies, watch_event, channel_event, cut_channel}
use Rattle.th_registry.specs.Endless.{EndlessBroadcast, EndlessChannel, EndlessWatch, endless_broadcast, endless_watch, watch_step, IsProperChannel}
use Rattle.th_registry.specs.Legal.{IsKept, IsKeptChannel}
use Rattle.th_registry.proofs.LegalHistory as legal
use Rattle.th_registry.proofs.LiveChannel.{moved_on}

-- the machines' laws

broadcast-laws : legal.Laws {C = BCall Bytes} {R = BReply Bytes} machines.broadcast broadcast.IsProper broadcast_picture.IsSound
broadcast-laws = record { whole = broadcast-whole; seen = sound.see_sound; stays = broadcast-step; answer = broadcast-answer }

watch-laws : legal.Laws {C = WCall Bytes} {R = WReply Bytes} (machines.watch (pointwise nat_eq)) watch.IsProper watch_picture.IsSound
watch-laws = record {
  whole = watch-whole;
  seen = watch_seen.see_sound;
  stays = watch-step (pointwise nat_eq);
  answer = watch-answer (pointwise nat_eq);
}

-- a call that is answered and does not wait was ready

broadcast-ready : (e : broadcast.Endless Bytes) (call : BCall Bytes) → broadcast.IsProper e →
    broadcast_waits call (broadcast.step e call).0 ≡ false →
    broadcast_picture.is_ready (broadcast_picture.see e) call ≡ true
broadcast-ready e call p goes = by (broadcast_picture.is_ready (broadcast_picture.see e) call) refl
  where
    by : (b : Bool) → broadcast_picture.is_ready (broadcast_picture.see e) call ≡ b →
        broadcast_picture.is_ready (broadcast_picture.see e) call ≡ true
    by true is = is
    by false is =
        let waits = (ready.readiness (broadcast_picture.see e) (sound.see_sound e p) call).0 is in
        let reply : (broadcast.step e call).0 ≡ BReplies.Empty =
        sym (ap (λ (a : BReply Bytes × broadcast_picture.Picture Bytes). a.0) (seen.answer_seen e call p)) ∙ waits.2 in
        absurd (false≢true (sym goes ∙ ap (broadcast_waits call) reply ∙ ap (λ c. broadcast_waits c BReplies.Empty) waits.1))

watch-ready : (e : watch.Endless Bytes) (call : WCall Bytes) → watch.IsProper e → watch_waits call (watch_step e call).0 ≡ false →
    watch_picture.is_ready (watch_picture.see e) call ≡ true
watch-ready e call p goes = by (watch_picture.is_ready (watch_picture.see e) call) refl
  where
    by : (b : Bool) → watch_picture.is_ready (watch_picture.see e) call ≡ b → watch_picture.is_ready (watch_picture.see e) call ≡ true
    by true is = is
    by false is =
        let waits = (watch_ready.readiness (pointwise nat_eq) (watch_picture.see e) call).0 is in
        let reply : (watch_step e call).0 ≡ WReplies.NotYet =
        sym (ap (λ (a : WReply Bytes × watch_picture.Picture Bytes). a.0) (watch_seen.answer_seen (pointwise nat_eq) e call p))
        ∙ waits.2 in
        absurd (false≢true (sym goes ∙ ap (watch_waits call) reply ∙ ap (λ c. watch_waits c WReplies.NotYet) waits.1))

-- the live handles of a new channel, and one less at the end of each

broadcast-one : (capacity base : ℕ) → live_handles {T = Bytes} (broadcast_picture.see (broadcast.opened capacity base)) ≡ 1
unfolding broadcast_picture.see broadcast.opened
broadcast-one capacity base = refl

watch-one : (value : Bytes) → live_watchers (watch_picture.see (watch.opened value 1)) ≡ 1
unfolding watch_picture.see watch.opened
watch-one value = refl

pub broadcast-dropped : (e : broadcast.Endless Bytes) (t : TxId) → is_sender e.senders t.0 ≡ true →
    live_handles (broadcast_picture.see (broadcast.step e (BCalls.DropTx t)).1) + 1 ≡ live_handles (broadcast_picture.see e)
unfolding broadcast_picture.see
broadcast-dropped e t live = rw live (omega (arith, length-dropped e.senders t.0 live))

pub broadcast-left : (e : broadcast.Endless Bytes) (r : RxId) (i : ℕ) → place_of e.index r.0 ≡ Some i →
    live_handles (broadcast_picture.see (broadcast.step e (BCalls.DropRx r)).1) + 1 ≡ live_handles (broadcast_picture.see e)
unfolding broadcast_picture.see
broadcast-left e r i there = rw there (omega (arith, entry-left e.index r.0 i there))

pub watch-dropped : (e : watch.Endless Bytes) (t : TxId) → is_sender e.senders t.0 ≡ true →
    live_watchers (watch_picture.see (watch_step e (WCalls.DropTx t)).1) + 1 ≡ live_watchers (watch_picture.see e)
unfolding watch_picture.see
watch-dropped e t live = rw live (omega (arith, length-dropped e.senders t.0 live))

pub watch-left : (e : watch.Endless Bytes) (r : RxId) (m : ℕ) → reader_of e.marks r.0 ≡ Some m →
    live_watchers (watch_picture.see (watch_step e (WCalls.DropRx r)).1) + 1 ≡ live_watchers (watch_picture.see e)
unfolding watch_picture.see
watch-left e r m there = rw there (omega (
  arith,
  entry-left e.marks r.0 m there,
  length-shown (watch.version_of e) e.marks,
  length-shown (watch.version_of
      e) (without_reader e.marks r.0),
))

-- a call is an entry where it does not wait and there is room for it, and else nothing has changed
module _ {C K R P : Type 0} (Q : C → Type 0) (m : ChannelMachine C K R P) (waits : K → R → Bool) (c : C) (before : Q c)
    (added : (call : K) → waits call (m.step c call).0 ≡ false → m.is_full c call ≡ false → Q (m.step c call).1) where
  abbrev Holds : Result R NoEvent × C → Type 0
  Holds s = Q s.1

  kept-replies : (no_sender : Bool) (call : Option K) → Holds (replies m waits no_sender c call)
  kept-replies no_sender None = before
  kept-replies no_sender (Some call) = cond_case Holds no_sender _ _ (λ _. before)
      (λ _. cond_case Holds (waits call (m.step c call).0) _ _ (λ _. before)
      (λ goes. cond_case Holds (m.is_full c call) _ _ (λ _. before) (λ room. added call goes room)))

  kept-if_live : (live no_sender : Bool) (call : Option K) → Holds (if_live live c (replies m waits no_sender c call))
  kept-if_live live no_sender call = cond_case Holds live _ _ (λ _. kept-replies no_sender call) (λ _. before)

module _ (limit : ℕ) where
  abbrev pub IsKeptBroadcast : EndlessBroadcast → Type 0
  IsKeptBroadcast h = IsKept machines.broadcast broadcast_picture.IsSound limit h

  abbrev pub IsKeptWatch : EndlessWatch → Type 0
  IsKeptWatch h = IsKept (machines.watch (pointwise nat_eq)) watch_picture.IsSound limit h

  -- openings

  pub kept-broadcast-opened : (capacity base key : ℕ) → IsCapacity capacity → base < 2 ^ 64 → 0 < limit →
      let e = broadcast.opened capacity base in IsKeptBroadcast (opened limit key e (broadcast_picture.see e))
  kept-broadcast-opened capacity base key c fits first =
      legal.kept-opened broadcast-laws limit key (broadcast.opened capacity base) (proper.opened_proper capacity base c fits)
      (broadcast-one capacity base) first

  pub kept-watch-opened : (value : Bytes) (key : ℕ) → 0 < limit →
      let e = watch.opened value 1 in IsKeptWatch (opened limit key e (watch_picture.see e))
  kept-watch-opened value key first =
      legal.kept-opened watch-laws limit key (watch.opened value 1) (watch_proper.opened_proper value 1 (omega arith) (omega arith))
      (watch-one value) first

  -- a broadcast channel
  module _ (h : EndlessBroadcast) (p : broadcast.IsProper h.state) (k : IsKeptBroadcast h) where
    broadcast-recorded : (call : BCall Bytes) → broadcast_waits call (broadcast.step h.state call).0 ≡ false →
        endless_broadcast.is_full h call ≡ false → IsKeptBroadcast (endless_broadcast.step h call).1
    broadcast-recorded call goes room = legal.kept-recorded broadcast-laws limit h p k call (broadcast-ready h.state call p goes) room

    broadcast-spent : (r : RxId) (i : ℕ) → place_of h.state.index r.0 ≡ Some i →
        IsKeptBroadcast (endless_broadcast.step h (BCalls.DropRx r)).1
    broadcast-spent r i there = legal.kept-spent broadcast-laws limit h p k (BCalls.DropRx r) refl (broadcast-left h.state r i there)

    kept-by-call : (by_hub : Bool) (call : Option (BCall Bytes)) → IsKeptBroadcast (broadcast_replies endless_broadcast h by_hub call).1
    kept-by-call by_hub call = kept-replies IsKeptBroadcast endless_broadcast broadcast_waits h k broadcast-recorded
        (by_hub && not (is_sender h.state.senders 1)) call

    kept-by-end : (live : Bool) (call : Option (BCall Bytes)) →
        IsKeptBroadcast (if_live live h (broadcast_replies endless_broadcast h false call)).1
    kept-by-end live call = kept-if_live IsKeptBroadcast endless_broadcast broadcast_waits h k broadcast-recorded live false call

  -- a resubscription: a new receiver, and then the end of the old one
  module _ (h : EndlessBroadcast) (p : broadcast.IsProper h.state) (k : IsKeptBroadcast h) (r : RxId) where
    moved-on : (o : Option ℕ) → place_of h.state.index r.0 ≡ o →
        IsKeptBroadcast (recorded h (BCalls.Resubscribe r) (broadcast.at_index h.state o (λ _. broadcast.subscribe h.state))).1 →
        IsKeptBroadcast (moved_on h r (broadcast.at_index h.state o (λ _. broadcast.subscribe h.state))).1
    moved-on None there kept = kept
    moved-on (Some i) there kept =
        let tail = broadcast.tail_of h.state in
        let mid = broadcast.numbered (broadcast.with_index h.state (with_place h.state.index h.state.next tail)) in
        let free : place_of h.state.index h.state.next ≡ None = next_is_free h.state.next h.state.senders h.state.index p.handles in
        let apart : r.0 ≡ h.state.next → ⊥ = λ e. none-some i (sym free ∙ ap (place_of h.state.index) (sym e) ∙ there) in
        cond_case (λ (a : BReply Bytes × broadcast.Endless Bytes). IsKeptBroadcast (recorded h (BCalls.Resubscribe r) a).1 →
        IsKeptBroadcast (moved_on h r a).1)
        (is_full (length h.state.index) h.state.next) (BReplies.TooMany, h.state) (BReplies.NewRx (rx h.state.next), mid) (λ _ kept. kept)
        (λ room kept. broadcast-spent (recorded h (BCalls.Resubscribe r) (BReplies.NewRx (rx h.state.next), mid)).1
        (proper.proper-joined h.state p tail (omega arith, omega arith) room) kept
        r i (place-with_other h.state.index h.state.next tail r.0 apart ∙ there))
        kept

    kept-moved : IsKeptBroadcast (broadcast_event endless_broadcast h (Resubscribes r)).1
    kept-moved = cond_case (λ (a : Result (BReply Bytes) NoEvent × EndlessBroadcast). IsKeptBroadcast (moved endless_broadcast r a).1)
        (endless_broadcast.is_full h (BCalls.Resubscribe r)) _ _
        (λ _. k) (λ room. moved-on (place_of h.state.index r.0) refl (broadcast-recorded h p k (BCalls.Resubscribe r) refl room))

  kept-broadcast : (h : EndlessBroadcast) → broadcast.IsProper h.state → IsKeptBroadcast h → (event : Event) →
      IsKeptBroadcast (broadcast_event endless_broadcast h event).1
  kept-broadcast h p k Binds = kept-by-call h p k true (broadcast_call Binds)
  kept-broadcast h p k (Subscribes start by) = kept-by-call h p k (is_hub by) (broadcast_call (Subscribes start by))
  kept-broadcast h p k (Sends t verb) = kept-by-call h p k false (broadcast_call (Sends t verb))
  kept-broadcast h p k (Asks by question) = kept-by-call h p k (is_hub by) (broadcast_call (Asks by question))
  kept-broadcast h p k (Receives r verb) = kept-by-call h p k false (broadcast_call (Receives r verb))
  kept-broadcast h p k (Resubscribes r) = kept-moved h p k r
  kept-broadcast h p k (DropsTx Hub) = kept-by-call h p k true (broadcast_call (DropsTx Hub))
  kept-broadcast h p k (DropsTx (Own t)) = kept-by-end h p k (is_sender h.state.senders t.0) (broadcast_call (DropsTx (Own t)))
  kept-broadcast h p k (DropsRx r) = kept-by-end h p k (is_some (place_of h.state.index r.0)) (broadcast_call (DropsRx r))

  -- a watch channel
  module _ (h : EndlessWatch) (p : watch.IsProper h.state) (k : IsKeptWatch h) where
    watch-recorded : (call : WCall Bytes) → watch_waits call (watch_step h.state call).0 ≡ false → endless_watch.is_full h call ≡ false →
        IsKeptWatch (endless_watch.step h call).1
    watch-recorded call goes room = legal.kept-recorded watch-laws limit h p k call (watch-ready h.state call p goes) room

    kept-by-watch-call : (by_hub : Bool) (call : Option (WCall Bytes)) → IsKeptWatch (watch_replies endless_watch h by_hub call).1
    kept-by-watch-call by_hub call = kept-replies IsKeptWatch endless_watch watch_waits h k watch-recorded
        (by_hub && not (is_sender h.state.senders 1)) call

    kept-by-watch-end : (live : Bool) (call : Option (WCall Bytes)) →
        IsKeptWatch (if_live live h (watch_replies endless_watch h false call)).1
    kept-by-watch-end live call = kept-if_live IsKeptWatch endless_watch watch_waits h k watch-recorded live false call

    kept-watch : (event : Event) → IsKeptWatch (watch_event endless_watch h event).1
    kept-watch Binds = kept-by-watch-call true (watch_call Binds)
    kept-watch (Subscribes start by) = kept-by-watch-call (is_hub by) (watch_call (Subscribes start by))
    kept-watch (Sends t verb) = kept-by-watch-call false (watch_call (Sends t verb))
    kept-watch (Asks by question) = kept-by-watch-call (is_hub by) (watch_call (Asks by question))
    kept-watch (Receives r verb) = kept-by-watch-call false (watch_call (Receives r verb))
    kept-watch (Resubscribes r) = kept-by-watch-call false (watch_call (Resubscribes r))
    kept-watch (DropsTx Hub) = kept-by-watch-call true (watch_call (DropsTx Hub))
    kept-watch (DropsTx (Own t)) = kept-by-watch-end (is_sender h.state.senders t.0) (watch_call (DropsTx (Own t)))
    kept-watch (DropsRx r) = kept-by-watch-end (is_some (reader_of h.state.marks r.0)) (watch_call (DropsRx r))

  -- a channel of either kind
  pub kept-event : (c : EndlessChannel) → IsProperChannel c → IsKeptChannel limit c → (event : Event) →
      IsKeptChannel limit (channel_event endless_broadcast endless_watch c event).1
  kept-event (Broadcast h) p k event = kept-broadcast h p k event
  kept-event (Watch h) p k event = kept-watch h p k event

  pub kept-cut : (c : EndlessChannel) → IsProperChannel c → IsKeptChannel limit c →
      IsKeptChannel limit (cut_channel endless_broadcast endless_watch c).1
  kept-cut (Broadcast h) p k = legal.kept-cut broadcast-laws limit h p k
  kept-cut (Watch h) p k = legal.kept-cut watch-laws limit h p k

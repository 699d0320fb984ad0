-- A hub of endless states is seen as a hub of pictures.
use Rattle.std.proofs.Common.{◌≡◌, ℕ, zero, suc, ◌+◌, ◌*◌, ◌<◌, ◌≤◌, ◌^◌, ◌&&◌, Bool, true, false, cond, nat_eq, nat_lt, nat_le, [], ◌∷◌, ◌++◌, map, length, Option, Some, None, is_some, slice_get, position, Result, Ok, Err, refl, sym, ap, subst, ◌∙◌, arith}
use Rattle.std.specs.Prelude.{not}
use Rattle.std.specs.Option.{option_map}
use Rattle.std.specs.Map.{keys_of, values_of}
use Rattle.std.specs.Cmp.Lexicographic.{pointwise}
use Rattle.std.proofs.lemmas.List.{map-append, length-map}
use Rattle.std.proofs.lemmas.Bool.{ltb-true}
use Rattle.std.proofs.lemmas.Option.{slice_get-map, same_Some, none-some}
use Rattle.std.proofs.Math.Pow.{pow_mono}
use Rattle.std.proofs.Math.Nat.{pow-succ'}
use Rattle.indexmap.specs.IndexMap.{set_value_at}
use Rattle.th_model.specs.declared.broadcast.BCall.{BCall}
use Rattle.th_model.specs.declared.watch.WCall.{WCall}
use Rattle.th_model.specs.Handles.{is_sender}
use Rattle.th_model.specs.Live.{live_handles, live_watchers}
use Rattle.th_model.specs.Places.{place_of}
use Rattle.th_model.specs.WatchMachine.{reader_of}
use Rattle.std.proofs.lemmas.Map.Made.{lookup-map_values}
use Rattle.std.specs.BTreeMap.{is_at}
use Rattle.std.specs.Ordering.{nat_cmp}
use Rattle.th_model.specs.Limits.{IsCapacity, doubled, capacity_of}
use Rattle.th_model.specs.declared.broadcast.BCall.TheVariants as BCalls
use Rattle.th_model.specs.declared.broadcast.BReply.{BReply}
use Rattle.th_model.specs.declared.watch.WReply.{WReply}
use Rattle.th_model.specs.declared.kind.Kind.{Kind}
use Rattle.th_model.specs.declared.handles.RxId.{RxId}
use Rattle.th_model.specs.BroadcastMachine as broadcast
use Rattle.th_model.specs.BroadcastPicture as broadcast_picture
use Rattle.th_model.specs.WatchMachine as watch
use Rattle.th_model.specs.WatchPicture as watch_picture
use Rattle.th_model.proofs.BroadcastSeen as broadcast_seen
use Rattle.th_model.proofs.BroadcastProperness as broadcast_proper
use Rattle.th_model.proofs.BroadcastProperness.{cond_case}
use Rattle.th_model.proofs.WatchSeen as watch_seen
use Rattle.th_model.proofs.WatchProperness as watch_proper
use Rattle.th_log.specs.Calls.{broadcast_waits, watch_waits}
use Rattle.th_registry.specs.declared.channel.Channel.TheVariants.{Broadcast, Watch}
use Rattle.th_model.specs.declared.broadcast.BReply.TheVariants as BReplies
use Rattle.th_registry.specs.declared.outcome.NoEvent.{NoEvent}
use Rattle.th_registry.specs.declared.outcome.NoEvent.TheVariants as NoEvents
use Rattle.th_registry.specs.declared.opening.Found.{Found}
use Rattle.th_model.specs.declared.making.Making.{Making}
use Rattle.th_model.specs.declared.making.Making.TheVariants as Makings
use Rattle.th_registry.specs.declared.opening.Refusal.{Refusal}
use Rattle.th_registry.specs.declared.opening.Refusal.TheVariants as Refusals
use Rattle.th_registry.specs.Calls.{Bytes}
use Rattle.th_registry.specs.Events.{Event, Binds, Subscribes, Sends, Asks, Receives, Resubscribes, DropsTx, DropsRx, Hub, Own, broadcast_call, is_end, is_hub, watch_call}
use Rattle.th_registry.specs.History.{History, is_full, recorded}
use Rattle.th_registry.specs.Kinds.{kind_of}
use Rattle.th_registry.specs.Hub.{ChannelMachine, Find, List, Open, On, Cut, most_topics, found_in, found_at, find, list, written, on_channel, at_topic, added, made_broadcast, made, open_topic, replies, if_live, broadcast_replies, moved, broadcast_event, watch_replies, watch_event, as_broadcast, as_watch, channel_event, channel_receipt, cut_channel, broadcast_receipt, watch_receipt, receipt, receipt_on, receipted}
use Rattle.th_registry.specs.Hub as hub
use Rattle.th_registry.specs.Endless.{EndlessBroadcast, EndlessChannel, EndlessTopics, EndlessWatch, endless, endless_broadcast, endless_watch, IsProperChannel, AreProper}
use Rattle.th_registry.specs.Pictures.{SeenBroadcast, SeenChannel, SeenTopics, SeenWatch, pictures, seen_broadcast, seen_watch, with_state, see_channel, see_topics}
use Rattle.th_registry.specs.Laws.{SaysWhatIsSeen, StaysProper}

-- finding

keys-seen : (ts : EndlessTopics) → keys_of (see_topics ts) ≡ keys_of ts
keys-seen [] = refl
keys-seen (t ∷ ts) = ap (λ ks. t.0 ∷ ks) (keys-seen ts)

kind-seen : (c : EndlessChannel) → kind_of (see_channel c) ≡ kind_of c
kind-seen (Broadcast e) = refl
kind-seen (Watch e) = refl

abbrev see_topic : Bytes × EndlessChannel → Bytes × SeenChannel
see_topic t = (t.0, see_channel t.1)

abbrev found_as : ℕ → Kind → Option Found
found_as n kind = Some (record { topic = record { 0 = n }; kind = kind })

found_in-seen : (n : ℕ) (t : Option (Bytes × EndlessChannel)) → found_in n (option_map see_topic t) ≡ found_in n t
found_in-seen n None = refl
found_in-seen n (Some t) = ap (found_as n) (kind-seen t.1)

found_at-seen : (ts : EndlessTopics) (o : Option ℕ) → found_at (see_topics ts) o ≡ found_at ts o
found_at-seen ts None = refl
found_at-seen ts (Some n) = ap (found_in n) (slice_get-map see_topic ts n) ∙ found_in-seen n (slice_get ts n)

find-seen : (ts : EndlessTopics) (name : Bytes) → find (see_topics ts) name ≡ find ts name
find-seen ts name = ap (λ ks. found_at (see_topics ts) (position (pointwise nat_eq name) ks)) (keys-seen ts)
    ∙ found_at-seen ts (position (pointwise nat_eq name) (keys_of ts))

-- listing

list-seen : (ts : EndlessTopics) → list (see_topics ts) ≡ list ts
list-seen [] = refl
list-seen (t ∷ ts) = (λ i. (record { name = t.0; kind = kind-seen t.1 i }) ∷ list-seen ts i)

-- opening

abbrev see_made : ℕ × EndlessChannel → ℕ × SeenChannel
see_made x = (x.0, see_channel x.1)

module _ (limit key : ℕ) where
  made_of-seen : (base : ℕ) (b : Bool) (o : Option ℕ) →
      cond b (option_map (λ c. (c, Broadcast ((pictures limit).broadcast_opened c base key))) o) None
      ≡ option_map see_made (cond b (option_map (λ c. (c, Broadcast ((endless limit).broadcast_opened c base key))) o) None)
  made_of-seen base true None = refl
  made_of-seen base true (Some c) = refl
  made_of-seen base false o = refl

  made-seen : (making : Making) → made (pictures limit) key making ≡ option_map see_made (made (endless limit) key making)
  made-seen (Makings.Broadcast asked) = made_of-seen 0 (nat_lt 0 (2 ^ 64)) (capacity_of asked)
  made-seen (Makings.BroadcastAt asked base) = made_of-seen base (nat_lt base (2 ^ 64)) (capacity_of asked)
  made-seen (Makings.Watch value) = refl

see_added : (ts : EndlessTopics) (name : Bytes) (c : EndlessChannel) →
    see_topics ts ++ (name, see_channel c) ∷ [] ≡ see_topics (ts ++ (name, c) ∷ [])
see_added ts name c = sym (map-append see_topic ts ((name, c) ∷ []))

-- what an opening says, and the topics after it
abbrev Opened : Type 0 → Type 0
Opened Ts = Result ℕ Refusal × Ts

abbrev see_opened : Opened EndlessTopics → Opened SeenTopics
see_opened s = (s.0, see_topics s.1)

abbrev refused : {Ts : Type 0} → Refusal → Ts → Opened Ts
refused why ts = (Err why, ts)

abbrev next : EndlessTopics → Bytes → ℕ × EndlessChannel → Opened EndlessTopics
next ts name x = (Ok x.0, ts ++ (name, x.1) ∷ [])

abbrev seen_next : EndlessTopics → Bytes → ℕ × EndlessChannel → Opened SeenTopics
seen_next ts name x = (Ok x.0, see_topics ts ++ (name, see_channel x.1) ∷ [])

added_if-seen : (ts : EndlessTopics) (name : Bytes) (x : ℕ × EndlessChannel) (b : Bool) →
    cond b (refused Refusals.TooManyTopics (see_topics ts)) (seen_next ts name x)
    ≡ see_opened (cond b (refused Refusals.TooManyTopics ts) (next ts name x))
added_if-seen ts name x true = refl
added_if-seen ts name x false = ap (λ s. (Ok x.0, s)) (see_added ts name x.1)

added-seen : (ts : EndlessTopics) (name : Bytes) (o : Option (ℕ × EndlessChannel)) →
    added (see_topics ts) name (option_map see_made o) ≡ see_opened (added ts name o)
added-seen ts name None = refl
added-seen ts name (Some x) =
    ap (λ n. cond (nat_le most_topics n) (refused Refusals.TooManyTopics (see_topics ts)) (seen_next ts name x)) (length-map ts see_topic)
    ∙ added_if-seen ts name x (nat_le most_topics (length ts))

open_if-seen : (ts : EndlessTopics) (name : Bytes) (o : Option (ℕ × EndlessChannel)) (b : Bool) →
    cond b (refused Refusals.Exists (see_topics ts)) (added (see_topics ts) name (option_map see_made o))
    ≡ see_opened (cond b (refused Refusals.Exists ts) (added ts name o))
open_if-seen ts name o true = refl
open_if-seen ts name o false = added-seen ts name o

open-seen : (limit : ℕ) (ts : EndlessTopics) (name : Bytes) (making : Making) →
    open_topic (pictures limit) (see_topics ts) name making ≡ see_opened (open_topic (endless limit) ts name making)
open-seen limit ts name making = ap (λ f. cond (is_some f) (refused Refusals.Exists (see_topics ts))
    (added (see_topics ts) name (made (pictures limit) (length (see_topics ts) + 1) making))) (find-seen ts name)
    ∙ ap (λ n. cond (is_some (find ts name)) (refused Refusals.Exists (see_topics ts))
    (added (see_topics ts) name (made (pictures limit) (n + 1) making))) (length-map ts see_topic)
    ∙ ap (λ o. cond (is_some (find ts name)) (refused Refusals.Exists (see_topics ts)) (added (see_topics ts) name o))
    (made-seen limit (length ts + 1) making)
    ∙ open_if-seen ts name (made (endless limit) (length ts + 1) making) (is_some (find ts name))

-- events

-- what was replied, and the channel after it
abbrev Replies : Type 0 → Type 0 → Type 0
Replies R C = Result R NoEvent × C

-- what is seen of a history, by what is seen of its state
abbrev see_history : {E S C R : Type 0} → (E → S) → History E S C R → History S S C R
see_history see h = with_state h (see h.state)

abbrev see_broadcast : EndlessBroadcast → SeenBroadcast
see_broadcast h = see_history broadcast_picture.see h

abbrev see_watch : EndlessWatch → SeenWatch
see_watch h = see_history watch_picture.see h

-- and of what was replied
abbrev after_reply : {R C D : Type 0} → (C → D) → Replies R C → Replies R D
after_reply see s = (s.0, see s.1)

-- one call; or that it would wait, or that the log is full
abbrev called : {C R : Type 0} → (waits full : Bool) → C → R × C → Replies R C
called waits full c s = cond waits (Err NoEvents.Blocked, c) (cond full (Err NoEvents.LogFull, c) (Ok s.0, s.1))

called-seen : {C D R : Type 0} (see : C → D) (c : C) (s : R × C) (waits full : Bool) →
    called waits full (see c) (s.0, see s.1) ≡ after_reply see (called waits full c s)
called-seen see c s true full = refl
called-seen see c s false true = refl
called-seen see c s false false = refl

if_live-seen : {C D R : Type 0} (see : C → D) (live : Bool) (c : C) (s : Replies R C) →
    if_live live (see c) (after_reply see s) ≡ after_reply see (if_live live c s)
if_live-seen see true c s = refl
if_live-seen see false c s = refl

module _ {C D K R P : Type 0} (see : C → D) (m : ChannelMachine C K R P) (p : ChannelMachine D K R P) (waits : K → R → Bool)
    (c : C) (seen : (k : K) → p.step (see c) k ≡ ((m.step c k).0, see (m.step c k).1))
    (full : (k : K) → p.is_full (see c) k ≡ m.is_full c k) where
  replies-seen : (no_sender : Bool) (call : Option K) →
      replies p waits no_sender (see c) call ≡ after_reply see (replies m waits no_sender c call)
  replies-seen no_sender None = refl
  replies-seen true (Some call) = refl
  replies-seen false (Some call) = ap (λ s. called (waits call s.0) (p.is_full (see c) call) (see c) s) (seen call)
      ∙ ap (λ f. called (waits call (m.step c call).0) f (see c) ((m.step c call).0, see (m.step c call).1)) (full call)
      ∙ called-seen see c (m.step c call) (waits call (m.step c call).0) (m.is_full c call)

module _ {C K R P : Type 0} (Q : C → Type 0) (m : ChannelMachine C K R P) (waits : K → R → Bool) (c : C) (before : Q c)
    (after : (k : K) → Q (m.step c k).1) where
  proper-replies : (no_sender : Bool) (call : Option K) → Q (replies m waits no_sender c call).1
  proper-replies no_sender None = before
  proper-replies true (Some call) = before
  proper-replies false (Some call) = cond_case (λ (s : Replies R C). Q s.1) (waits call (m.step c call).0) _ _ (λ _. before)
      (λ _. cond_case (λ (s : Replies R C). Q s.1) (m.is_full c call) _ _ (λ _. before) (λ _. after call))

  proper-if_live : (live : Bool) (s : Replies R C) → Q s.1 → Q (if_live live c s).1
  proper-if_live true s h = h
  proper-if_live false s h = before

-- live handles are seen as they are
senders-seen : (e : broadcast.Endless Bytes) → (broadcast_picture.see e).senders ≡ e.senders
unfolding broadcast_picture.see
senders-seen e = refl

places-seen : (e : broadcast.Endless Bytes) → (broadcast_picture.see e).window.places ≡ e.index
unfolding broadcast_picture.see
places-seen e = refl

watch_senders-seen : (e : watch.Endless Bytes) → (watch_picture.see e).senders ≡ e.senders
unfolding watch_picture.see
watch_senders-seen e = refl

is_some-mapped : {X Y : Type 0} (f : X → Y) (o : Option X) → is_some (option_map f o) ≡ is_some o
is_some-mapped f None = refl
is_some-mapped f (Some x) = refl

readers-seen : (e : watch.Endless Bytes) (r : ℕ) → is_some (reader_of (watch_picture.see e).readers r) ≡ is_some (reader_of e.marks r)
unfolding watch_picture.see
readers-seen e r =
    let unseen : ℕ → Bool = λ mark. nat_lt mark (watch.version_of e) in
    ap is_some (lookup-map_values unseen (is_at (nat_cmp r)) e.marks) ∙ is_some-mapped unseen (reader_of e.marks r)

module _ (h : EndlessBroadcast) (proper : broadcast.IsProper h.state) where
  step-seen : (call : BCall Bytes) → seen_broadcast.step (see_broadcast h) call
      ≡ ((endless_broadcast.step h call).0, see_broadcast (endless_broadcast.step h call).1)
  step-seen call = ap (recorded (see_broadcast h) call) (broadcast_seen.answer_seen h.state call proper)

  full-seen : (call : BCall Bytes) → seen_broadcast.is_full (see_broadcast h) call ≡ endless_broadcast.is_full h call
  full-seen call = ap (λ (s : BReply Bytes × broadcast_picture.Picture Bytes). is_full (see_broadcast h) (live_handles s.1))
      (broadcast_seen.answer_seen h.state call proper)

  stays : (call : BCall Bytes) → broadcast.IsProper (endless_broadcast.step h call).1.state
  stays call = broadcast_proper.step_proper h.state call proper

  broadcast_replies-seen : (by_hub : Bool) (call : Option (BCall Bytes)) →
      broadcast_replies seen_broadcast (see_broadcast h) by_hub call
      ≡ after_reply see_broadcast (broadcast_replies endless_broadcast h by_hub call)
  broadcast_replies-seen by_hub call =
      ap (λ ks. replies seen_broadcast broadcast_waits (by_hub && not (is_sender ks 1)) (see_broadcast h) call) (senders-seen h.state)
      ∙ replies-seen see_broadcast endless_broadcast seen_broadcast broadcast_waits h step-seen full-seen
      (by_hub && not (is_sender h.state.senders 1)) call

  proper-broadcast_replies : (by_hub : Bool) (call : Option (BCall Bytes)) →
      broadcast.IsProper (broadcast_replies endless_broadcast h by_hub call).1.state
  proper-broadcast_replies by_hub call =
      proper-replies (λ (h : EndlessBroadcast). broadcast.IsProper h.state) endless_broadcast broadcast_waits h proper stays
      (by_hub && not (is_sender h.state.senders 1)) call

moved-seen : (r : RxId) (s : Replies (BReply Bytes) EndlessBroadcast) → broadcast.IsProper s.1.state →
    moved seen_broadcast r (after_reply see_broadcast s) ≡ after_reply see_broadcast (moved endless_broadcast r s)
moved-seen r (said, h) proper =
    elim said as
    (λ said. moved seen_broadcast r (after_reply see_broadcast (said, h))
    ≡ after_reply see_broadcast (moved endless_broadcast r (said, h))) [
      | Ok (BReplies.NewRx new) ↦ ap (λ s. (Ok (BReplies.NewRx new), s.1)) (step-seen h proper (BCalls.DropRx r))
      | _ ↦ refl
    ]

proper-moved : (r : RxId) (s : Replies (BReply Bytes) EndlessBroadcast) → broadcast.IsProper s.1.state →
    broadcast.IsProper (moved endless_broadcast r s).1.state
proper-moved r (said, h) proper = elim said as (λ said. broadcast.IsProper (moved endless_broadcast r (said, h)).1.state) [
  | Ok (BReplies.NewRx new) ↦ broadcast_proper.step_proper h.state (BCalls.DropRx r) proper
  | _ ↦ proper
]

module _ (h : EndlessBroadcast) (proper : broadcast.IsProper h.state) where
  -- the end of a handle
  spent-seen : (live seen : Bool) → seen ≡ live → (call : Option (BCall Bytes)) →
      if_live seen (see_broadcast h) (broadcast_replies seen_broadcast (see_broadcast h) false call)
      ≡ after_reply see_broadcast (if_live live h (broadcast_replies endless_broadcast h false call))
  spent-seen live seen same call =
      ap (λ b. if_live b (see_broadcast h) (broadcast_replies seen_broadcast (see_broadcast h) false call)) same
      ∙ ap (if_live live (see_broadcast h)) (broadcast_replies-seen h proper false call)
      ∙ if_live-seen see_broadcast live h (broadcast_replies endless_broadcast h false call)

  broadcast-seen : (event : Event) → broadcast_event seen_broadcast (see_broadcast h) event
      ≡ after_reply see_broadcast (broadcast_event endless_broadcast h event)
  broadcast-seen (Resubscribes r) = ap (moved seen_broadcast r) (broadcast_replies-seen h proper false (broadcast_call (Resubscribes r)))
      ∙ moved-seen r (broadcast_replies endless_broadcast h false (broadcast_call (Resubscribes r)))
      (proper-broadcast_replies h proper false (broadcast_call (Resubscribes r)))
  broadcast-seen Binds = broadcast_replies-seen h proper true (broadcast_call Binds)
  broadcast-seen (Subscribes start by) = broadcast_replies-seen h proper (is_hub by) (broadcast_call (Subscribes start by))
  broadcast-seen (Sends t verb) = broadcast_replies-seen h proper false (broadcast_call (Sends t verb))
  broadcast-seen (Asks by question) = broadcast_replies-seen h proper (is_hub by) (broadcast_call (Asks by question))
  broadcast-seen (Receives r verb) = broadcast_replies-seen h proper false (broadcast_call (Receives r verb))
  broadcast-seen (DropsTx Hub) = broadcast_replies-seen h proper true (broadcast_call (DropsTx Hub))
  broadcast-seen (DropsTx (Own t)) = spent-seen _ _ (ap (λ ks. is_sender ks t.0) (senders-seen h.state)) (broadcast_call (DropsTx (Own t)))
  broadcast-seen (DropsRx r) = spent-seen _ _ (ap (λ ps. is_some (place_of ps r.0)) (places-seen h.state)) (broadcast_call (DropsRx r))

  abbrev IsProperNow : EndlessBroadcast → Type 0
  IsProperNow h = broadcast.IsProper h.state

  proper-spent : (live : Bool) (call : Option (BCall Bytes)) →
      broadcast.IsProper (if_live live h (broadcast_replies endless_broadcast h false call)).1.state
  proper-spent live call = proper-if_live IsProperNow endless_broadcast broadcast_waits h proper (stays h proper) live _
      (proper-broadcast_replies h proper false call)

  proper-broadcast : (event : Event) → broadcast.IsProper (broadcast_event endless_broadcast h event).1.state
  proper-broadcast (Resubscribes r) = proper-moved r (broadcast_replies endless_broadcast h false (broadcast_call (Resubscribes r)))
      (proper-broadcast_replies h proper false (broadcast_call (Resubscribes r)))
  proper-broadcast Binds = proper-broadcast_replies h proper true (broadcast_call Binds)
  proper-broadcast (Subscribes start by) = proper-broadcast_replies h proper (is_hub by) (broadcast_call (Subscribes start by))
  proper-broadcast (Sends t verb) = proper-broadcast_replies h proper false (broadcast_call (Sends t verb))
  proper-broadcast (Asks by question) = proper-broadcast_replies h proper (is_hub by) (broadcast_call (Asks by question))
  proper-broadcast (Receives r verb) = proper-broadcast_replies h proper false (broadcast_call (Receives r verb))
  proper-broadcast (DropsTx Hub) = proper-broadcast_replies h proper true (broadcast_call (DropsTx Hub))
  proper-broadcast (DropsTx (Own t)) = proper-spent (is_sender h.state.senders t.0) (broadcast_call (DropsTx (Own t)))
  proper-broadcast (DropsRx r) = proper-spent (is_some (place_of h.state.index r.0)) (broadcast_call (DropsRx r))

module _ (h : EndlessWatch) (proper : watch.IsProper h.state) where
  watch_step-seen : (call : WCall Bytes) → seen_watch.step (see_watch h) call
      ≡ ((endless_watch.step h call).0, see_watch (endless_watch.step h call).1)
  watch_step-seen call = ap (recorded (see_watch h) call) (watch_seen.answer_seen (pointwise nat_eq) h.state call proper)

  watch_full-seen : (call : WCall Bytes) → seen_watch.is_full (see_watch h) call ≡ endless_watch.is_full h call
  watch_full-seen call = ap (λ (s : WReply Bytes × watch_picture.Picture Bytes). is_full (see_watch h) (live_watchers s.1))
      (watch_seen.answer_seen (pointwise nat_eq) h.state call proper)

  watch_stays : (call : WCall Bytes) → watch.IsProper (endless_watch.step h call).1.state
  watch_stays call = watch_proper.step_proper h.state proper (pointwise nat_eq) call

  watch_replies-seen : (by_hub : Bool) (call : Option (WCall Bytes)) →
      watch_replies seen_watch (see_watch h) by_hub call ≡ after_reply see_watch (watch_replies endless_watch h by_hub call)
  watch_replies-seen by_hub call =
      ap (λ ks. replies seen_watch watch_waits (by_hub && not (is_sender ks 1)) (see_watch h) call) (watch_senders-seen h.state)
      ∙ replies-seen see_watch endless_watch seen_watch watch_waits h watch_step-seen watch_full-seen
      (by_hub && not (is_sender h.state.senders 1)) call

  watch_spent-seen : (live seen : Bool) → seen ≡ live → (call : Option (WCall Bytes)) →
      if_live seen (see_watch h) (watch_replies seen_watch (see_watch h) false call)
      ≡ after_reply see_watch (if_live live h (watch_replies endless_watch h false call))
  watch_spent-seen live seen same call = ap (λ b. if_live b (see_watch h) (watch_replies seen_watch (see_watch h) false call)) same
      ∙ ap (if_live live (see_watch h)) (watch_replies-seen false call)
      ∙ if_live-seen see_watch live h (watch_replies endless_watch h false call)

  watch-seen : (event : Event) → watch_event seen_watch (see_watch h) event ≡ after_reply see_watch (watch_event endless_watch h event)
  watch-seen Binds = watch_replies-seen true (watch_call Binds)
  watch-seen (Subscribes start by) = watch_replies-seen (is_hub by) (watch_call (Subscribes start by))
  watch-seen (Sends t verb) = watch_replies-seen false (watch_call (Sends t verb))
  watch-seen (Asks by question) = watch_replies-seen (is_hub by) (watch_call (Asks by question))
  watch-seen (Receives r verb) = watch_replies-seen false (watch_call (Receives r verb))
  watch-seen (Resubscribes r) = watch_replies-seen false (watch_call (Resubscribes r))
  watch-seen (DropsTx Hub) = watch_replies-seen true (watch_call (DropsTx Hub))
  watch-seen (DropsTx (Own t)) = watch_spent-seen _ _ (ap (λ ks. is_sender ks t.0) (watch_senders-seen h.state))
      (watch_call (DropsTx (Own t)))
  watch-seen (DropsRx r) = watch_spent-seen _ _ (readers-seen h.state r.0) (watch_call (DropsRx r))

  proper-watch_replies : (by_hub : Bool) (call : Option (WCall Bytes)) → watch.IsProper (watch_replies endless_watch h by_hub call).1.state
  proper-watch_replies by_hub call =
      proper-replies (λ (h : EndlessWatch). watch.IsProper h.state) endless_watch watch_waits h proper watch_stays
      (by_hub && not (is_sender h.state.senders 1)) call

  proper-watch_spent : (live : Bool) (call : Option (WCall Bytes)) →
      watch.IsProper (if_live live h (watch_replies endless_watch h false call)).1.state
  proper-watch_spent live call = proper-if_live (λ (h : EndlessWatch). watch.IsProper h.state) endless_watch watch_waits h proper
      watch_stays live _ (proper-watch_replies false call)

  proper-watch : (event : Event) → watch.IsProper (watch_event endless_watch h event).1.state
  proper-watch Binds = proper-watch_replies true (watch_call Binds)
  proper-watch (Subscribes start by) = proper-watch_replies (is_hub by) (watch_call (Subscribes start by))
  proper-watch (Sends t verb) = proper-watch_replies false (watch_call (Sends t verb))
  proper-watch (Asks by question) = proper-watch_replies (is_hub by) (watch_call (Asks by question))
  proper-watch (Receives r verb) = proper-watch_replies false (watch_call (Receives r verb))
  proper-watch (Resubscribes r) = proper-watch_replies false (watch_call (Resubscribes r))
  proper-watch (DropsTx Hub) = proper-watch_replies true (watch_call (DropsTx Hub))
  proper-watch (DropsTx (Own t)) = proper-watch_spent (is_sender h.state.senders t.0) (watch_call (DropsTx (Own t)))
  proper-watch (DropsRx r) = proper-watch_spent (is_some (reader_of h.state.marks r.0)) (watch_call (DropsRx r))

-- an event of a channel of either kind, and the cutting of its segment

abbrev told_seen : {A : Type 0} → Result A NoEvent × EndlessChannel → Result A NoEvent × SeenChannel
told_seen s = (s.0, see_channel s.1)

channel-seen : (c : EndlessChannel) → IsProperChannel c → (event : Event) →
    channel_event seen_broadcast seen_watch (see_channel c) event ≡ told_seen (channel_event endless_broadcast endless_watch c event)
channel-seen (Broadcast h) proper event = ap (as_broadcast event) (broadcast-seen h proper event)
channel-seen (Watch h) proper event = ap (as_watch event) (watch-seen h proper event)

cut-seen : (c : EndlessChannel) → cut_channel seen_broadcast seen_watch (see_channel c)
    ≡ told_seen (cut_channel endless_broadcast endless_watch c)
cut-seen (Broadcast h) = refl
cut-seen (Watch h) = refl

set-seen : (ts : EndlessTopics) (n : ℕ) (c : EndlessChannel) →
    set_value_at (see_topics ts) n (see_channel c) ≡ see_topics (set_value_at ts n c)
set-seen [] n c = refl
set-seen (t ∷ ts) zero c = refl
set-seen (t ∷ ts) (suc n) c = ap (λ rest. see_topic t ∷ rest) (set-seen ts n c)

values-seen : (ts : EndlessTopics) → values_of (see_topics ts) ≡ map see_channel (values_of ts)
values-seen [] = refl
values-seen (t ∷ ts) = ap (λ vs. see_channel t.1 ∷ vs) (values-seen ts)

proper-at : (ts : EndlessTopics) → AreProper ts → (n : ℕ) (c : EndlessChannel) → slice_get (values_of ts) n ≡ Some c → IsProperChannel c
proper-at [] h n c e = absurd (none-some c e)
proper-at (t ∷ ts) h zero c e = subst IsProperChannel (same_Some t.1 c e) h.0
proper-at (t ∷ ts) h (suc n) c e = proper-at ts h.1 n c e

-- what is done with a topic's channel
module _ {A : Type 0} (done_seen : SeenChannel → Result A NoEvent × SeenChannel) (done : EndlessChannel → Result A NoEvent × EndlessChannel)
    (seen : (c : EndlessChannel) → IsProperChannel c → done_seen (see_channel c) ≡ told_seen (done c)) where
  on_channel-seen : (ts : EndlessTopics) (n : ℕ) (o : Option EndlessChannel) → ((c : EndlessChannel) → o ≡ Some c → IsProperChannel c) →
      on_channel (see_topics ts) n done_seen (option_map see_channel o)
      ≡ ((on_channel ts n done o).0, see_topics (on_channel ts n done o).1)
  on_channel-seen ts n None proper = refl
  on_channel-seen ts n (Some c) proper = ap (written (see_topics ts) n) (seen c (proper c refl))
      ∙ ap (λ rest. ((done c).0, rest)) (set-seen ts n (done c).1)

  at_topic-seen : (ts : EndlessTopics) → AreProper ts → (n : ℕ) →
      at_topic (see_topics ts) n done_seen ≡ ((at_topic ts n done).0, see_topics (at_topic ts n done).1)
  at_topic-seen ts proper n = ap (λ o. on_channel (see_topics ts) n done_seen o) (ap (λ vs. slice_get vs n) (values-seen ts)
      ∙ slice_get-map see_channel (values_of ts) n)
      ∙ on_channel-seen ts n (slice_get (values_of ts) n) (proper-at ts proper n)

-- the receipt of an event

receipted-seen : {E F S T C R P Q : Type 0} (m : ChannelMachine (History E S C R) C R P) (p : ChannelMachine (History F T C R) C R Q)
    (h : History E S C R) (k : History F T C R) → ((call : C) (reply : R) → p.receipt k call reply ≡ m.receipt h call reply) →
    (said : Result R NoEvent) (call : Option C) → receipted p k said call ≡ receipted m h said call
receipted-seen m p h k same (Ok reply) (Some call) = ap (λ r. Some r) (same call reply)
receipted-seen m p h k same (Ok reply) None = refl
receipted-seen m p h k same (Err why) call = refl

broadcast_receipt-seen : (h : EndlessBroadcast) → broadcast.IsProper h.state → (event : Event) →
    broadcast_receipt seen_broadcast (see_broadcast h) event ≡ broadcast_receipt endless_broadcast h event
broadcast_receipt-seen h proper event = ap (λ (s : Replies (BReply Bytes) SeenBroadcast). cond (is_end event) None
    (receipted seen_broadcast (see_broadcast h) s.0 (broadcast_call event))) (broadcast-seen h proper event)
    ∙ ap (cond (is_end event) None) (receipted-seen endless_broadcast seen_broadcast h (see_broadcast h) (λ _ _. refl)
    (broadcast_event endless_broadcast h event).0 (broadcast_call event))

watch_receipt-seen : (h : EndlessWatch) → watch.IsProper h.state → (event : Event) →
    watch_receipt seen_watch (see_watch h) event ≡ watch_receipt endless_watch h event
watch_receipt-seen h proper event =
    ap (λ (s : Replies (WReply Bytes) SeenWatch). cond (is_end event) None (receipted seen_watch (see_watch h) s.0 (watch_call event)))
    (watch-seen h proper event)
    ∙ ap (cond (is_end event) None) (receipted-seen endless_watch seen_watch h (see_watch h) (λ _ _. refl)
    (watch_event endless_watch h event).0 (watch_call event))

channel_receipt-seen : (c : EndlessChannel) → IsProperChannel c → (event : Event) →
    channel_receipt seen_broadcast seen_watch (see_channel c) event ≡ channel_receipt endless_broadcast endless_watch c event
channel_receipt-seen (Broadcast h) proper event = ap (option_map (λ r. Broadcast r)) (broadcast_receipt-seen h proper event)
channel_receipt-seen (Watch h) proper event = ap (option_map (λ r. Watch r)) (watch_receipt-seen h proper event)

receipt_on-seen : (limit : ℕ) (event : Event) (o : Option EndlessChannel) → ((c : EndlessChannel) → o ≡ Some c → IsProperChannel c) →
    receipt_on (pictures limit) (option_map see_channel o) event ≡ receipt_on (endless limit) o event
receipt_on-seen limit event None proper = refl
receipt_on-seen limit event (Some c) proper = channel_receipt-seen c (proper c refl) event

receipt-seen : (limit : ℕ) (ts : EndlessTopics) (n : ℕ) (event : Event) → AreProper ts →
    receipt (pictures limit) (see_topics ts) n event ≡ receipt (endless limit) ts n event
receipt-seen limit ts n event proper =
    ap (λ o. receipt_on (pictures limit) o event) (ap (λ vs. slice_get vs n) (values-seen ts) ∙ slice_get-map see_channel (values_of ts) n)
    ∙ receipt_on-seen limit event (slice_get (values_of ts) n) (proper-at ts proper n)

pub says_what_is_seen : SaysWhatIsSeen
says_what_is_seen limit ts (Find name) proper = ap (λ f. (f, see_topics ts)) (find-seen ts name)
says_what_is_seen limit ts List proper = ap (λ rows. (Ok rows, see_topics ts)) (list-seen ts)
says_what_is_seen limit ts (Open name making) proper = open-seen limit ts name making
says_what_is_seen limit ts (On n event) proper =
    ap (λ s. ((s.0, receipt (pictures limit) (see_topics ts) n event), s.1)) (at_topic-seen _ _ (λ c p. channel-seen c p event) ts proper n)
    ∙ ap (λ r. (((hub.event (endless limit) ts n event).0, r), see_topics (hub.event (endless limit) ts n event).1))
    (receipt-seen limit ts n event proper)
says_what_is_seen limit ts (Cut n) proper = at_topic-seen _ _ (λ c p. cut-seen c) ts proper n

-- proper states

power-doubled : (k j asked : ℕ) → j + k ≤ 16 → (i : ℕ) × (i ≤ 16) × (doubled k (2 ^ j) asked ≡ 2 ^ i)
power-doubled zero j asked few = (j, omega arith, refl)
power-doubled (suc k) j asked few = elim (nat_le asked (2 ^ j)) as
    (λ b. (i : ℕ) × (i ≤ 16) × (cond b (2 ^ j) (doubled k (2 * 2 ^ j) asked) ≡ 2 ^ i)) [
      | true ↦ (j, omega arith, refl)
      | false ↦ subst (λ d. (i : ℕ) × (i ≤ 16) × (doubled k d asked ≡ 2 ^ i)) (pow-succ' 2 j) (power-doubled k (suc j) asked (omega arith))
    ]

is_capacity-power : (c i : ℕ) → i ≤ 16 → c ≡ 2 ^ i → IsCapacity c
is_capacity-power c i few e =
    let low : 2 ^ 0 ≤ 2 ^ i = (let le : 0 ≤ i = omega arith in pow_mono le) in
    let high : 2 ^ i ≤ 2 ^ 16 = pow_mono few in
    ((i, e), omega (arith, e, low), omega (arith, e, high))

-- a capacity in force is a power of two up to 65,536
pub is_capacity : (asked c : ℕ) → capacity_of asked ≡ Some c → IsCapacity c
unfolding capacity_of
is_capacity asked c e = elim (nat_lt 0 asked && nat_le asked 65536) as
    (λ b. cond b (Some (doubled 16 1 asked)) None ≡ Some c → IsCapacity c) [
      | true ↦ λ s. (let p = power-doubled 16 0 asked (omega arith) in
          is_capacity-power c p.0 p.1 (sym (same_Some (doubled 16 1 asked) c s) ∙ p.2))
      | false ↦ λ s. absurd (none-some c s)
    ] e

abbrev IsProperMade : Option (ℕ × EndlessChannel) → Type 0
IsProperMade None = Unit {0}
IsProperMade (Some x) = IsProperChannel x.1

module _ (limit key : ℕ) where
  abbrev opened_as : ℕ → ℕ → ℕ × EndlessChannel
  opened_as base c = (c, Broadcast ((endless limit).broadcast_opened c base key))

  proper-made_of : (base : ℕ) (o : Option ℕ) → base < 2 ^ 64 → ((c : ℕ) → o ≡ Some c → IsCapacity c) →
      IsProperMade (option_map (opened_as base) o)
  proper-made_of base None fits h = tt
  proper-made_of base (Some c) fits h = broadcast_proper.opened_proper c base (h c refl) fits

  proper-broadcast-made : (asked base : ℕ) → IsProperMade (made_broadcast (endless limit) key asked base)
  proper-broadcast-made asked base = by (nat_lt base (2 ^ 64)) refl
    where
      by : (b : Bool) → nat_lt base (2 ^ 64) ≡ b → IsProperMade (cond b (option_map (opened_as base) (capacity_of asked)) None)
      by true e = proper-made_of base (capacity_of asked) (ltb-true base (2 ^ 64) e) (is_capacity asked)
      by false e = tt

  proper-made : (making : Making) → IsProperMade (made (endless limit) key making)
  proper-made (Makings.Broadcast asked) = proper-broadcast-made asked 0
  proper-made (Makings.BroadcastAt asked base) = proper-broadcast-made asked base
  proper-made (Makings.Watch value) = watch_proper.opened_proper value 1 (omega arith) (omega arith)

proper-append : (ts : EndlessTopics) (name : Bytes) (c : EndlessChannel) → AreProper ts → IsProperChannel c →
    AreProper (ts ++ (name, c) ∷ [])
proper-append [] name c h p = (p, tt)
proper-append (t ∷ ts) name c h p = (h.0, proper-append ts name c h.1 p)

abbrev after : Opened EndlessTopics → EndlessTopics
after s = s.1

proper-added : (ts : EndlessTopics) (name : Bytes) (o : Option (ℕ × EndlessChannel)) → AreProper ts → IsProperMade o →
    AreProper (added ts name o).1
proper-added ts name None h p = h
proper-added ts name (Some x) h p = elim (nat_le most_topics (length ts)) as
    (λ b. AreProper (after (cond b (refused Refusals.TooManyTopics ts) (next ts name x)))) [
      | true ↦ h
      | false ↦ proper-append ts name x.1 h p
    ]

proper-open : (limit : ℕ) (ts : EndlessTopics) (name : Bytes) (making : Making) → AreProper ts →
    AreProper (open_topic (endless limit) ts name making).1
proper-open limit ts name making h =
    let made = made (endless limit) (length ts + 1) making in
    elim (is_some (find ts name)) as (λ b. AreProper (after (cond b (refused Refusals.Exists ts) (added ts name made)))) [
      | true ↦ h
      | false ↦ proper-added ts name made h (proper-made limit (length ts + 1) making)
    ]

proper-channel : (c : EndlessChannel) → IsProperChannel c → (event : Event) →
    IsProperChannel (channel_event endless_broadcast endless_watch c event).1
proper-channel (Broadcast h) p event = proper-broadcast h p event
proper-channel (Watch h) p event = proper-watch h p event

proper-cut : (c : EndlessChannel) → IsProperChannel c → IsProperChannel (cut_channel endless_broadcast endless_watch c).1
proper-cut (Broadcast h) p = p
proper-cut (Watch h) p = p

proper-set : (ts : EndlessTopics) (n : ℕ) (c : EndlessChannel) → AreProper ts → IsProperChannel c → AreProper (set_value_at ts n c)
proper-set [] n c h p = tt
proper-set (t ∷ ts) zero c h p = (p, h.1)
proper-set (t ∷ ts) (suc n) c h p = (h.0, proper-set ts n c h.1 p)

proper-on : {A : Type 0} (done : EndlessChannel → Result A NoEvent × EndlessChannel) →
    ((c : EndlessChannel) → IsProperChannel c → IsProperChannel (done c).1) →
    (ts : EndlessTopics) (n : ℕ) (o : Option EndlessChannel) → AreProper ts → ((c : EndlessChannel) → o ≡ Some c → IsProperChannel c) →
    AreProper (on_channel ts n done o).1
proper-on done stay ts n None h p = h
proper-on done stay ts n (Some c) h p = proper-set ts n _ h (stay c (p c refl))

pub stays_proper : StaysProper
stays_proper limit ts (Find name) proper = proper
stays_proper limit ts List proper = proper
stays_proper limit ts (Open name making) proper = proper-open limit ts name making proper
stays_proper limit ts (On n event) proper = proper-on _ (λ c p. proper-channel c p event) ts n (slice_get (values_of ts) n) proper
    (proper-at ts proper n)
stays_proper limit ts (Cut n) proper = proper-on _ proper-cut ts n (slice_get (values_of ts) n) proper (proper-at ts proper n)

-- An event of which nobody keeps the receipt.
use Rattle.std.proofs.Common.{◌≡◌, ℕ, inl, inr, List, [], ◌∷◌, ◌++◌, length, Option, Some, None, slice_get, Result, Ok, Err, Bool, true, false, cond, refl, sym, ap, ◌∙◌, arith, length-append}
use Rattle.std.specs.Prelude.{◌-◌, IfOk, OnOk, IfErr, is_ok, is_some, nat_eq}
use Rattle.std.specs.Cmp.Lexicographic.{pointwise}
use Rattle.std.specs.Option.{option_map}
use Rattle.th_model.specs.Handles.{is_sender}
use Rattle.th_model.specs.Places.{place_of}
use Rattle.th_model.specs.WatchMachine.{reader_of}
use Rattle.th_model.specs.declared.handles.RxId.{RxId}
use Rattle.th_model.specs.declared.handles.TxId.{TxId}
use Rattle.th_log.specs.Calls.{broadcast_waits, watch_waits}
use Rattle.th_log.specs.History.{Machine, last_reply, live_after}
use Rattle.th_log.specs.Machines as machines
use Rattle.th_registry.specs.declared.channel.Channel.TheVariants.{Broadcast, Watch}
use Rattle.th_registry.specs.declared.outcome.NoEvent.{NoEvent}
use Rattle.th_registry.specs.declared.outcome.NoEvent.TheVariants as NoEvents
use Rattle.th_registry.specs.Events.{Event, Binds, Subscribes, Sends, Asks, Receives, Resubscribes, DropsTx, DropsRx, ChannelReply, Outcome, Replied, EventResult, broadcast_call, takes_memory, watch_call}
use Rattle.th_registry.specs.History.{History, is_full, recorded}
use Rattle.th_registry.specs.Hub.{came, hub_replies, if_room, receipted}
use Rattle.th_registry.specs.Keeping.{KindKeeps}
use Rattle.th_registry.specs.Outcomes.{CallSays, ChannelTells, KindSays, NotesOrShort, SaysOrShort}
use Rattle.th_registry.specs.Pictures.{SeenBroadcast, SeenChannel, SeenWatch, seen_broadcast, seen_by, seen_watch}
use Rattle.th_registry.specs.Receipts.{BroadcastReceipt, ChannelReceipt, Receipt, WatchReceipt, receipt_of, reply_in}
use Rattle.th_registry.specs.Refusals.{RefusesEvent}
use Rattle.th_registry.specs.Typed.{replied}

-- the last one is the one behind the others
get-behind : {A : Type 0} (xs : List A) (x : A) → slice_get (xs ++ x ∷ []) (length xs) ≡ Some x
get-behind [] x = refl
get-behind (y ∷ xs) x = get-behind xs x

last-behind : {C R : Type 0} (xs : List (C × R)) (x : C × R) → last_reply (xs ++ x ∷ []) ≡ Some x.1
last-behind {C = C} {R = R} xs x =
    let more = length-append xs (x ∷ []) in
    let count : length (xs ++ x ∷ []) - 1 ≡ length xs = omega (arith, more) in
    ap (λ (n : ℕ). option_map (λ (e : C × R). e.1) (slice_get (xs ++ x ∷ []) n)) count
    ∙ ap (option_map (λ (e : C × R). e.1)) (get-behind xs x)

module _ {E S C R : Type 0} (m : Machine E S C R) (has_sender : S → TxId → Bool) (has_receiver : S → RxId → Bool)
    (waits : C → R → Bool) (old : History S S C R) (by_hub : Bool) (call : Option C) (c : C) (new : History S S C R) where
  abbrev seen-replies : Result R NoEvent × History S S C R
  seen-replies = hub_replies (seen_by m has_sender has_receiver) waits old by_hub call

  abbrev seen-room : Result R NoEvent × History S S C R
  seen-room = if_room (seen_by m has_sender has_receiver) old c

  abbrev made : R × History S S C R
  made = recorded old c (m.answer old.state c)

  abbrev chosen : Bool → Result R NoEvent × History S S C R
  chosen full = cond full (Err NoEvents.LogFull, old) (Ok made.0, made.1)

  -- the call was made, as there was room for it
  made-ok : (reply : R) → seen-replies ≡ seen-room → is_full old (live_after m old.state c) ≡ false → made ≡ (reply, new) →
      seen-replies ≡ (Ok reply, new)
  made-ok reply allows room event = allows ∙ ap chosen room ∙ ap (λ (p : R × History S S C R). (Ok p.0, p.1)) event

  -- or it was not
  made-not : (why : NoEvent) → seen-replies ≡ seen-room → RefusesEvent old new (live_after m old.state c) why →
      SaysOrShort (Err NoEvents.Short) is_ok seen-replies old (Err why) new
  made-not NoEvents.LogFull allows r = inl (allows ∙ ap chosen r.0 ∙ ap (λ (h : History S S C R). (Err NoEvents.LogFull, h)) (sym r.1))
  made-not NoEvents.Short allows r = inr (refl, r.1, ap (λ (s : Result R NoEvent × History S S C R). is_ok s.0) (allows ∙ ap chosen r.0))
  made-not NoEvents.NoTopic allows r = absurd r
  made-not NoEvents.WrongKind allows r = absurd r
  made-not NoEvents.NotLive allows r = absurd r
  made-not NoEvents.NoSender allows r = absurd r
  made-not NoEvents.Blocked allows r = absurd r

  -- what is said of a call that was allowed
  pub says-by : (said : Result (Receipt C R) NoEvent) → call ≡ Some c → seen-replies ≡ seen-room →
      IfOk said (λ receipt. made ≡ (receipt.reply, new)) → IfOk said (λ receipt. receipt ≡ receipt_of old c receipt.reply) →
      OnOk said (is_full old (live_after m old.state c) ≡ false) → IfErr said (λ why. RefusesEvent old new (live_after m old.state c) why) →
      CallSays seen-replies call old said new
  says-by (Ok receipt) is allows event shape room refused =
      let same : receipt.call ≡ c = ap (λ (r : Receipt C R). r.call) shape in (
        inl (made-ok receipt.reply allows room event),
        (is ∙ ap (λ (k : C). Some k) (sym same), shape ∙ ap (λ (k : C). receipt_of old k receipt.reply) (sym same)),
      )
  says-by (Err why) is allows event shape room refused = (made-not why allows refused, tt)

module _ {E S C R : Type 0} (m : Machine E S C R) (has_sender : S → TxId → Bool) (has_receiver : S → RxId → Bool)
    (waits : C → R → Bool) (old : History S S C R) (call : Option C) (c : C) (new : History S S C R) where
  -- the same, where the receipt is not kept
  pub keeps-by : (kept : Result (Unit {0}) NoEvent) → call ≡ Some c →
      hub_replies (seen_by m has_sender has_receiver) waits old false call ≡ if_room (seen_by m has_sender has_receiver) old c →
      OnOk kept (recorded old c (m.answer old.state c) ≡ ((m.answer old.state c).0, new)) →
      OnOk kept (is_full old (live_after m old.state c) ≡ false) → IfErr kept (λ why. RefusesEvent old new (live_after m old.state c) why) →
      KindKeeps m has_sender has_receiver waits old call kept new
  keeps-by (Ok _) is allows event room refused =
      let reply = (m.answer old.state c).0 in (
        Ok (receipt_of old c reply),
        (inl (made-ok m has_sender has_receiver waits old false call c new reply allows room event), (is, refl)),
        ap (λ (p : R × History S S C R). last_reply p.1.entries) (sym event) ∙ last-behind old.entries (c, reply),
      )
  keeps-by (Err why) is allows event room refused =
      (Err why, (made-not m has_sender has_receiver waits old false call c new why allows refused, tt), refl)

-- what came of a call of a kind, as of a channel of any kind
abbrev of_kind : {C R : Type 0} → (Receipt C R → ChannelReceipt) → Result (Receipt C R) NoEvent → Result ChannelReceipt NoEvent
of_kind in_receipt (Ok receipt) = Ok (in_receipt receipt)
of_kind in_receipt (Err why) = Err why

module _ {E S C R : Type 0} (m : Machine E S C R) (has_sender : S → TxId → Bool) (has_receiver : S → RxId → Bool)
    (in_channel : History S S C R → SeenChannel) (in_receipt : Receipt C R → ChannelReceipt) (in_reply : R → ChannelReply)
    (same : (r : Receipt C R) → reply_in (in_receipt r) ≡ in_reply r.reply) (old new : History S S C R) where
  abbrev came_so : Result R NoEvent → EventResult
  came_so said = came (λ reply. Replied (in_reply reply)) said

  abbrev receipt_so : Result R NoEvent → Option C → Option (Receipt C R)
  receipt_so said call = receipted (seen_by m has_sender has_receiver) old said call

  abbrev told-so : Option C → Result R NoEvent × History S S C R → (EventResult × Option ChannelReceipt) × SeenChannel
  told-so call s = ((came_so s.0, option_map in_receipt (receipt_so s.0 call)), in_channel s.1)

  takes-so : (takes : EventResult → Bool) → ((o : Outcome) → takes (Ok o) ≡ true) → (s : Result R NoEvent) → is_ok s ≡ true →
      takes (came_so s) ≡ true
  takes-so takes all (Ok reply) h = all _
  takes-so takes all (Err why) h = absurd (let bad : ⊥ = cc in bad)

  -- what a call of the kind says is what the channel says of the event
  pub tells-so : (takes : EventResult → Bool) → ((o : Outcome) → takes (Ok o) ≡ true) → (s : Result R NoEvent × History S S C R)
      (call : Option C) (said : Result (Receipt C R) NoEvent) → CallSays s call old said new →
      NotesOrShort takes (told-so call s) (in_channel old) (replied (of_kind in_receipt said)) (in_channel new)
  tells-so takes all s call (Ok receipt) (inl e, (is, shape)) = inl (
      ap (told-so call) e
      ∙ ap (λ (k : Option C). told-so k (Ok receipt.reply, new)) is
      ∙ ap (λ (r : Receipt C R). ((Ok (Replied (in_reply receipt.reply)), Some (in_receipt r)), in_channel new)) (sym shape)
      ∙ ap (λ (reply : ChannelReply). ((Ok (Replied reply), Some (in_receipt receipt)), in_channel new)) (sym (same receipt))
      )
  tells-so takes all s call (Ok receipt) (inr h, shape) = absurd (let no = h.0 in let bad : ⊥ = cc in bad)
  tells-so takes all s call (Err why) (inl e, shape) = inl (ap (told-so call) e)
  tells-so takes all s call (Err why) (inr h, shape) = inr (
    ap (λ (x : Result R NoEvent). (came_so x, None)) h.0,
    ap in_channel h.1,
    takes-so takes all s.0 h.2,
  )

-- what an actor's own sender or receiver does
abbrev pub IsOwn : Event → Type 0
IsOwn (Sends t verb) = Unit {0}
IsOwn (Receives r verb) = Unit {0}
IsOwn event = ⊥

abbrev pub of_broadcast : Result BroadcastReceipt NoEvent → Result ChannelReceipt NoEvent
of_broadcast = of_kind (λ receipt. Broadcast receipt)

abbrev pub of_watch : Result WatchReceipt NoEvent → Result ChannelReceipt NoEvent
of_watch = of_kind (λ receipt. Watch receipt)

-- what a call of a broadcast channel says is what the channel says of the event
pub broadcast-tells : (event : Event) → IsOwn event → (old new : SeenBroadcast) (came : Result BroadcastReceipt NoEvent) →
    KindSays machines.broadcast (λ p tx. is_sender p.senders tx.0) (λ p rx. is_some (place_of p.window.places rx.0)) broadcast_waits
    old false (broadcast_call event) came new →
    ChannelTells (Broadcast old) event (replied (of_broadcast came)) (Broadcast new)
broadcast-tells (Sends t verb) own old new came says =
    tells-so machines.broadcast (λ p tx. is_sender p.senders tx.0) (λ p rx. is_some (place_of p.window.places rx.0))
    (λ h. Broadcast h) (λ r. Broadcast r) (λ r. Broadcast r) (λ r. refl) old new (takes_memory (Sends t verb)) (λ o. refl)
    (hub_replies seen_broadcast broadcast_waits old false (broadcast_call (Sends t verb))) (broadcast_call (Sends t verb)) came says
broadcast-tells (Receives r verb) own old new came says =
    tells-so machines.broadcast (λ p tx. is_sender p.senders tx.0) (λ p rx. is_some (place_of p.window.places rx.0))
    (λ h. Broadcast h) (λ r. Broadcast r) (λ r. Broadcast r) (λ r. refl) old new (takes_memory (Receives r verb)) (λ o. refl)
    (hub_replies seen_broadcast broadcast_waits old false (broadcast_call (Receives r verb))) (broadcast_call (Receives r verb)) came says
broadcast-tells Binds own old new came says = absurd own
broadcast-tells (Subscribes start by) own old new came says = absurd own
broadcast-tells (Asks by question) own old new came says = absurd own
broadcast-tells (Resubscribes r) own old new came says = absurd own
broadcast-tells (DropsTx by) own old new came says = absurd own
broadcast-tells (DropsRx r) own old new came says = absurd own

-- and of a watch channel
pub watch-tells : (event : Event) → IsOwn event → (old new : SeenWatch) (came : Result WatchReceipt NoEvent) →
    KindSays (machines.watch (pointwise nat_eq)) (λ p tx. is_sender p.senders tx.0) (λ p rx. is_some (reader_of p.readers rx.0))
    watch_waits old false (watch_call event) came new →
    ChannelTells (Watch old) event (replied (of_watch came)) (Watch new)
watch-tells (Sends t verb) own old new came says =
    tells-so (machines.watch (pointwise nat_eq)) (λ p tx. is_sender p.senders tx.0) (λ p rx. is_some (reader_of p.readers rx.0))
    (λ h. Watch h) (λ r. Watch r) (λ r. Watch r) (λ r. refl) old new (takes_memory (Sends t verb)) (λ o. refl)
    (hub_replies seen_watch watch_waits old false (watch_call (Sends t verb))) (watch_call (Sends t verb)) came says
watch-tells (Receives r verb) own old new came says =
    tells-so (machines.watch (pointwise nat_eq)) (λ p tx. is_sender p.senders tx.0) (λ p rx. is_some (reader_of p.readers rx.0))
    (λ h. Watch h) (λ r. Watch r) (λ r. Watch r) (λ r. refl) old new (takes_memory (Receives r verb)) (λ o. refl)
    (hub_replies seen_watch watch_waits old false (watch_call (Receives r verb))) (watch_call (Receives r verb)) came says
watch-tells Binds own old new came says = absurd own
watch-tells (Subscribes start by) own old new came says = absurd own
watch-tells (Asks by question) own old new came says = absurd own
watch-tells (Resubscribes r) own old new came says = absurd own
watch-tells (DropsTx by) own old new came says = absurd own
watch-tells (DropsRx r) own old new came says = absurd own

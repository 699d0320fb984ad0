-- Who waits goes on waiting until there is news.
use Rattle.std.proofs.Common.{◌≡◌, ◌≢◌, ℕ, ◌+◌, ◌-◌, ◌^◌, true, false, not, ◌||◌, cond, eqb, ltb, length, List, Option, Some, None, slice_get, refl, sym, ap, subst, ◌∙◌}
use Rattle.std.proofs.lemmas.Bool.{false≢true, eqb-true}
use Rattle.th_model.specs.declared.handles.RxId.{RxId}
use Rattle.th_model.specs.declared.broadcast.BCall.{BCall}
use Rattle.th_model.specs.declared.broadcast.BCall.TheVariants.{Send, TryRecv, Recv, Subscribe, SubscribeOldest, Resubscribe, CloneTx, DropTx, DropRx, Queued, Left, Readers}
use Rattle.th_model.specs.declared.broadcast.BReply.{BReply}
use Rattle.th_model.specs.declared.broadcast.BReply.TheVariants.{Sent, NoReceivers, Exhausted, Lagged, NewRx, NewTx, Count, Done, TooMany, NoHandle}
use Rattle.th_model.specs.Handles.{is_sender, with_sender, without_sender, is_full}
use Rattle.th_model.specs.Places.{place_of}
use Rattle.th_model.specs.Window.{placed, left, trimmed, pushed, first_of}
use Rattle.th_model.specs.BroadcastMachine.{value_reply, end_reply}
use Rattle.th_model.specs.BroadcastPicture.{Picture, IsSound, answer, is_ready, is_ready_at, send, receive, subscribe_at, clone_sender, at_place, numbered, with_window}
use Rattle.th_model.proofs.PlaceLemmas.{place-with_other, place-without_other}
use Rattle.th_model.proofs.HandleLemmas.{next_is_free}
use Rattle.th_news.specs.News.{IsAnothers, IsSent}

-- another list of senders, of which some are left, and the same place
stays : (tail : ℕ) (senders senders' : List ℕ) (o o' : Option ℕ) → o' ≡ o → is_ready_at tail senders o ≡ false →
    (length senders' ≡ 0 → ⊥) → is_ready_at tail senders' o' ≡ false
stays tail senders senders' None o' same w some = absurd (false≢true (sym w))
stays tail senders senders' (Some i) o' same w some = subst (λ o. is_ready_at tail senders' o ≡ false) (sym same)
    (elim (eqb i tail) as (λ b. (not b || eqb (length senders) 0) ≡ false → (not b || eqb (length senders') 0) ≡ false) [
      | true ↦ λ _. elim (eqb (length senders') 0) as (λ b. eqb (length senders') 0 ≡ b → b ≡ false) [
        | true ↦ λ e. absurd (some (eqb-true (length senders') 0 e))
        | false ↦ λ _. refl
      ] refl
      | false ↦ λ h. absurd (false≢true (sym h))
    ] w)

some-there : (tail : ℕ) (senders : List ℕ) → is_ready_at tail senders None ≡ false → ⊥
some-there tail senders w = false≢true (sym w)

module _ {T : Type 0} where
  abbrev Goes : RxId → BReply T × Picture T → Type 0
  Goes rx s = (IsSent s.0 → ⊥) → (length s.1.senders ≡ 0 → ⊥) → is_ready s.1 (Recv rx) ≡ false

  module _ (p : Picture T) (s : IsSound p) (rx : RxId) (w : is_ready p (Recv rx) ≡ false) where
    same : (reply : BReply T) → Goes rx (reply, p)
    same reply sent some = w

    -- a receiver's place is another
    moved : (reply : BReply T) (r i : ℕ) → rx.0 ≢ r → Goes rx (reply, with_window p (placed p.window r i))
    unfolding placed trimmed
    moved reply r i other sent some = stays p.window.tail p.senders p.senders (place_of p.window.places rx.0) _
        (place-with_other p.window.places r i rx.0 other) w some

    gone : (reply : BReply T) (r : ℕ) → rx.0 ≢ r → Goes rx (reply, with_window p (left p.window r))
    unfolding left trimmed
    gone reply r other sent some = stays p.window.tail p.senders p.senders (place_of p.window.places rx.0) _
        (place-without_other p.window.places r rx.0 other) w some

    not_next : rx.0 ≢ p.next
    not_next e = some-there p.window.tail p.senders
        (subst (λ o. is_ready_at p.window.tail p.senders o ≡ false)
        (ap (place_of p.window.places) e ∙ next_is_free p.next p.senders p.window.places s.handles) w)

    -- other senders
    others : (reply : BReply T) (senders : List ℕ) → Goes rx (reply, record p { senders = senders })
    others reply senders sent some = stays p.window.tail p.senders senders (place_of p.window.places rx.0)
        (place_of p.window.places rx.0) refl w some

    by_sender : (tx : ℕ) (back : Option T) (given : BReply T × Picture T) → Goes rx given → Goes rx
        (cond (is_sender p.senders tx) given (NoHandle back, p))
    by_sender tx back given goes = elim (is_sender p.senders tx) as (λ b. Goes rx (cond b given (NoHandle back, p)))
        [ true ↦ goes | false ↦ same (NoHandle back) ]

    by_receiver : (o : Option ℕ) (given : ℕ → BReply T × Picture T) → ((i : ℕ) → Goes rx (given i)) → Goes rx (at_place p o given)
    by_receiver None given goes = same (NoHandle None)
    by_receiver (Some i) given goes = goes i

    sends : (v : T) → Goes rx (send p v)
    sends v =
        elim (eqb (length p.window.places) 0) as (λ b. Goes rx
        (cond b (NoReceivers v, p)
        (cond (eqb p.window.tail (2 ^ 64 - 1)) (Exhausted v, p) (Sent (length p.window.places), with_window p (pushed p.window v))))) [
          | true ↦ same (NoReceivers v)
          | false ↦
              elim (eqb p.window.tail (2 ^ 64 - 1)) as (λ b. Goes rx
              (cond b (Exhausted v, p) (Sent (length p.window.places), with_window p (pushed p.window v)))) [
                | true ↦ same (Exhausted v)
                | false ↦ λ sent some. absurd (sent (length p.window.places, refl))
              ]
        ]

    receives : (r i : ℕ) → rx.0 ≢ r → Goes rx (receive p r i)
    receives r i other =
        elim (eqb i p.window.tail) as (λ b. Goes rx
        (cond b (end_reply p.senders, p)
        (cond (ltb i (first_of p.window)) (Lagged (first_of p.window - i), with_window p (placed p.window r (first_of p.window)))
        (value_reply (slice_get p.window.kept (i - p.window.low)), with_window p (placed p.window r (i + 1)))))) [
          | true ↦ same (end_reply p.senders)
          | false ↦
              elim (ltb i (first_of p.window)) as (λ b. Goes rx
              (cond b (Lagged (first_of p.window - i), with_window p (placed p.window r (first_of p.window)))
              (value_reply (slice_get p.window.kept (i - p.window.low)), with_window p (placed p.window r (i + 1))))) [
                | true ↦ moved _ r (first_of p.window) other
                | false ↦ moved _ r (i + 1) other
              ]
        ]

    subscribes : (i : ℕ) → Goes rx (subscribe_at p i)
    subscribes i =
        elim (is_full (length p.window.places) p.next) as (λ b. Goes rx
        (cond b (TooMany, p) (NewRx (record { 0 = p.next }), numbered (with_window p (placed p.window p.next i))))) [
          | true ↦ same TooMany
          | false ↦ moved (NewRx (record { 0 = p.next })) p.next i not_next
        ]

    clones : Goes rx (clone_sender p)
    clones = elim (is_full (length p.senders) p.next) as (λ b. Goes rx
        (cond b (TooMany, p) (NewTx (record { 0 = p.next }), numbered (record p { senders = with_sender p.senders p.next })))) [
          | true ↦ same TooMany
          | false ↦ others (NewTx (record { 0 = p.next })) (with_sender p.senders p.next)
        ]

    pub waits_on : (call : BCall T) → IsAnothers rx.0 call → Goes rx (answer p call)
    waits_on (Send tx v) other = by_sender tx.0 (Some v) (send p v) (sends v)
    waits_on (TryRecv r) other = by_receiver (place_of p.window.places r.0) (receive p r.0) (λ i. receives r.0 i other)
    waits_on (Recv r) other = by_receiver (place_of p.window.places r.0) (receive p r.0) (λ i. receives r.0 i other)
    waits_on (Subscribe tx) other = by_sender tx.0 None (subscribe_at p p.window.tail) (subscribes p.window.tail)
    waits_on (SubscribeOldest tx) other = by_sender tx.0 None (subscribe_at p p.window.low) (subscribes p.window.low)
    waits_on (Resubscribe r) other = by_receiver (place_of p.window.places r.0) (λ _. subscribe_at p p.window.tail)
        (λ _. subscribes p.window.tail)
    waits_on (CloneTx tx) other = by_sender tx.0 None (clone_sender p) clones
    waits_on (DropTx tx) other = by_sender tx.0 None (Done, record p { senders = without_sender p.senders tx.0 })
        (others Done (without_sender p.senders tx.0))
    waits_on (DropRx r) other = by_receiver (place_of p.window.places r.0) (λ _. (Done, with_window p (left p.window r.0)))
        (λ _. gone Done r.0 other)
    waits_on (Queued tx) other = by_sender tx.0 None (Count (p.window.tail - p.window.low), p) (same _)
    waits_on (Left r) other = by_receiver (place_of p.window.places r.0) (λ i. (Count (p.window.tail - i), p)) (λ i. same _)
    waits_on (Readers tx) other = by_sender tx.0 None (Count (length p.window.places), p) (same _)

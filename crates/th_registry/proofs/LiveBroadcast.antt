-- The handles of a broadcast channel that are live after a call, and after an event.
use Rattle.std.proofs.Common.{◌≡◌, ℕ, ◌+◌, ◌-◌, ◌^◌, Bool, true, false, eqb, ltb, List, length, Option, Some, None, slice_get, refl, sym, subst, ◌∙◌}
use Rattle.std.specs.Prelude.{is_some}
use Rattle.std.proofs.lemmas.Bool.{false≢true}
use Rattle.th_model.specs.declared.handles.TxId.{TxId}
use Rattle.th_model.specs.declared.handles.RxId.{RxId}
use Rattle.th_model.specs.declared.broadcast.BCall.{BCall}
use Rattle.th_model.specs.declared.broadcast.BCall.TheVariants.{Send, TryRecv, Recv, Subscribe, SubscribeOldest, Resubscribe, CloneTx, DropTx, DropRx, Queued, Left, Readers}
use Rattle.th_model.specs.declared.broadcast.BReply.{BReply}
use Rattle.th_model.specs.declared.broadcast.BReply.TheVariants.{Empty, Closed, NewRx, NewTx, Done, NoHandle}
use Rattle.th_model.specs.Handles.{is_sender, is_full, without_sender}
use Rattle.th_model.specs.Places.{place_of, with_place, without_place}
use Rattle.th_model.specs.BroadcastMachine.{Endless, tail_of, oldest_of, window_of, with_index, with_senders, IsProper, step, send, receive, value_reply, end_reply, subscribe_at, subscribe, subscribe_oldest, clone_sender, as_sender, at_index, as_receiver}
use Rattle.th_model.proofs.BroadcastProperness.{cond_case}
use Rattle.th_registry.specs.Live.{Handle, Sender, Receiver}
use Rattle.th_registry.proofs.LiveNumbers.{Numbers, Follows, Goes, lives, stands, moves, drops, leaves, clones, joins}

abbrev pub made_by : {T : Type 0} → BReply T → Option Handle
made_by (NewTx t) = Some (Sender t)
made_by (NewRx r) = Some (Receiver r)
made_by reply = None

abbrev pub no_handle : {T : Type 0} → BReply T → Bool
no_handle (NoHandle v) = true
no_handle reply = false

-- the handle by which a call is made, and the one that it spends
abbrev pub speaker : {T : Type 0} → BCall T → Handle
speaker (Send tx v) = Sender tx
speaker (TryRecv r) = Receiver r
speaker (Recv r) = Receiver r
speaker (Subscribe tx) = Sender tx
speaker (SubscribeOldest tx) = Sender tx
speaker (Resubscribe r) = Receiver r
speaker (CloneTx tx) = Sender tx
speaker (DropTx tx) = Sender tx
speaker (DropRx r) = Receiver r
speaker (Queued tx) = Sender tx
speaker (Left r) = Receiver r
speaker (Readers tx) = Sender tx

abbrev pub Spends : {T : Type 0} → BCall T → Handle → Type 0
Spends (DropTx tx) x = x ≡ Sender tx
Spends (DropRx r) x = x ≡ Receiver r
Spends call x = ⊥

abbrev pub numbers : {T : Type 0} → Endless T → Numbers
numbers e = record { next = e.next; senders = e.senders; places = e.index }

module _ {T : Type 0} where
  value-made : (o : Option T) → made_by (value_reply o) ≡ None
  value-made (Some v) = refl
  value-made None = refl

  value-known : (o : Option T) → no_handle (value_reply o) ≡ false
  value-known (Some v) = refl
  value-known None = refl

end-made : (T : Type 0) (senders : List ℕ) → made_by {T = T} (end_reply senders) ≡ None
end-made T senders = cond_case (λ r. made_by {T = T} r ≡ None) (eqb (length senders) 0) Closed Empty (λ _. refl) (λ _. refl)

end-known : (T : Type 0) (senders : List ℕ) → no_handle {T = T} (end_reply senders) ≡ false
end-known T senders = cond_case (λ r. no_handle {T = T} r ≡ false) (eqb (length senders) 0) Closed Empty (λ _. refl) (λ _. refl)

module _ {T : Type 0} (e : Endless T) (s : IsProper e) (gone : Handle → Type 0) where
  abbrev LeadsOn : BReply T × Endless T → Type 0
  LeadsOn x = Follows (numbers e) gone (made_by x.0) (numbers x.1)

  same : LeadsOn (Done, e)
  same = stands (numbers e) gone

  without_new : (r : BReply T) (f : Endless T) → made_by r ≡ None → Goes (numbers e) gone (numbers f) → LeadsOn (r, f)
  without_new r f none g = subst (λ m. Follows (numbers e) gone m (numbers f)) (sym none) g

  by_sender : (tx : TxId) (back : Option T) (given : BReply T × Endless T) → LeadsOn given → LeadsOn (as_sender e tx back given)
  by_sender tx back given h = cond_case LeadsOn (is_sender e.senders tx.0) _ _ (λ _. h) (λ _. same)

  by_receiver : (r : RxId) (given : ℕ → BReply T × Endless T) → ((i : ℕ) → LeadsOn (given i)) → LeadsOn (as_receiver e r given)
  by_receiver r given h = elim (place_of e.index r.0) as (λ o. LeadsOn (at_index e o given)) [ None ↦ same | Some i ↦ h i ]

  sends : (v : T) → LeadsOn (send e v)
  sends v = cond_case LeadsOn (eqb (length e.index) 0) _ _ (λ _. same)
      (λ _. cond_case LeadsOn (eqb (tail_of e) (2 ^ 64 - 1)) _ _ (λ _. same) (λ _. same))

  receives : (r i : ℕ) → LeadsOn (receive e r i)
  receives r i = cond_case LeadsOn (eqb i (tail_of e)) _ _ (λ _. without_new (end_reply e.senders) e (end-made T e.senders) same)
      (λ _. cond_case LeadsOn (ltb i (tail_of e - e.capacity)) _ _
      (λ _. moves (numbers e) gone r (window_of e))
      (λ _. without_new (value_reply (slice_get e.sent (i - e.base))) (with_index e (with_place e.index r (i + 1)))
      (value-made (slice_get e.sent (i - e.base))) (moves (numbers e) gone r (i + 1))))

  pub subscribes_at : (i : ℕ) → LeadsOn (subscribe_at e i)
  subscribes_at i = cond_case LeadsOn (is_full (length e.index) e.next) _ _ (λ _. same) (λ _. joins (numbers e) gone s.handles i)

  clones_sender : LeadsOn (clone_sender e)
  clones_sender = cond_case LeadsOn (is_full (length e.senders) e.next) _ _ (λ _. same) (λ _. clones (numbers e) gone s.handles)

-- one call
pub call_follows : {T : Type 0} (e : Endless T) (call : BCall T) (gone : Handle → Type 0) → IsProper e →
    ((x : Handle) → Spends call x → gone x) →
    Follows (numbers e) gone (made_by (step e call).0) (numbers (step e call).1)
call_follows e (Send tx v) gone s ends = by_sender e s gone tx (Some v) (send e v) (sends e s gone v)
call_follows e (TryRecv r) gone s ends = by_receiver e s gone r (receive e r.0) (receives e s gone r.0)
call_follows e (Recv r) gone s ends = by_receiver e s gone r (receive e r.0) (receives e s gone r.0)
call_follows e (Subscribe tx) gone s ends = by_sender e s gone tx None (subscribe e) (subscribes_at e s gone (tail_of e))
call_follows e (SubscribeOldest tx) gone s ends = by_sender e s gone tx None (subscribe_oldest e) (subscribes_at e s gone (oldest_of e))
call_follows e (Resubscribe r) gone s ends = by_receiver e s gone r (λ _. subscribe e) (λ _. subscribes_at e s gone (tail_of e))
call_follows e (CloneTx tx) gone s ends = by_sender e s gone tx None (clone_sender e) (clones_sender e s gone)
call_follows e (DropTx tx) gone s ends =
    by_sender e s gone tx None (Done, with_senders e (without_sender e.senders tx.0)) (drops (numbers e) gone tx (ends (Sender tx) refl))
call_follows e (DropRx r) gone s ends =
    by_receiver e s gone r (λ _. (Done, with_index e (without_place e.index r.0))) (λ _. leaves (numbers e) gone r (ends (Receiver r) refl))
call_follows e (Queued tx) gone s ends = by_sender e s gone tx None _ (stands (numbers e) gone)
call_follows e (Left r) gone s ends = by_receiver e s gone r _ (λ _. stands (numbers e) gone)
call_follows e (Readers tx) gone s ends = by_sender e s gone tx None _ (stands (numbers e) gone)

-- a call by a live handle is not answered that there is none
module _ {T : Type 0} (e : Endless T) where
  abbrev IsKnown : BReply T × Endless T → Type 0
  IsKnown x = no_handle x.0 ≡ false

  known_sender : (tx : TxId) (back : Option T) (given : BReply T × Endless T) → is_sender e.senders tx.0 ≡ true → IsKnown given →
      IsKnown (as_sender e tx back given)
  known_sender tx back given live h = cond_case IsKnown (is_sender e.senders tx.0) _ _ (λ _. h) (λ no. absurd (false≢true (sym no ∙ live)))

  known_receiver : (r : RxId) (given : ℕ → BReply T × Endless T) → is_some (place_of e.index r.0) ≡ true → ((i : ℕ) → IsKnown (given i)) →
      IsKnown (as_receiver e r given)
  known_receiver r given live h = elim (place_of e.index r.0) as (λ o. is_some o ≡ true → IsKnown (at_index e o given))
      [ None ↦ λ no. absurd (false≢true no) | Some i ↦ λ _. h i ] live

  known_receive : (r i : ℕ) → IsKnown (receive e r i)
  known_receive r i =
      cond_case IsKnown (eqb i (tail_of e)) _ _ (λ _. end-known T e.senders) (λ _. cond_case IsKnown (ltb i (tail_of e - e.capacity)) _ _
      (λ _. refl) (λ _. value-known (slice_get e.sent (i - e.base))))

  known_subscribe : (i : ℕ) → IsKnown (subscribe_at e i)
  known_subscribe i = cond_case IsKnown (is_full (length e.index) e.next) _ _ (λ _. refl) (λ _. refl)

  pub call_known : (call : BCall T) → lives (numbers e) (speaker call) ≡ true → no_handle (step e call).0 ≡ false
  call_known (Send tx v) h = known_sender tx (Some v) (send e v) h
      (cond_case IsKnown (eqb (length e.index) 0) _ _ (λ _. refl)
      (λ _. cond_case IsKnown (eqb (tail_of e) (2 ^ 64 - 1)) _ _ (λ _. refl) (λ _. refl)))
  call_known (TryRecv r) h = known_receiver r (receive e r.0) h (known_receive r.0)
  call_known (Recv r) h = known_receiver r (receive e r.0) h (known_receive r.0)
  call_known (Subscribe tx) h = known_sender tx None (subscribe e) h (known_subscribe (tail_of e))
  call_known (SubscribeOldest tx) h = known_sender tx None (subscribe_oldest e) h (known_subscribe (oldest_of e))
  call_known (Resubscribe r) h = known_receiver r (λ _. subscribe e) h (λ _. known_subscribe (tail_of e))
  call_known (CloneTx tx) h =
      known_sender tx None (clone_sender e) h (cond_case IsKnown (is_full (length e.senders) e.next) _ _ (λ _. refl) (λ _. refl))
  call_known (DropTx tx) h = known_sender tx None _ h refl
  call_known (DropRx r) h = known_receiver r _ h (λ _. refl)
  call_known (Queued tx) h = known_sender tx None _ h refl
  call_known (Left r) h = known_receiver r _ h (λ _. refl)
  call_known (Readers tx) h = known_sender tx None _ h refl

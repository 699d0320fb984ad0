-- Before a call makes a receiver, and from its drop on, nothing is told to its number.
use Rattle.std.proofs.Common.{◌≡◌, ℕ, ◌-◌, ◌<◌, ◌≤◌, ◌^◌, true, false, cond, eqb, ltb, List, [], ◌∷◌, ◌++◌, length, Option, Some, None, slice_get, refl, sym, ap, subst, ◌∙◌, arith}
use Rattle.std.specs.List.{AllByRecursion}
use Rattle.std.specs.Map.{keys_of}
use Rattle.std.proofs.lemmas.Bool.{eqb-true, ltb-true, ltb-false}
use Rattle.std.proofs.lemmas.List.{append-nil, append_assoc}
use Rattle.std.proofs.lemmas.Option.{none-some}
use Rattle.std.specs.Ordering.{is_eq, nat_cmp}
use Rattle.std.specs.declared.cmp.Ordering.TheVariants.{Less, Equal, Greater}
use Rattle.std.proofs.lemmas.Cmp.{ranked}
use Rattle.th_model.specs.declared.handles.TxId.{TxId}
use Rattle.th_model.specs.declared.handles.RxId.{RxId}
use Rattle.th_model.specs.declared.broadcast.BCall.{BCall}
use Rattle.th_model.specs.declared.broadcast.BCall.TheVariants.{Send, TryRecv, Recv, Subscribe, SubscribeOldest, Resubscribe, CloneTx, DropTx, DropRx, Queued, Left, Readers}
use Rattle.th_model.specs.declared.broadcast.BReply.{BReply}
use Rattle.th_model.specs.declared.broadcast.BReply.TheVariants.{NewRx}
use Rattle.th_model.specs.Handles.{is_sender, is_full, IsRising}
use Rattle.th_model.specs.Places.{Places, place_of, with_place, without_place}
use Rattle.th_model.specs.BroadcastMachine.{Endless, IsProper, step, tail_of, oldest_of, with_index, value_reply, send, receive, subscribe_at, subscribe, subscribe_oldest, clone_sender, as_sender, at_index, as_receiver}
use Rattle.th_model.specs.Delivery.{told, told_to}
use Rattle.th_model.proofs.BroadcastProperness.{cond_case, step_proper}
use Rattle.th_model.proofs.HandleLemmas.{all_given}
use Rattle.th_model.proofs.PlaceLemmas.{none_above, none_below, place-with_other, place-without_other}
use Rattle.th_accounts.specs.Clients.{BeginsWithItsDrop}
use Rattle.th_accounts.specs.Received.{IsRun, end_of}
use Rattle.th_accounts.proofs.Received.{told_of}

below : (next rx : ℕ) (ks : List ℕ) → next ≤ rx → AllByRecursion (λ k. k < next) ks → AllByRecursion (λ k. k < rx) ks
below next rx [] le h = tt
below next rx (k ∷ ks) le h = (omega (arith, le, h.0), below next rx ks le h.1)

-- a receiver that left has no place
not_left : (ps : Places) (rx : ℕ) → IsRising (keys_of ps) → place_of (without_place ps rx) rx ≡ None
not_left [] rx r = refl
not_left (p ∷ ps) rx r = elim (nat_cmp rx p.0) as
    (λ q. q ≡ nat_cmp rx p.0 → place_of (cond (is_eq q) ps (p ∷ without_place ps rx)) rx ≡ None) [
      | Less ↦ λ e. rw (sym e) (not_left ps rx r.1)
      | Equal ↦ λ e. none_below ps rx (subst (λ k. AllByRecursion (λ x. k < x) (keys_of ps)) (sym (ranked rx p.0 Equal e)) r.0)
      | Greater ↦ λ e. rw (sym e) (not_left ps rx r.1)
    ] refl

module _ {T : Type 0} where
  -- numbers are given out one after another, and a new receiver has the next one
  record Numbers (e : Endless T) (x : BReply T × Endless T) : Type 0 where
    pub rise : e.next ≤ x.1.next
    pub new : (rx : RxId) → x.0 ≡ NewRx rx → rx.0 ≡ e.next

  module _ (e : Endless T) where
    abbrev new_rx : RxId → BReply T
    new_rx r = NewRx r

    joins : (i : ℕ) → Numbers e (subscribe_at e i)
    joins i = cond_case (Numbers e) (is_full (length e.index) e.next) _ _
        (λ _. record { rise = omega arith; new = λ rx h. cc })
        (λ _. record { rise = omega arith; new = λ rx h. cc })

    by_sender : (tx : TxId) (back : Option T) (given : BReply T × Endless T) → Numbers e given → Numbers e (as_sender e tx back given)
    by_sender tx back given h =
        cond_case (Numbers e) (is_sender e.senders tx.0) _ _ (λ _. h) (λ _. record { rise = omega arith; new = λ rx h. cc })

    by_receiver : (r : RxId) (given : ℕ → BReply T × Endless T) → ((i : ℕ) → Numbers e (given i)) → Numbers e (as_receiver e r given)
    by_receiver r given h = elim (place_of e.index r.0) as (λ o. Numbers e (at_index e o given)) [
      | None ↦ record { rise = omega arith; new = λ rx h. cc }
      | Some i ↦ h i
    ]

    receives : (r i : ℕ) → Numbers e (receive e r i)
    receives r i = cond_case (Numbers e) (eqb i (tail_of e)) _ _
        (λ _. cond_case (λ (reply : BReply T). Numbers e (reply, e)) (eqb (length e.senders) 0) _ _
        (λ _. record { rise = omega arith; new = λ rx h. cc }) (λ _. record { rise = omega arith; new = λ rx h. cc }))
        (λ _. cond_case (Numbers e) (ltb i (tail_of e - e.capacity)) _ _
        (λ _. record { rise = omega arith; new = λ rx h. cc }) (λ _. reads (slice_get e.sent (i - e.base)) _))
      where
        reads : (o : Option T) (index : List (ℕ × ℕ)) → Numbers e (value_reply o, with_index e index)
        reads None index = record { rise = omega arith; new = λ rx h. cc }
        reads (Some v) index = record { rise = omega arith; new = λ rx h. cc }

    sends : (v : T) → Numbers e (send e v)
    sends v = cond_case (Numbers e) (eqb (length e.index) 0) _ _ (λ _. record { rise = omega arith; new = λ rx h. cc })
        (λ _. cond_case (Numbers e) (eqb (tail_of e) (2 ^ 64 - 1)) _ _ (λ _. record { rise = omega arith; new = λ rx h. cc })
        (λ _. record { rise = omega arith; new = λ rx h. cc }))

    clones : Numbers e (clone_sender e)
    clones = cond_case (Numbers e) (is_full (length e.senders) e.next) _ _
        (λ _. record { rise = omega arith; new = λ rx h. cc }) (λ _. record { rise = omega arith; new = λ rx h. cc })

    numbers : (c : BCall T) → Numbers e (step e c)
    numbers (Send tx v) = by_sender tx (Some v) (send e v) (sends v)
    numbers (TryRecv r) = by_receiver r (receive e r.0) (receives r.0)
    numbers (Recv r) = by_receiver r (receive e r.0) (receives r.0)
    numbers (Subscribe tx) = by_sender tx None (subscribe e) (joins (tail_of e))
    numbers (SubscribeOldest tx) = by_sender tx None (subscribe_oldest e) (joins (oldest_of e))
    numbers (Resubscribe r) = by_receiver r (λ _. subscribe e) (λ _. joins (tail_of e))
    numbers (CloneTx tx) = by_sender tx None (clone_sender e) clones
    numbers (DropTx tx) = by_sender tx None _ (record { rise = omega arith; new = λ rx h. cc })
    numbers (DropRx r) = by_receiver r _ (λ _. record { rise = omega arith; new = λ rx h. cc })
    numbers (Queued tx) = by_sender tx None _ (record { rise = omega arith; new = λ rx h. cc })
    numbers (Left r) = by_receiver r _ (λ _. record { rise = omega arith; new = λ rx h. cc })
    numbers (Readers tx) = by_sender tx None _ (record { rise = omega arith; new = λ rx h. cc })

  -- a number that was not given out yet has no place
  no_place : (e : Endless T) (rx : ℕ) → IsProper e → e.next ≤ rx → place_of e.index rx ≡ None
  no_place e rx s le =
      none_above e.index rx (below e.next rx (keys_of e.index) le (all_given e.next (keys_of e.index) s.handles.by_receiver.given))

  -- and nothing is told to it
  asks_in_vain : (e : Endless T) (rx : ℕ) (r : RxId) → place_of e.index rx ≡ None →
      cond (eqb r.0 rx) (told (as_receiver e r (receive e r.0)).0) [] ≡ []
  asks_in_vain e rx r none = cond_case (λ (xs : List (Option T)). xs ≡ []) (eqb r.0 rx) _ _
      (λ is. rw (ap (place_of e.index) (eqb-true r.0 rx is) ∙ none) refl) (λ _. refl)

  in_vain : (e : Endless T) (rx : ℕ) (c : BCall T) → place_of e.index rx ≡ None → told_to rx c (step e c).0 ≡ []
  in_vain e rx (TryRecv r) none = asks_in_vain e rx r none
  in_vain e rx (Recv r) none = asks_in_vain e rx r none
  in_vain e rx (Send tx v) none = refl
  in_vain e rx (Subscribe tx) none = refl
  in_vain e rx (SubscribeOldest tx) none = refl
  in_vain e rx (Resubscribe r) none = refl
  in_vain e rx (CloneTx tx) none = refl
  in_vain e rx (DropTx tx) none = refl
  in_vain e rx (DropRx r) none = refl
  in_vain e rx (Queued tx) none = refl
  in_vain e rx (Left r) none = refl
  in_vain e rx (Readers tx) none = refl

  -- nor by the making
  none_by_making : (rx : ℕ) (c : BCall T) (r : RxId) → told_to rx c (NewRx r) ≡ []
  none_by_making rx (TryRecv q) r = cond_case (λ (xs : List (Option T)). xs ≡ []) (eqb q.0 rx) _ _ (λ _. refl) (λ _. refl)
  none_by_making rx (Recv q) r = cond_case (λ (xs : List (Option T)). xs ≡ []) (eqb q.0 rx) _ _ (λ _. refl) (λ _. refl)
  none_by_making rx (Send tx v) r = refl
  none_by_making rx (Subscribe tx) r = refl
  none_by_making rx (SubscribeOldest tx) r = refl
  none_by_making rx (Resubscribe q) r = refl
  none_by_making rx (CloneTx tx) r = refl
  none_by_making rx (DropTx tx) r = refl
  none_by_making rx (DropRx q) r = refl
  none_by_making rx (Queued tx) r = refl
  none_by_making rx (Left q) r = refl
  none_by_making rx (Readers tx) r = refl

  -- ---- runs that go on
  pub end_proper : (e : Endless T) (es : List (BCall T × BReply T)) → IsProper e → IsProper (end_of e es)
  end_proper e [] s = s
  end_proper e (x ∷ es) s = end_proper (step e x.0).1 es (step_proper e x.0 s)

  pub end_after : (e : Endless T) (es fs : List (BCall T × BReply T)) → end_of e (es ++ fs) ≡ end_of (end_of e es) fs
  end_after e [] fs = refl
  end_after e (x ∷ es) fs = end_after (step e x.0).1 es fs

  pub run_after : (e : Endless T) (es fs : List (BCall T × BReply T)) → IsRun e (es ++ fs) → IsRun (end_of e es) fs
  run_after e [] fs h = h
  run_after e (x ∷ es) fs h = run_after (step e x.0).1 es fs h.1

  pub run_before : (e : Endless T) (es fs : List (BCall T × BReply T)) → IsRun e (es ++ fs) → IsRun e es
  run_before e [] fs h = tt
  run_before e (x ∷ es) fs h = (h.0, run_before (step e x.0).1 es fs h.1)

  run_rises : (e : Endless T) (es : List (BCall T × BReply T)) → e.next ≤ (end_of e es).next
  run_rises e [] = omega arith
  run_rises e (x ∷ es) = omega (arith, (numbers e x.0).rise, run_rises (step e x.0).1 es)

  told_both : (rx : ℕ) (es fs : List (BCall T × BReply T)) → told_of rx (es ++ fs) ≡ told_of rx es ++ told_of rx fs
  told_both rx [] fs = refl
  told_both rx (x ∷ es) fs = ap (λ xs. told_to rx x.0 x.1 ++ xs) (told_both rx es fs)
      ∙ sym (append_assoc (told_to rx x.0 x.1) (told_of rx es) (told_of rx fs))

  -- what all entries tell the receiver is what those do that come after its making
  pub told_since : (e : Endless T) (before : List (BCall T × BReply T)) (making : BCall T)
      (behind : List (BCall T × BReply T)) (rx : RxId) → IsProper e → IsRun e (before ++ (making, NewRx rx) ∷ behind) →
      told_of rx.0 (before ++ (making, NewRx rx) ∷ behind) ≡ told_of rx.0 behind
  told_since e [] making behind rx s h = ap (λ xs. xs ++ told_of rx.0 behind) (none_by_making rx.0 making rx)
  told_since e (x ∷ before) making behind rx s h =
      let made = run_after e (x ∷ before) ((making, NewRx rx) ∷ behind) h in
      let given : rx.0 ≡ (end_of e (x ∷ before)).next = (numbers (end_of e (x ∷ before)) making).new rx (sym made.0) in
      let early : e.next ≤ rx.0 = omega (arith, given, run_rises e (x ∷ before)) in
      let none : told_to rx.0 x.0 x.1 ≡ [] = ap (told_to rx.0 x.0) h.0 ∙ in_vain e rx.0 x.0 (no_place e rx.0 s early) in
      ap (λ xs. xs ++ told_of rx.0 (before ++ (making, NewRx rx) ∷ behind)) none
      ∙ told_since (step e x.0).1 before making behind rx (step_proper e x.0 s) h.1

  -- ---- from its drop on
  -- the number was given out, and no receiver has it
  record IsGone (e : Endless T) (rx : ℕ) : Type 0 where
    pub none : place_of e.index rx ≡ None
    pub given : rx < e.next

  module _ (e : Endless T) (rx : ℕ) (g : IsGone e rx) where
    abbrev Gone : BReply T × Endless T → Type 0
    Gone x = IsGone x.1 rx

    other : (r i : ℕ) → place_of e.index r ≡ Some i → rx ≡ r → ⊥
    other r i here same = none-some i (sym g.none ∙ ap (place_of e.index) same ∙ here)

    moved : (r i j : ℕ) → place_of e.index r ≡ Some i → IsGone (with_index e (with_place e.index r j)) rx
    moved r i j here = record { none = place-with_other e.index r j rx (other r i here) ∙ g.none; given = g.given }

    of_sender : (tx : TxId) (back : Option T) (given : BReply T × Endless T) → Gone given → Gone (as_sender e tx back given)
    of_sender tx back given h = cond_case Gone (is_sender e.senders tx.0) _ _ (λ _. h) (λ _. g)

    of_receiver : (r : RxId) (given : ℕ → BReply T × Endless T) → ((i : ℕ) → place_of e.index r.0 ≡ Some i → Gone (given i)) →
        Gone (as_receiver e r given)
    of_receiver r given h = elim (place_of e.index r.0) as (λ o. place_of e.index r.0 ≡ o → Gone (at_index e o given)) [
      | None ↦ λ _. g
      | Some i ↦ λ here. h i here
    ] refl

    of_receive : (r i : ℕ) → place_of e.index r ≡ Some i → Gone (receive e r i)
    of_receive r i here = cond_case Gone (eqb i (tail_of e)) _ _ (λ _. g)
        (λ _. cond_case Gone (ltb i (tail_of e - e.capacity)) _ _ (λ _. moved r i _ here) (λ _. moved r i _ here))

    of_new : (i : ℕ) → Gone (subscribe_at e i)
    of_new i = cond_case Gone (is_full (length e.index) e.next) _ _ (λ _. g) (λ _. record {
      none = place-with_other e.index e.next i rx (λ same. omega (arith, same, g.given)) ∙ g.none;
      given = omega (arith, g.given);
    })

    stays_gone : (c : BCall T) → Gone (step e c)
    stays_gone (Send tx v) = of_sender tx (Some v) (send e v) (cond_case Gone (eqb (length e.index) 0) _ _ (λ _. g)
        (λ _. cond_case Gone (eqb (tail_of e) (2 ^ 64 - 1)) _ _ (λ _. g) (λ _. record { none = g.none; given = g.given })))
    stays_gone (TryRecv r) = of_receiver r (receive e r.0) (of_receive r.0)
    stays_gone (Recv r) = of_receiver r (receive e r.0) (of_receive r.0)
    stays_gone (Subscribe tx) = of_sender tx None (subscribe e) (of_new (tail_of e))
    stays_gone (SubscribeOldest tx) = of_sender tx None (subscribe_oldest e) (of_new (oldest_of e))
    stays_gone (Resubscribe r) = of_receiver r (λ _. subscribe e) (λ _ _. of_new (tail_of e))
    stays_gone (CloneTx tx) = of_sender tx None (clone_sender e) (cond_case Gone (is_full (length e.senders) e.next) _ _ (λ _. g)
        (λ _. record { none = g.none; given = omega (arith, g.given) }))
    stays_gone (DropTx tx) = of_sender tx None _ (record { none = g.none; given = g.given })
    stays_gone (DropRx r) = of_receiver r _ (λ i here. record {
      none = place-without_other e.index r.0 rx (other r.0 i here) ∙ g.none;
      given = g.given;
    })
    stays_gone (Queued tx) = of_sender tx None _ g
    stays_gone (Left r) = of_receiver r _ (λ _ _. g)
    stays_gone (Readers tx) = of_sender tx None _ g

  none_when_gone : (e : Endless T) (rx : ℕ) (es : List (BCall T × BReply T)) → IsGone e rx → IsRun e es → told_of rx es ≡ []
  none_when_gone e rx [] g h = refl
  none_when_gone e rx (x ∷ es) g h =
      let none : told_to rx x.0 x.1 ≡ [] = ap (told_to rx x.0) h.0 ∙ in_vain e rx x.0 g.none in
      ap (λ xs. xs ++ told_of rx es) none ∙ none_when_gone (step e x.0).1 rx es (stays_gone e rx g x.0) h.1

  -- a receiver that is there has a number that was given out
  was_given : (e : Endless T) (rx i : ℕ) → IsProper e → place_of e.index rx ≡ Some i → rx < e.next
  was_given e rx i s here = elim (ltb rx e.next) as (λ b. ltb rx e.next ≡ b → rx < e.next) [
    | true ↦ λ is. ltb-true rx e.next is
    | false ↦ λ is. absurd (none-some i (sym (no_place e rx s (ltb-false rx e.next is)) ∙ here))
  ] refl

  drop_is_last : (e : Endless T) (rx : RxId) (i : ℕ) → IsProper e → place_of e.index rx.0 ≡ Some i → IsGone (step e (DropRx rx)).1 rx.0
  drop_is_last e rx i s here = rw here (record {
    none = not_left e.index rx.0 s.handles.by_receiver.rising;
    given = was_given e rx.0 i s here;
  })

  -- what all entries tell the receiver is what those do that come before its drop
  pub told_until : (e : Endless T) (rx : RxId) (i : ℕ) (during behind : List (BCall T × BReply T)) → IsProper e →
      place_of e.index rx.0 ≡ Some i → IsRun e behind → BeginsWithItsDrop rx behind →
      told_of rx.0 (during ++ behind) ≡ told_of rx.0 during
  told_until e rx i during behind s here h d =
      told_both rx.0 during behind ∙ ap (λ xs. told_of rx.0 during ++ xs) (none behind h d) ∙ append-nil (told_of rx.0 during)
    where
      none : (behind : List (BCall T × BReply T)) → IsRun e behind → BeginsWithItsDrop rx behind → told_of rx.0 behind ≡ []
      none [] h d = refl
      none (x ∷ xs) h d =
          let gone : IsGone (step e x.0).1 rx.0 = subst (λ c. IsGone (step e c).1 rx.0) (sym d) (drop_is_last e rx i s here) in
          ap (λ c. told_to rx.0 c x.1 ++ told_of rx.0 xs) d ∙ none_when_gone (step e x.0).1 rx.0 xs gone h.1

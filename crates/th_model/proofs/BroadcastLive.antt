-- How many handles of a broadcast channel are live after a call.
use Rattle.std.proofs.Common.{◌≡◌, ℕ, ◌+◌, ◌-◌, ◌<◌, ◌≤◌, ◌^◌, Bool, true, false, cond, length, Option, Some, None, IsSome, refl, ap, subst, arith}
use Rattle.std.specs.Prelude.{eqb, nat_lt}
use Rattle.th_model.specs.Handles.{is_sender, is_full}
use Rattle.th_model.specs.Places.{place_of, with_place, without_place}
use Rattle.th_model.specs.Window.{Window, first_of, trimmed, pushed, placed, left}
use Rattle.th_model.specs.declared.broadcast.BCall.{BCall}
use Rattle.th_model.specs.declared.broadcast.BCall.TheVariants.{Send, TryRecv, Recv, Subscribe, SubscribeOldest, Resubscribe, CloneTx, DropTx, DropRx, Queued, Left, Readers}
use Rattle.th_model.specs.declared.broadcast.BReply.{BReply}
use Rattle.th_model.specs.BroadcastPicture.{Picture, IsSound, at_place, receive, subscribe_at, answer, TakesNoMemory}
use Rattle.th_model.specs.Live.{live_handles, if_there}
use Rattle.th_model.specs.BroadcastLive.{one_more, live_then}
use Rattle.std.proofs.lemmas.Map.Entries.{length-keys_of}
use Rattle.th_model.proofs.LiveCounts.{length-cloned, length-dropped, entry-joined, entry-moved, entry-left}

module _ {T : Type 0} where
  places-pushed : (w : Window T) (v : T) → (pushed w v).places ≡ w.places
  unfolding pushed trimmed
  places-pushed w v = refl

  places-placed : (w : Window T) (rx i : ℕ) → (placed w rx i).places ≡ with_place w.places rx i
  unfolding placed trimmed
  places-placed w rx i = refl

  places-left : (w : Window T) (rx : ℕ) → (left w rx).places ≡ without_place w.places rx
  unfolding left trimmed
  places-left w rx = refl

  cases : (b : Bool) (x y : BReply T × Picture T) (n m : ℕ) → (b ≡ true → live_handles x.1 ≡ n) → (b ≡ false → live_handles y.1 ≡ m) →
      live_handles (cond b x y).1 ≡ cond b n m
  cases true x y n m h k = h refl
  cases false x y n m h k = k refl

  same : (b : Bool) (x y : BReply T × Picture T) (n : ℕ) → (b ≡ true → live_handles x.1 ≡ n) → (b ≡ false → live_handles y.1 ≡ n) →
      live_handles (cond b x y).1 ≡ n
  same true x y n h k = h refl
  same false x y n h k = k refl

  there : (p : Picture T) (o : Option ℕ) (given : ℕ → BReply T × Picture T) (n : ℕ) →
      ((i : ℕ) → o ≡ Some i → live_handles (given i).1 ≡ n) → live_handles (at_place p o given).1 ≡ if_there o n (live_handles p)
  there p None given n h = refl
  there p (Some i) given n h = h i refl

  there-same : (p : Picture T) (o : Option ℕ) (given : ℕ → BReply T × Picture T) →
      ((i : ℕ) → o ≡ Some i → live_handles (given i).1 ≡ live_handles p) → live_handles (at_place p o given).1 ≡ live_handles p
  there-same p None given h = refl
  there-same p (Some i) given h = h i refl

  module _ (p : Picture T) (s : IsSound p) where
    moved : (rx i j : ℕ) → place_of p.window.places rx ≡ Some i → length p.senders + length (placed p.window rx j).places ≡ live_handles p
    moved rx i j is =
        let here : IsSome (place_of p.window.places rx) = rw is refl in
        omega (arith, ap length (places-placed p.window rx j), entry-moved p.next p.senders p.window.places rx j s.handles here)

    more : (i : ℕ) → length p.senders + length (placed p.window p.next i).places ≡ live_handles p + 1
    more i = omega (arith, ap length (places-placed p.window p.next i), entry-joined p.next p.senders p.window.places i s.handles)

    joined : (i : ℕ) → live_handles (subscribe_at p i).1 ≡ one_more p (length p.window.places)
    joined i = cases (is_full (length p.window.places) p.next) _ _ _ _ (λ _. refl) (λ _. more i)

    received : (rx i : ℕ) → place_of p.window.places rx ≡ Some i → live_handles (receive p rx i).1 ≡ live_handles p
    received rx i is = same (eqb i p.window.tail) _ _ _ (λ _. refl)
        (λ _. same (nat_lt i (first_of p.window)) _ _ _ (λ _. moved rx i _ is) (λ _. moved rx i _ is))

    pub live_after : (call : BCall T) → live_handles (answer p call).1 ≡ live_then p call
    live_after (Send tx v) = same (is_sender p.senders tx.0) _ _ _ (λ _.
        same (eqb (length p.window.places) 0) _ _ _ (λ _. refl)
        (λ _. same (eqb p.window.tail (2 ^ 64 - 1)) _ _ _ (λ _. refl)
        (λ _. ap (λ ps. length p.senders + length ps) (places-pushed p.window v)))) (λ _. refl)
    live_after (TryRecv rx) = there-same p (place_of p.window.places rx.0) _ (received rx.0)
    live_after (Recv rx) = there-same p (place_of p.window.places rx.0) _ (received rx.0)
    live_after (Subscribe tx) = cases (is_sender p.senders tx.0) _ _ _ _ (λ _. joined p.window.tail) (λ _. refl)
    live_after (SubscribeOldest tx) = cases (is_sender p.senders tx.0) _ _ _ _ (λ _. joined p.window.low) (λ _. refl)
    live_after (Resubscribe rx) = there p (place_of p.window.places rx.0) _ _ (λ i is. joined p.window.tail)
    live_after (CloneTx tx) = cases (is_sender p.senders tx.0) _ _ _ _
        (λ _. cases (is_full (length p.senders) p.next) _ _ _ _ (λ _. refl)
        (λ _. omega (arith, length-cloned p.next p.senders _ s.handles))) (λ _. refl)
    live_after (DropTx tx) = cases (is_sender p.senders tx.0) _ _ _ _ (λ is. omega (arith, length-dropped p.senders tx.0 is)) (λ _. refl)
    live_after (DropRx rx) = there p (place_of p.window.places rx.0) _ _
        (λ i is. omega (arith, ap length (places-left p.window rx.0), entry-left p.window.places rx.0 i is))
    live_after (Queued tx) = same (is_sender p.senders tx.0) _ _ _ (λ _. refl) (λ _. refl)
    live_after (Left rx) = there-same p (place_of p.window.places rx.0) _ (λ i is. refl)
    live_after (Readers tx) = same (is_sender p.senders tx.0) _ _ _ (λ _. refl) (λ _. refl)

    pub few_live : live_handles p ≤ 131070
    few_live = omega (arith, s.handles.by_sender.few, few-places)
      where
        few-places : length p.window.places ≤ 65535
        few-places = omega (arith, s.handles.by_receiver.few, length-keys_of p.window.places)

    not_more : (b : Bool) → cond b (live_handles p) (live_handles p + 1) < live_handles p → ⊥
    not_more true h = omega arith
    not_more false h = omega arith

    not_less : (b : Bool) (n : ℕ) → (n < live_handles p → ⊥) → cond b n (live_handles p) < live_handles p → ⊥
    not_less true n k h = k h
    not_less false n k h = omega arith

    not_there : (o : Option ℕ) (n : ℕ) → (n < live_handles p → ⊥) → if_there o n (live_handles p) < live_handles p → ⊥
    not_there None n k h = omega arith
    not_there (Some i) n k h = k h

    spent : (call : BCall T) → live_then p call < live_handles p → TakesNoMemory call
    spent (Send tx v) h = absurd (omega (arith, h))
    spent (TryRecv rx) h = absurd (omega (arith, h))
    spent (Recv rx) h = absurd (omega (arith, h))
    spent (Subscribe tx) h = not_less (is_sender p.senders tx.0) _ (not_more _) h
    spent (SubscribeOldest tx) h = not_less (is_sender p.senders tx.0) _ (not_more _) h
    spent (Resubscribe rx) h = not_there (place_of p.window.places rx.0) _ (not_more _) h
    spent (CloneTx tx) h = not_less (is_sender p.senders tx.0) _ (not_more _) h
    spent (DropTx tx) h = tt
    spent (DropRx rx) h = tt
    spent (Queued tx) h = tt
    spent (Left rx) h = tt
    spent (Readers tx) h = tt

    -- a call that spends a handle takes no memory
    pub spends : (call : BCall T) → live_handles (answer p call).1 < live_handles p → TakesNoMemory call
    spends call h = spent call (subst (λ n. n < live_handles p) (live_after call) h)

-- A broadcast channel lets go of the oldest of its values.
use Rattle.std.proofs.Common.{◌≡◌, ℕ, zero, suc, ◌+◌, ◌-◌, ◌<◌, ◌≤◌, ◌^◌, Bool, true, false, cond, List, [], ◌∷◌, ◌++◌, length, drop, Option, Some, None, refl, sym, ap, ◌∙◌, arith}
use Rattle.std.specs.Prelude.{◌==◌, slice_get, nat_lt}
use Rattle.std.proofs.lemmas.Bool.{ltb-true}
use Rattle.std.proofs.lemmas.List.{append-nil, length-append, length-drop}
use Rattle.std.proofs.lemmas.Option.{same_Some, none-some}
use Rattle.th_model.specs.declared.handles.RxId.{RxId}
use Rattle.th_model.specs.declared.handles.TxId.{TxId}
use Rattle.th_model.specs.declared.broadcast.BCall.{BCall}
use Rattle.th_model.specs.declared.broadcast.BCall.TheVariants.{Send, TryRecv, Recv, Subscribe, SubscribeOldest, Resubscribe, CloneTx, DropTx, DropRx, Queued, Left, Readers}
use Rattle.th_model.specs.declared.broadcast.BReply.{BReply}
use Rattle.th_model.specs.declared.broadcast.BReply.TheVariants.{Sent, NoReceivers, Exhausted, Value, Empty, Closed, Lagged, NewRx, NewTx, Count, Done, TooMany, NoHandle}
use Rattle.th_model.specs.BroadcastMachine.{value_reply, end_reply}
use Rattle.th_model.specs.BroadcastPicture.{Picture, IsSound, answer, at_place, as_receiver, as_sender, send, receive, subscribe_at, clone_sender, with_window}
use Rattle.th_model.specs.Handles.{is_sender, is_full}
use Rattle.th_model.specs.Places.{place_of, with_place, without_place, low_of}
use Rattle.th_model.specs.Window.{Window, first_of, pushed, placed, left, trimmed}
use Rattle.th_model.proofs.BroadcastProperness.{cond_case}
use Rattle.th_model.proofs.BroadcastSoundness.{sound-placed}
use Rattle.th_model.proofs.PlaceLemmas.{low_of-at}
use Rattle.th_c.specs.Broadcast.{sent_by, tells}
use Rattle.th_c.specs.OldestFirst.{sent_values, LetsGoOldestFirst, LetsGoOfWhatIsRead}
use Rattle.th_c.proofs.LetGo.{in-each-case, let_go_of, low-read, received, stands, there}

-- what is left of a list tells how much of it was dropped
front : {X : Type 0} (xs : List X) (k : ℕ) → drop k xs ≡ drop (length xs - length (drop k xs)) xs
front xs zero = (let none : length xs - length xs ≡ 0 = omega arith in ap (λ n. drop n xs) (sym none))
front [] (suc k) = refl
front (x ∷ xs) (suc k) =
    let one_more : length (x ∷ xs) - length (drop k xs) ≡ suc (length xs - length (drop k xs)) = omega (arith, length-drop k xs) in
    front xs k ∙ ap (λ n. drop n (x ∷ xs)) (sym one_more)

first_is : {X : Type 0} (xs : List X) (x : X) → slice_get xs 0 ≡ Some x → (rest : List X) × (xs ≡ x ∷ rest)
first_is [] x h = absurd (none-some x h)
first_is (y ∷ ys) x h = (ys, ap (λ z. z ∷ ys) (same_Some y x h))

module _ {T : Type 0} (p : Picture T) where
  -- some values were dropped at the front
  record Drops (call : BCall T) (reply : BReply T) (kept : List T) : Type 0 where
    pub count : ℕ
    pub left : kept ≡ drop count (p.window.kept ++ sent_values reply call)
    pub sent : length (sent_values reply call) ≡ sent_by reply

  abbrev Does : BCall T → BReply T × Picture T → Type 0
  Does call a = Drops call a.0 a.1.window.kept

  -- of a call that sends nothing
  quiet : (call : BCall T) (reply : BReply T) (kept : List T) (k : ℕ) → sent_values reply call ≡ [] → sent_by reply ≡ 0
      → kept ≡ drop k p.window.kept → Drops call reply kept
  quiet call reply kept k none no_sent is = record {
    count = k;
    left = is ∙ ap (drop k) (sym (append-nil p.window.kept)) ∙ ap (λ vs. drop k (p.window.kept ++ vs)) (sym none);
    sent = ap length none ∙ sym no_sent;
  }

  stays : (call : BCall T) (reply : BReply T) → sent_values reply call ≡ [] → sent_by reply ≡ 0 → Drops call reply p.window.kept
  stays call reply none no_sent = quiet call reply p.window.kept 0 none no_sent refl

  place_drops : (rx i : ℕ) → (placed p.window rx i).kept
      ≡ drop (low_of p.window.tail p.window.capacity (with_place p.window.places rx i) - p.window.low) p.window.kept
  unfolding placed trimmed
  place_drops rx i = refl

  leave_drops : (rx : ℕ) → (left p.window rx).kept
      ≡ drop (low_of p.window.tail p.window.capacity (without_place p.window.places rx) - p.window.low) p.window.kept
  unfolding left trimmed
  leave_drops rx = refl

  by_sender : (call : BCall T) (tx : TxId) (back : Option T) (given : BReply T × Picture T) → Does call given
      → Does call (as_sender p tx back given)
  by_sender call tx back given h =
      cond_case (Does call) (is_sender p.senders tx.0) _ _ (λ _. h) (λ _. stays call (NoHandle back) refl refl)

  by_receiver : (call : BCall T) (rx : RxId) (given : ℕ → BReply T × Picture T) → ((i : ℕ) → Does call (given i))
      → Does call (as_receiver p rx given)
  by_receiver call rx given h = elim (place_of p.window.places rx.0) as (λ o. Does call (at_place p o given)) [
    | None ↦ stays call (NoHandle None) refl refl
    | Some i ↦ h i
  ]

  sends : (tx : TxId) (v : T) → Does (Send tx v) (send p v)
  unfolding pushed trimmed
  sends tx v = cond_case (Does (Send tx v)) (length p.window.places == 0) _ _
      (λ _. stays (Send tx v) (NoReceivers v) refl refl)
      (λ _. cond_case (Does (Send tx v)) (p.window.tail == 2 ^ 64 - 1) _ _ (λ _. stays (Send tx v) (Exhausted v) refl refl)
      (λ _. record {
        count = low_of (p.window.tail + 1) p.window.capacity p.window.places - p.window.low;
        left = refl;
        sent = refl;
      }))

  receives : (call : BCall T) (rx i : ℕ) → Does call (receive p rx i)
  receives call rx i = cond_case (Does call) (i == p.window.tail) _ _
      (λ _. cond_case (λ (reply : BReply T). Drops call reply p.window.kept) (length p.senders == 0) _ _
      (λ _. stays call Closed refl refl) (λ _. stays call Empty refl refl))
      (λ _. cond_case (Does call) (nat_lt i (first_of p.window)) _ _
      (λ _. quiet call (Lagged (first_of p.window - i)) _ _ refl refl (place_drops rx (first_of p.window)))
      (λ _. reads (slice_get p.window.kept (i - p.window.low))))
    where
      reads : (o : Option T) → Drops call (value_reply o) (placed p.window rx (i + 1)).kept
      reads None = quiet call Empty _ _ refl refl (place_drops rx (i + 1))
      reads (Some v) = quiet call (Value v) _ _ refl refl (place_drops rx (i + 1))

  joins : (call : BCall T) (i : ℕ) → Does call (subscribe_at p i)
  joins call i = cond_case (Does call) (is_full (length p.window.places) p.next) _ _ (λ _. stays call TooMany refl refl)
      (λ _. quiet call (NewRx (record { 0 = p.next })) _ _ refl refl (place_drops p.next i))

  clones : (call : BCall T) → Does call (clone_sender p)
  clones call = cond_case (Does call) (is_full (length p.senders) p.next) _ _ (λ _. stays call TooMany refl refl)
      (λ _. stays call (NewTx (record { 0 = p.next })) refl refl)

  drops : (call : BCall T) → Does call (answer p call)
  drops (Send tx v) = by_sender (Send tx v) tx (Some v) (send p v) (sends tx v)
  drops (TryRecv rx) = by_receiver (TryRecv rx) rx (receive p rx.0) (receives (TryRecv rx) rx.0)
  drops (Recv rx) = by_receiver (Recv rx) rx (receive p rx.0) (receives (Recv rx) rx.0)
  drops (Subscribe tx) = by_sender (Subscribe tx) tx None _ (joins (Subscribe tx) p.window.tail)
  drops (SubscribeOldest tx) = by_sender (SubscribeOldest tx) tx None _ (joins (SubscribeOldest tx) p.window.low)
  drops (Resubscribe rx) = by_receiver (Resubscribe rx) rx _ (λ _. joins (Resubscribe rx) p.window.tail)
  drops (CloneTx tx) = by_sender (CloneTx tx) tx None (clone_sender p) (clones (CloneTx tx))
  drops (DropTx tx) = by_sender (DropTx tx) tx None _ (stays (DropTx tx) Done refl refl)
  drops (DropRx rx) = by_receiver (DropRx rx) rx _ (λ _. quiet (DropRx rx) Done _ _ refl refl (leave_drops rx.0))
  drops (Queued tx) = by_sender (Queued tx) tx None _ (stays (Queued tx) (Count (p.window.tail - p.window.low)) refl refl)
  drops (Left rx) = by_receiver (Left rx) rx _ (λ i. stays (Left rx) (Count (p.window.tail - i)) refl refl)
  drops (Readers tx) = by_sender (Readers tx) tx None _ (stays (Readers tx) (Count (length p.window.places)) refl refl)

pub oldest_first : {T : Type 0} → LetsGoOldestFirst T
oldest_first {T} number p call =
    let d = drops p call in
    let a = answer p call in
    let all : List T = p.window.kept ++ sent_values a.0 call in
    let as_told : length all - length (drop d.count all) ≡ length p.window.kept + sent_by a.0 - length a.1.window.kept =
    omega (arith, length-append p.window.kept (sent_values a.0 call), d.sent, ap length d.left) in
    d.left ∙ front all d.count ∙ ap (λ n. drop n all) as_told

-- ---- what is read
module _ {T : Type 0} (p : Picture T) (s : IsSound p) where
  -- where a value is told and one is let go, it was the first
  abbrev IsFirst : BReply T × Picture T → Type 0
  IsFirst a = (v : T) → a.0 ≡ Value v → let_go_of p a ≡ 1 → (rest : List T) × (p.window.kept ≡ v ∷ rest)

  sender_reads : (tx : TxId) (back : Option T) (given : BReply T × Picture T) → IsFirst given → IsFirst (as_sender p tx back given)
  sender_reads tx back given h = cond_case IsFirst (is_sender p.senders tx.0) _ _ (λ _. h) (λ _ v h one. cc)

  receiver_reads : (rx : RxId) (given : ℕ → BReply T × Picture T)
      → ((i : ℕ) → place_of p.window.places rx.0 ≡ Some i → IsFirst (given i)) → IsFirst (as_receiver p rx given)
  receiver_reads rx given h = elim (place_of p.window.places rx.0) as
      (λ o. place_of p.window.places rx.0 ≡ o → IsFirst (at_place p o given)) [
        | None ↦ λ e v h one. cc
        | Some i ↦ λ e. h i e
      ] refl

  joins_read : (i : ℕ) → IsFirst (subscribe_at p i)
  joins_read i = cond_case IsFirst (is_full (length p.window.places) p.next) _ _ (λ _ v h one. cc) (λ _ v h one. cc)

  module _ (rx i : ℕ) (here : place_of p.window.places rx ≡ Some i) where
    last_read : first_of p.window ≤ i → i < p.window.tail → IsFirst (received p s rx i here)
    unfolding placed trimmed
    last_read inside before v is one =
        let found = stands p s rx i here inside before in
        let was = low_of-at p.window.tail p.window.capacity p.window.places rx i here in
        let q = sound-placed p s rx (i + 1) (there p s rx i here) (omega arith) (omega arith) in
        let low : ℕ = low_of p.window.tail p.window.capacity (with_place p.window.places rx (i + 1)) in
        let none : sent_by (value_reply (slice_get p.window.kept (i - p.window.low))) ≡ 0 =
        ap (λ o. sent_by (value_reply o)) found.1 in
        let moved = low-read p.window.tail p.window.capacity i p.window.places rx here inside before in
        let further : low ≡ p.window.low + 1 = omega (arith, one, none, q.window.kept, s.window.kept) in
        let at : i - p.window.low ≡ 0 = elim (nat_lt i low) as (λ b. nat_lt i low ≡ b
        → low ≡ low_of p.window.tail p.window.capacity p.window.places + cond b 1 0 → i - p.window.low ≡ 0) [
          | true ↦ λ e k. omega (arith, ltb-true i low e, further, was, s.window.low)
          | false ↦ λ e k. absurd (omega (arith, k, further, s.window.low))
        ] refl moved in
        let value : value_reply (Some found.0) ≡ Value v = ap value_reply (sym found.1) ∙ is in
        let same : Some found.0 ≡ Some v = cc in
        first_is p.window.kept v (ap (slice_get p.window.kept) (sym at) ∙ found.1 ∙ same)

    receive_reads : IsFirst (receive p rx i)
    receive_reads = in-each-case p s rx i here IsFirst
        (cond_case (λ (reply : BReply T). IsFirst (reply, p)) (length p.senders == 0) _ _ (λ _ v h one. cc) (λ _ v h one. cc))
        (λ behind v h one. cc) last_read

  reads_first : (call : BCall T) → IsFirst (answer p call)
  reads_first (Send tx v) = sender_reads tx (Some v) (send p v)
      (cond_case IsFirst (length p.window.places == 0) _ _ (λ _ v h one. cc)
      (λ _. cond_case IsFirst (p.window.tail == 2 ^ 64 - 1) _ _ (λ _ v h one. cc) (λ _ v h one. cc)))
  reads_first (TryRecv rx) = receiver_reads rx (receive p rx.0) (receive_reads rx.0)
  reads_first (Recv rx) = receiver_reads rx (receive p rx.0) (receive_reads rx.0)
  reads_first (Subscribe tx) = sender_reads tx None _ (joins_read p.window.tail)
  reads_first (SubscribeOldest tx) = sender_reads tx None _ (joins_read p.window.low)
  reads_first (Resubscribe rx) = receiver_reads rx _ (λ _ _. joins_read p.window.tail)
  reads_first (CloneTx tx) = sender_reads tx None (clone_sender p)
      (cond_case IsFirst (is_full (length p.senders) p.next) _ _ (λ _ v h one. cc) (λ _ v h one. cc))
  reads_first (DropTx tx) = sender_reads tx None _ (λ v h one. cc)
  reads_first (DropRx rx) = receiver_reads rx _ (λ _ _ v h one. cc)
  reads_first (Queued tx) = sender_reads tx None _ (λ v h one. cc)
  reads_first (Left rx) = receiver_reads rx _ (λ _ _ v h one. cc)
  reads_first (Readers tx) = sender_reads tx None _ (λ v h one. cc)

pub read_is_first : {T : Type 0} → LetsGoOfWhatIsRead T
read_is_first number p call value s is one = reads_first p s call value is one

-- What a call lets go of is found by what was noted before it.
use Rattle.std.proofs.Common.{◌≡◌, ℕ, ◌+◌, ◌-◌, ◌<◌, ◌≤◌, ◌^◌, Bool, true, false, cond, [], ◌∷◌, length, max, min, Option, Some, None, IsSome, refl, sym, subst, ◌∙◌, arith}
use Rattle.std.specs.Prelude.{◌==◌, slice_get, nat_lt}
use Rattle.std.specs.Ordering.{nat_cmp, match_ordering}
use Rattle.std.specs.declared.cmp.Ordering.TheVariants.{Less, Equal, Greater}
use Rattle.std.proofs.lemmas.Bool.{ltb-true, ltb-false}
use Rattle.std.proofs.lemmas.Bool.Decides.{nat_tests}
use Rattle.std.proofs.lemmas.Option.{same_Some, none-some}
use Rattle.th_model.specs.declared.broadcast.BCall.{BCall}
use Rattle.th_model.specs.declared.broadcast.BCall.TheVariants.{Send, TryRecv, Recv, Subscribe, SubscribeOldest, Resubscribe, CloneTx, DropTx, DropRx, Queued, Left, Readers}
use Rattle.th_model.specs.declared.broadcast.BReply.{BReply}
use Rattle.th_model.specs.declared.broadcast.BReply.TheVariants.{Sent, NoReceivers, Exhausted, Empty, Closed, Lagged, NewRx, NewTx, Count, Done, TooMany, NoHandle}
use Rattle.th_model.specs.declared.handles.TxId.{TxId}
use Rattle.th_model.specs.BroadcastMachine.{value_reply, end_reply}
use Rattle.th_model.specs.BroadcastPicture.{Picture, IsSound, answer, at_place, as_sender, send, receive, subscribe_at, clone_sender, with_window, with_senders, numbered}
use Rattle.th_model.specs.Handles.{is_sender, is_full, with_sender, without_sender}
use Rattle.th_model.specs.Places.{Places, place_of, with_place, ArePlaces, least_place, low_of}
use Rattle.th_model.specs.Window.{Window, IsWindow, first_of, pushed, placed, left, trimmed}
use Rattle.th_model.proofs.PlaceLemmas.{all-at, least_at, low_of-at, least_with, place-with_same}
use Rattle.th_model.proofs.WindowLemmas.{slice_get-some}
use Rattle.th_model.proofs.BroadcastSoundness.{low-le, sound-joined, sound-placed, sound-pushed}
use Rattle.th_model.proofs.HandleLemmas.{few_of_room, more_of_room, next_is_free}
use Rattle.th_c.specs.Broadcast.{sent_by}
use Rattle.th_c.specs.LetGo.{gone, gone_at, noted, noted_receive, one_if_none}
use Rattle.th_c.specs.declared.let_go.Note.{Note}
use Rattle.th_c.specs.declared.let_go.Note.TheVariants.{Nothing, Full, Alone, Place, Kept}

-- ---- the least place
-- with a receiver, it is the same where the tail moves on
least_more : (n : ℕ) (ps : Places) → min n (least_place (n + 1) ps) ≡ least_place n ps
least_more n [] = omega arith
least_more n (p ∷ ps) = omega (arith, least_more n ps)

least_same : (n : ℕ) (ps : Places) → ArePlaces n ps → (length ps ≡ 0 → ⊥) → least_place (n + 1) ps ≡ least_place n ps
least_same n [] h some = absurd (some refl)
least_same n (p ∷ ps) h some = omega (arith, least_more n ps, h.0)

-- a receiver that moves holds back none but the place that it had
least_moved : (n : ℕ) (ps : Places) (rx i j : ℕ) → place_of ps rx ≡ Some i → min i (least_place n (with_place ps rx j)) ≤ least_place n ps
least_moved n [] rx i j h = absurd (none-some i h)
least_moved n (p ∷ ps) rx i j h = elim (nat_cmp rx p.0) as
    (λ r. r ≡ nat_cmp rx p.0 → min i (least_place n (match_ordering r ((rx, j) ∷ p ∷ ps) ((p.0, j) ∷ ps) (p ∷ with_place ps rx j)))
    ≤ min p.1 (least_place n ps)) [
      | Less ↦ λ e. omega arith
      | Equal ↦ λ e. (let here : p.1 ≡ i = same_Some p.1 i (rw (sym e) at h) in omega arith)
      | Greater ↦ λ e. (let there : place_of ps rx ≡ Some i = rw (sym e) at h in omega (arith, least_moved n ps rx i j there))
    ] refl

-- a receiver that joins raises it for nobody
least_joined : (n : ℕ) (ps : Places) (rx j : ℕ) → place_of ps rx ≡ None → least_place n (with_place ps rx j) ≤ least_place n ps
least_joined n [] rx j h = omega arith
least_joined n (p ∷ ps) rx j h = elim (nat_cmp rx p.0) as
    (λ r. r ≡ nat_cmp rx p.0 → least_place n (match_ordering r ((rx, j) ∷ p ∷ ps) ((p.0, j) ∷ ps) (p ∷ with_place ps rx j))
    ≤ min p.1 (least_place n ps)) [
      | Less ↦ λ e. omega arith
      | Equal ↦ λ e. absurd (none-some p.1 (sym (rw (sym e) at h)))
      | Greater ↦ λ e. (let there : place_of ps rx ≡ None = rw (sym e) at h in omega (arith, least_joined n ps rx j there))
    ] refl

-- an only receiver that moves takes it along
least_alone : (n : ℕ) (ps : Places) (rx i j : ℕ) → length ps ≡ 1 → place_of ps rx ≡ Some i → min j n ≤ least_place n (with_place ps rx j)
least_alone n [] rx i j one h = absurd (none-some i h)
least_alone n (p ∷ []) rx i j one h = elim (nat_cmp rx p.0) as
    (λ r. r ≡ nat_cmp rx p.0 → min j n ≤ least_place n (match_ordering r ((rx, j) ∷ p ∷ []) ((p.0, j) ∷ []) (p ∷ with_place [] rx j))) [
      | Less ↦ λ e. absurd (none-some i (rw (sym e) at h))
      | Equal ↦ λ e. omega arith
      | Greater ↦ λ e. absurd (none-some i (rw (sym e) at h))
    ] refl
least_alone n (p ∷ q ∷ ps) rx i j one h = omega (arith, one)

-- ---- the least kept position
-- a value is sent: the oldest one goes where the window is full
low-pushed : (n c low len : ℕ) (ps : Places) → ArePlaces n ps → (length ps ≡ 0 → ⊥) → 0 < c → low ≡ low_of n c ps → low + len ≡ n
    → (full : Bool) → (len == c) ≡ full → low_of (n + 1) c ps ≡ low + cond full 1 0
unfolding low_of
low-pushed n c low len ps all some room is whole true e =
    let f : len ≡ c = grind (arith, nat_tests) in
    omega (arith, least_same n ps all some)
low-pushed n c low len ps all some room is whole false e =
    let f : len ≡ c → ⊥ = grind (arith, nat_tests) in
    omega (arith, least_same n ps all some)

-- a receiver reads the value at its place
pub low-read : (n c i : ℕ) (ps : Places) (rx : ℕ) → place_of ps rx ≡ Some i → n - c ≤ i → i < n
    → low_of n c (with_place ps rx (i + 1)) ≡ low_of n c ps + cond (nat_lt i (low_of n c (with_place ps rx (i + 1)))) 1 0
unfolding low_of
low-read n c i ps rx here inside before =
    let now : ℕ = least_place n (with_place ps rx (i + 1)) in
    let at = least_at n (with_place ps rx (i + 1)) rx (i + 1) (place-with_same ps rx (i + 1)) in
    let was = least_at n ps rx i here in
    let low = least_with n ps rx (i + 1) in
    let back = least_moved n ps rx i (i + 1) here in
    let after : ℕ = max (n - c) now in
    elim (nat_lt i after) as (λ b. nat_lt i after ≡ b → after ≡ max (n - c) (least_place n ps) + cond b 1 0) [
      | true ↦ λ e. (let f : i < after = ltb-true i after e in omega arith)
      | false ↦ λ e. (let f = ltb-false i after e in omega arith)
    ] refl

-- a receiver goes on at the beginning of the window
low-skipped : (n c i : ℕ) (ps : Places) (rx : ℕ) → place_of ps rx ≡ Some i → i < n - c
    → low_of n c (with_place ps rx (n - c)) ≡ low_of n c ps
unfolding low_of
low-skipped n c i ps rx here behind =
    let at = least_at n (with_place ps rx (n - c)) rx (n - c) (place-with_same ps rx (n - c)) in
    let was = least_at n ps rx i here in
    omega arith

-- a receiver joins, at the least kept position or behind it
low-joined : (n c i : ℕ) (ps : Places) (rx : ℕ) → place_of ps rx ≡ None → low_of n c ps ≤ i
    → low_of n c (with_place ps rx i) ≡ low_of n c ps
unfolding low_of
low-joined n c i ps rx free above =
    let low = least_with n ps rx i in
    let most = least_joined n ps rx i free in
    omega arith

-- ---- the window
-- whether a position that was sent is kept
pub one-if-gone : {T : Type 0} (w : Window T) → IsWindow w → (i : ℕ) → i < w.tail → gone_at w i ≡ cond (nat_lt i w.low) 1 0
one-if-gone w s i before = elim (nat_lt i w.low) as
    (λ b. nat_lt i w.low ≡ b → one_if_none (cond b None (slice_get w.kept (i - w.low))) ≡ cond b 1 0) [
      | true ↦ λ e. refl
      | false ↦ λ e. (let f = ltb-false i w.low e in
          let there = slice_get-some w.kept (i - w.low) (omega (arith, s.kept)) in rw there.1 refl)
    ] refl

-- ---- the calls
-- how many values are let go of, where this is the answer
abbrev pub let_go_of : {T : Type 0} → Picture T → BReply T × Picture T → ℕ
let_go_of p a = length p.window.kept + sent_by a.0 - length a.1.window.kept

abbrev Finds : {T : Type 0} → Picture T → Note → BReply T × Picture T → Type 0
Finds p note a = gone note a.0 a.1 ≡ let_go_of p a

module _ {T : Type 0} (p : Picture T) (s : IsSound p) where
  abbrev count : ℕ
  count = length p.window.kept

  abbrev full : Bool
  full = count == p.window.capacity

  -- ---- a send
  sent : (v : T) (m : ℕ) → (length p.window.places ≡ 0 → ⊥) → p.window.tail < 2 ^ 64 - 1 → (f : Bool) → full ≡ f
      → Finds p (Full f) (Sent m, with_window p (pushed p.window v))
  unfolding pushed trimmed
  sent v m some room true e =
      let q = sound-pushed p s v room in
      let moved = low-pushed p.window.tail p.window.capacity p.window.low count p.window.places s.window.places some s.window.capacity.1
      s.window.low s.window.kept true e in
      omega (arith, q.window.kept, moved, s.window.kept)
  sent v m some room false e =
      let q = sound-pushed p s v room in
      let moved = low-pushed p.window.tail p.window.capacity p.window.low count p.window.places s.window.places some s.window.capacity.1
      s.window.low s.window.kept false e in
      omega (arith, q.window.kept, moved, s.window.kept)

  sending : (v : T) → Finds p (Full full) (send p v)
  sending v =
      let go : BReply T × Picture T = (Sent (length p.window.places), with_window p (pushed p.window v)) in
      let last : Bool = p.window.tail == 2 ^ 64 - 1 in
      elim (length p.window.places == 0) as (λ b. (length p.window.places == 0) ≡ b
      → Finds p (Full full) (cond b (NoReceivers v, p) (cond last (Exhausted v, p) go))) [
        | true ↦ λ e. omega arith
        | false ↦ λ e. (let some : length p.window.places ≡ 0 → ⊥ = grind (arith, nat_tests) in
            elim last as (λ b. last ≡ b → Finds p (Full full) (cond b (Exhausted v, p) go)) [
              | true ↦ λ h. omega arith
              | false ↦ λ h. (let apart : p.window.tail ≡ 2 ^ 64 - 1 → ⊥ = grind (arith, nat_tests) in
                  sent v (length p.window.places) some (omega (arith, apart, s.tail)) full refl)
            ] refl)
      ] refl

  -- ---- a receive
  module _ (rx i : ℕ) (here : place_of p.window.places rx ≡ Some i) where
    pub there : IsSome (place_of p.window.places rx)
    there = rw here refl

    abbrev pub lagged : BReply T × Picture T
    lagged = (Lagged (first_of p.window - i), with_window p (placed p.window rx (first_of p.window)))

    abbrev pub received : BReply T × Picture T
    received = (value_reply (slice_get p.window.kept (i - p.window.low)), with_window p (placed p.window rx (i + 1)))

    skipping : i < first_of p.window → Finds p (Place (Some i)) lagged
    unfolding placed trimmed
    skipping behind =
        let low = low_of-at p.window.tail p.window.capacity p.window.places rx i here in
        let q = sound-placed p s rx (first_of p.window) there (omega arith) (omega arith) in
        omega (
          arith,
          q.window.kept,
          low-skipped p.window.tail p.window.capacity i p.window.places rx here behind,
          s.window.low,
          s.window.kept,
        )

    -- what is read is there
    pub stands : first_of p.window ≤ i → i < p.window.tail → (v : T) × (slice_get p.window.kept (i - p.window.low) ≡ Some v)
    stands inside before =
        let low = low_of-at p.window.tail p.window.capacity p.window.places rx i here in
        slice_get-some p.window.kept (i - p.window.low) (omega (arith, s.window.low, s.window.kept))

    reading : first_of p.window ≤ i → i < p.window.tail → Finds p (Place (Some i)) received
    unfolding placed trimmed
    reading inside before =
        let low = low_of-at p.window.tail p.window.capacity p.window.places rx i here in
        let q = sound-placed p s rx (i + 1) there (omega arith) (omega arith) in
        let lost = one-if-gone (placed p.window rx (i + 1)) q.window i before in
        let moved = low-read p.window.tail p.window.capacity i p.window.places rx here inside before in
        rw (stands inside before).1 (omega (arith, lost, moved, q.window.kept, s.window.low, s.window.kept))

    ending : Finds p (Place (Some i)) (end_reply p.senders, p)
    ending = elim (length p.senders == 0) as (λ b. Finds p (Place (Some i)) (cond b Closed Empty, p)) [
      | true ↦ omega arith
      | false ↦ omega arith
    ]

    pub in-each-case : (Holds : BReply T × Picture T → Type 0) → Holds (end_reply p.senders, p)
        → (i < first_of p.window → Holds lagged)
        → (first_of p.window ≤ i → i < p.window.tail → Holds received)
        → Holds (receive p rx i)
    in-each-case Holds ended missed found =
        let behind : Bool = nat_lt i (first_of p.window) in
        let le : i ≤ p.window.tail = all-at (λ q. q ≤ p.window.tail) p.window.places rx i s.window.places here in
        elim (i == p.window.tail) as (λ b. (i == p.window.tail) ≡ b
        → Holds (cond b (end_reply p.senders, p) (cond behind lagged received))) [
          | true ↦ λ e. ended
          | false ↦ λ e. (let apart : i ≡ p.window.tail → ⊥ = grind (arith, nat_tests) in
              elim behind as (λ b. behind ≡ b → Holds (cond b lagged received)) [
                | true ↦ λ h. missed (ltb-true i (first_of p.window) h)
                | false ↦ λ h. found (ltb-false i (first_of p.window) h) (omega (arith, apart, le))
              ] refl)
        ] refl

    receiving : Finds p (Place (Some i)) (receive p rx i)
    receiving = in-each-case (Finds p (Place (Some i))) ending skipping reading

    -- ---- by an only receiver: what it reads is gone
    read-alone : length p.window.places ≡ 1 → first_of p.window ≤ i → i < p.window.tail → gone_at (placed p.window rx (i + 1)) i ≡ 1
    unfolding placed trimmed low_of
    read-alone one inside before =
        let was = low_of-at p.window.tail p.window.capacity p.window.places rx i here in
        let q = sound-placed p s rx (i + 1) there (omega arith) (omega arith) in
        let least = least_alone p.window.tail p.window.places rx i (i + 1) one here in
        let low : ℕ = low_of p.window.tail p.window.capacity (with_place p.window.places rx (i + 1)) in
        elim (nat_lt i low) as (λ b. nat_lt i low ≡ b → gone_at (placed p.window rx (i + 1)) i ≡ cond b 1 0
        → gone_at (placed p.window rx (i + 1)) i ≡ 1) [
          | true ↦ λ e k. k
          | false ↦ λ e k. (let f = ltb-false i low e in omega (arith, f, least, before))
        ] refl (one-if-gone (placed p.window rx (i + 1)) q.window i before)

    abbrev AsPlaced : BReply T × Picture T → Type 0
    AsPlaced a = gone Alone a.0 a.1 ≡ gone (Place (Some i)) a.0 a.1

    ending-alone : AsPlaced (end_reply p.senders, p)
    ending-alone = elim (length p.senders == 0) as (λ b. AsPlaced (cond b Closed Empty, p)) [ true ↦ refl | false ↦ refl ]

    alone-as-placed : length p.window.places ≡ 1 → AsPlaced (receive p rx i)
    alone-as-placed one =
        in-each-case AsPlaced ending-alone (λ behind. refl)
        (λ inside before. rw (stands inside before).1 (sym (read-alone one inside before)))

  receiving-alone : length p.window.places ≡ 1 → (rx : ℕ) (o : Option ℕ) → place_of p.window.places rx ≡ o
      → Finds p Alone (at_place p o (receive p rx))
  receiving-alone one rx None here = omega arith
  receiving-alone one rx (Some i) here = alone-as-placed rx i here one ∙ receiving rx i here

  receiving-at : (rx : ℕ) (o : Option ℕ) → place_of p.window.places rx ≡ o → Finds p (Place o) (at_place p o (receive p rx))
  receiving-at rx None here = omega arith
  receiving-at rx (Some i) here = receiving rx i here

  receiving-noted : (rx : ℕ) → Finds p (noted_receive p rx) (at_place p (place_of p.window.places rx) (receive p rx))
  receiving-noted rx =
      let o : Option ℕ = place_of p.window.places rx in
      elim (length p.window.places == 1) as
      (λ b. (length p.window.places == 1) ≡ b → Finds p (cond b Alone (Place o)) (at_place p o (receive p rx))) [
        | true ↦ λ e. (let one : length p.window.places ≡ 1 = grind (arith, nat_tests) in receiving-alone one rx o refl)
        | false ↦ λ e. receiving-at rx o refl
      ] refl

  -- ---- the others
  by-sender : (tx : TxId) (back : Option T) (note : Note) (given : BReply T × Picture T) → gone note (NoHandle back) p ≡ 0
      → Finds p note given → Finds p note (as_sender p tx back given)
  by-sender tx back note given none found = elim (is_sender p.senders tx.0) as (λ b. Finds p note (cond b given (NoHandle back, p))) [
    | true ↦ found
    | false ↦ omega (arith, none)
  ]

  by-receiver : (o : Option ℕ) (note : Note) (given : ℕ → BReply T × Picture T) → gone note (NoHandle None) p ≡ 0
      → ((i : ℕ) → Finds p note (given i)) → Finds p note (at_place p o given)
  by-receiver None note given none found = omega (arith, none)
  by-receiver (Some i) note given none found = found i

  joining : (i : ℕ) → p.window.low ≤ i → i ≤ p.window.tail → length p.window.places < 65535 → p.next < 2 ^ 64 - 1
      → Finds p Nothing (NewRx (record { 0 = p.next }), numbered (with_window p (placed p.window p.next i)))
  unfolding placed trimmed
  joining i above below few more =
      let q = sound-joined p s i above below few more in
      let free = next_is_free p.next p.senders p.window.places s.handles in
      let stays = low-joined p.window.tail p.window.capacity i p.window.places p.next free (omega (arith, s.window.low)) in
      omega (arith, q.window.kept, stays, s.window.low, s.window.kept)

  subscribing : (i : ℕ) → p.window.low ≤ i → i ≤ p.window.tail → Finds p Nothing (subscribe_at p i)
  subscribing i above below =
      let live : ℕ = length p.window.places in
      elim (is_full live p.next) as (λ b. is_full live p.next ≡ b → Finds p Nothing
      (cond b (TooMany, p) (NewRx (record { 0 = p.next }), numbered (with_window p (placed p.window p.next i))))) [
        | true ↦ λ e. omega arith
        | false ↦ λ e. joining i above below (few_of_room live p.next e) (more_of_room live p.next e)
      ] refl

  cloning : Finds p Nothing (clone_sender p)
  cloning = elim (is_full (length p.senders) p.next) as
      (λ b. Finds p Nothing
      (cond b (TooMany, p) (NewTx (record { 0 = p.next }), numbered (with_senders p (with_sender p.senders p.next))))) [
        | true ↦ omega arith
        | false ↦ omega arith
      ]

  found : (call : BCall T) → Finds p (noted p call) (answer p call)
  found (Send tx v) = by-sender tx (Some v) (Full full) (send p v) refl (sending v)
  found (TryRecv rx) = receiving-noted rx.0
  found (Recv rx) = receiving-noted rx.0
  found (Subscribe tx) =
      by-sender tx None Nothing (subscribe_at p p.window.tail) refl (subscribing p.window.tail (low-le p s) (omega arith))
  found (SubscribeOldest tx) =
      by-sender tx None Nothing (subscribe_at p p.window.low) refl (subscribing p.window.low (omega arith) (low-le p s))
  found (Resubscribe rx) =
      by-receiver (place_of p.window.places rx.0) Nothing (λ _. subscribe_at p p.window.tail) refl
      (λ _. subscribing p.window.tail (low-le p s) (omega arith))
  found (CloneTx tx) = by-sender tx None Nothing (clone_sender p) refl cloning
  found (DropTx tx) = by-sender tx None Nothing (Done, with_senders p (without_sender p.senders tx.0)) refl (omega arith)
  found (DropRx rx) =
      by-receiver (place_of p.window.places rx.0) (Kept count) (λ _. (Done, with_window p (left p.window rx.0))) (omega arith)
      (λ _. omega arith)
  found (Queued tx) = by-sender tx None Nothing (Count (p.window.tail - p.window.low), p) refl (omega arith)
  found (Left rx) =
      by-receiver (place_of p.window.places rx.0) Nothing (λ i. (Count (p.window.tail - i), p)) refl (λ _. omega arith)
  found (Readers tx) = by-sender tx None Nothing (Count (length p.window.places), p) refl (omega arith)

-- what a call lets go of, by its note
pub let-go-found : {T : Type 0} (before after : Picture T) (call : BCall T) (reply : BReply T) (note : Note) → IsSound before
    → note ≡ noted before call → answer before call ≡ (reply, after)
    → gone note reply after ≡ length before.window.kept + sent_by reply - length after.window.kept
let-go-found {T} before after call reply note s is_note answered =
    subst (λ (a : BReply T × Picture T). Finds before note a) answered
    (subst (λ (n : Note). Finds before n (answer before call)) (sym is_note) (found before s call))

-- the first of the window is kept exactly where the window is full
pub full-if-first : {T : Type 0} (w : Window T) → IsWindow w → w.capacity ≤ w.tail → (lost : ℕ) → lost ≡ gone_at w (first_of w)
    → (lost == 0) ≡ (length w.kept == w.capacity)
unfolding low_of
full-if-first w s room lost is_lost =
    let so = one-if-gone w s (first_of w) (omega (arith, s.capacity.1)) in
    let total : w.low + length w.kept ≡ w.tail = s.kept in
    let least : w.tail - w.capacity ≤ w.low = omega (arith, s.low) in
    elim (nat_lt (first_of w) w.low) as
    (λ b. nat_lt (first_of w) w.low ≡ b → gone_at w (first_of w) ≡ cond b 1 0 → (lost == 0) ≡ (length w.kept == w.capacity)) [
      | true ↦ λ e k. (let above : w.tail - w.capacity < w.low = ltb-true (first_of w) w.low e in
          let one : lost ≡ 1 = is_lost ∙ k in
          let l : (lost == 0) ≡ false = grind (arith, nat_tests) in
          let few : length w.kept < w.capacity = omega (arith, above, total, room) in
          let r : (length w.kept == w.capacity) ≡ false = grind (arith, nat_tests) in l ∙ sym r)
      | false ↦ λ e k. (let below : w.low ≤ w.tail - w.capacity = ltb-false (first_of w) w.low e in
          let none : lost ≡ 0 = is_lost ∙ k in
          let l : (lost == 0) ≡ true = grind (arith, nat_tests) in
          let all : length w.kept ≡ w.capacity = omega (arith, below, least, total, room) in
          let r : (length w.kept == w.capacity) ≡ true = grind (arith, nat_tests) in l ∙ sym r)
    ] refl so

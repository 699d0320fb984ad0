-- The laws of both kinds of channels: who makes the calls of the tables, and what the last calls of handles do.
use Rattle.std.proofs.Common.{◌≡◌, ℕ, ◌+◌, ◌<◌, Bool, true, false, cond, length, Option, Some, None, is_some, inl, inr, refl, sym, subst, ap, ◌∙◌}
use Rattle.std.proofs.Math.Nat.{add-lt-add_of_le_of_lt, add-lt-add_of_lt_of_le, le_refl, lt_irrefl}
use Rattle.std.proofs.Math.Numerals.{lt-add-one}
use Rattle.std.proofs.lemmas.Bool.{false≢true}
use Rattle.std.proofs.lemmas.Bool.Decides.{eqb_tells}
use Rattle.th_model.specs.declared.handles.TxId.{TxId}
use Rattle.th_model.specs.declared.handles.RxId.{RxId}
use Rattle.th_model.specs.declared.broadcast.BCall.TheVariants as BCalls
use Rattle.th_model.specs.declared.broadcast.BReply.{BReply}
use Rattle.th_model.specs.declared.broadcast.BReply.TheVariants as BReplies
use Rattle.th_model.specs.declared.watch.WCall.TheVariants as WCalls
use Rattle.th_model.specs.declared.watch.WReply.{WReply}
use Rattle.th_model.specs.declared.watch.WReply.TheVariants as WReplies
use Rattle.th_model.proofs.BroadcastProperness.{cond_case}
use Rattle.th_model.specs.Handles.{is_sender, is_full, without_sender}
use Rattle.th_model.specs.Live.{live_handles, live_watchers}
use Rattle.th_model.specs.Places.{place_of, with_place, without_place}
use Rattle.th_model.specs.Window.{left, placed, trimmed}
use Rattle.th_model.specs.BroadcastPicture as bp
use Rattle.th_model.specs.WatchMachine.{reader_of, without_reader}
use Rattle.th_model.specs.WatchPicture as wp
use Rattle.th_model.proofs.LiveCounts.{length-dropped, entry-left}
use Rattle.th_model.proofs.PlaceLemmas.{place-with_same, place-with_other}
use Rattle.th_log.specs.CallLaws.{IsBy, IsLast, StaysBeside}
use Rattle.th_log.specs.Machines.{broadcast, watch}
use Rattle.th_log.specs.Replies.{broadcast_made_rx, broadcast_made_tx, made_by}
use Rattle.th_model.specs.declared.verb.Question.{Question}
use Rattle.th_model.specs.declared.verb.Question.TheVariants.{Queued, Readers}
use Rattle.th_model.specs.declared.verb.ReceiverVerb.{ReceiverVerb}
use Rattle.th_model.specs.declared.verb.ReceiverVerb.TheVariants.{TryRecv, Recv, Left, Borrow, Take, HasChanged, TryChanged, Changed, MarkChanged, MarkUnchanged}
use Rattle.th_model.specs.declared.verb.SenderVerb.{SenderVerb}
use Rattle.th_model.specs.declared.verb.SenderVerb.TheVariants.{Send, Replace, Set, Differ, Quiet}
use Rattle.th_log.specs.Calls.{broadcast_asked, broadcast_by_receiver, broadcast_by_sender, broadcast_receiver_of, broadcast_sender_of, watch_asked, watch_by_receiver, watch_by_sender, watch_receiver_of, watch_sender_of}

some-of : {X : Type 0} (o : Option X) → is_some o ≡ true → (x : X) × (o ≡ Some x)
some-of None h = absurd (false≢true h)
some-of (Some x) h = (x, refl)

fewer-left : (a a' b : ℕ) → a + 1 ≡ a' → a + b < a' + b
fewer-left a a' b e = subst (λ x. a + b < x + b) e (add-lt-add_of_lt_of_le (lt-add-one a) (le_refl b))

fewer-right : (a b b' : ℕ) → b + 1 ≡ b' → a + b < a + b'
fewer-right a b b' e = subst (λ x. a + b < a + x) e (add-lt-add_of_le_of_lt (le_refl a) (lt-add-one b))

-- a call that leaves the picture where the handle is not there, and is replied r where it is
replied-if : {S R : Type 0} (live : S → ℕ) (p q : S) (b : Bool) (r lacks : R) →
    live (cond {A = R × S} b (r, q) (lacks, p)).1 < live p → (cond {A = R × S} b (r, q) (lacks, p)).0 ≡ r
replied-if live p q true r lacks h = refl
replied-if live p q false r lacks h = absurd (lt_irrefl (live p) h)

module _ (T : Type 0) where
  pub broadcast-by-sender : (verb : SenderVerb T) (t : TxId) → IsBy broadcast_sender_of t.0 (broadcast_by_sender verb t)
  broadcast-by-sender (Send v) t = refl
  broadcast-by-sender (Replace v) t = tt
  broadcast-by-sender (Set v) t = tt
  broadcast-by-sender (Differ v) t = tt
  broadcast-by-sender (Quiet v) t = tt

  pub watch-by-sender : (verb : SenderVerb T) (t : TxId) → IsBy watch_sender_of t.0 (watch_by_sender verb t)
  watch-by-sender (Send v) t = refl
  watch-by-sender (Replace v) t = refl
  watch-by-sender (Set v) t = refl
  watch-by-sender (Differ v) t = refl
  watch-by-sender (Quiet v) t = refl

  pub broadcast-asked : (question : Question) (t : TxId) → IsBy (broadcast_sender_of {T = T}) t.0 (broadcast_asked question t)
  broadcast-asked Queued t = refl
  broadcast-asked Readers t = refl

  pub watch-asked : (question : Question) (t : TxId) → IsBy (watch_sender_of {T = T}) t.0 (watch_asked question t)
  watch-asked Queued t = tt
  watch-asked Readers t = refl

  pub broadcast-by-receiver : (verb : ReceiverVerb) (r : RxId) → IsBy (broadcast_receiver_of {T = T}) r.0 (broadcast_by_receiver verb r)
  broadcast-by-receiver TryRecv r = refl
  broadcast-by-receiver Recv r = refl
  broadcast-by-receiver Left r = refl
  broadcast-by-receiver Borrow r = tt
  broadcast-by-receiver Take r = tt
  broadcast-by-receiver HasChanged r = tt
  broadcast-by-receiver TryChanged r = tt
  broadcast-by-receiver Changed r = tt
  broadcast-by-receiver MarkChanged r = tt
  broadcast-by-receiver MarkUnchanged r = tt

  pub watch-by-receiver : (verb : ReceiverVerb) (r : RxId) → IsBy (watch_receiver_of {T = T}) r.0 (watch_by_receiver verb r)
  watch-by-receiver TryRecv r = tt
  watch-by-receiver Recv r = tt
  watch-by-receiver Left r = tt
  watch-by-receiver Borrow r = refl
  watch-by-receiver Take r = refl
  watch-by-receiver HasChanged r = refl
  watch-by-receiver TryChanged r = refl
  watch-by-receiver Changed r = refl
  watch-by-receiver MarkChanged r = refl
  watch-by-receiver MarkUnchanged r = refl

  sender-spends : (p : bp.Picture T) (t : TxId) → is_sender p.senders t.0 ≡ true →
      live_handles (bp.answer p (BCalls.DropTx t)).1 < live_handles p
  sender-spends p t is =
      let after : live_handles (bp.answer p (BCalls.DropTx t)).1 ≡ length (without_sender p.senders t.0) + length p.window.places =
      ap (λ b. live_handles (cond {A = BReply T × bp.Picture T} b
      (BReplies.Done, bp.with_senders p (without_sender p.senders t.0)) (BReplies.NoHandle None, p)).1) is in
      subst (λ n. n < live_handles p) (sym after) (fewer-left _ _ _ (length-dropped p.senders t.0 is))

  pub sender-ends : (t : TxId) → IsLast (broadcast {T = T}) BReplies.Done (λ p. is_sender p.senders t.0) (BCalls.DropTx t)
  sender-ends t = record {
    ready = λ p. refl;
    spends = λ p is. sender-spends p t is;
    reply = λ p h. replied-if live_handles p (bp.with_senders p (without_sender p.senders t.0))
        (is_sender p.senders t.0) BReplies.Done (BReplies.NoHandle None) h;
  }

  places-left : (p : bp.Picture T) (rx : ℕ) → (left p.window rx).places ≡ without_place p.window.places rx
  unfolding left trimmed
  places-left p rx = refl

  abbrev receiver_left : bp.Picture T → RxId → Option ℕ → BReply T × bp.Picture T
  receiver_left p r o = bp.at_place p o (λ i. (BReplies.Done, bp.with_window p (left p.window r.0)))

  receiver-spends : (p : bp.Picture T) (r : RxId) → is_some (place_of p.window.places r.0) ≡ true →
      live_handles (bp.answer p (BCalls.DropRx r)).1 < live_handles p
  receiver-spends p r is =
      let there = some-of (place_of p.window.places r.0) is in
      let after : live_handles (bp.answer p (BCalls.DropRx r)).1 ≡ length p.senders + length (left p.window r.0).places =
      ap (λ o. live_handles (receiver_left p r o).1) there.1 in
      subst (λ n. n < live_handles p) (sym (after ∙ ap (λ ps. length p.senders + length ps) (places-left p r.0)))
      (fewer-right _ _ _ (entry-left p.window.places r.0 there.0 there.1))

  receiver-done : (p : bp.Picture T) (r : RxId) (o : Option ℕ) → live_handles (receiver_left p r o).1 < live_handles p →
      (receiver_left p r o).0 ≡ BReplies.Done
  receiver-done p r None h = absurd (lt_irrefl (live_handles p) h)
  receiver-done p r (Some i) h = refl

  pub receiver-ends : (r : RxId) →
      IsLast (broadcast {T = T}) BReplies.Done (λ p. is_some (place_of p.window.places r.0)) (BCalls.DropRx r)
  receiver-ends r = record {
    ready = λ p. refl;
    spends = λ p is. receiver-spends p r is;
    reply = λ p h. receiver-done p r (place_of p.window.places r.0) h;
  }

  -- a receiver that made another is still there
  module _ (r : RxId) (p : bp.Picture T) where
    abbrev IsThere : BReply T × bp.Picture T → Type 0
    IsThere s = is_some (made_by broadcast_made_tx broadcast_made_rx s.0) ≡ true → is_some (place_of s.1.window.places r.0) ≡ true

    places-placed : (i : ℕ) → (placed p.window p.next i).places ≡ with_place p.window.places p.next i
    unfolding placed trimmed
    places-placed i = refl

    there-still : (i j : ℕ) → place_of p.window.places r.0 ≡ Some j → is_some (place_of (placed p.window p.next i).places r.0) ≡ true
    there-still i j at =
        ap (λ ps. is_some (place_of ps r.0)) (places-placed i)
        ∙ elim (eqb_tells r.0 p.next) [
          | inl same ↦ ap is_some (ap (place_of (with_place p.window.places p.next i)) same.1 ∙ place-with_same p.window.places p.next i)
          | inr other ↦ ap is_some (place-with_other p.window.places p.next i r.0 other.1 ∙ at)
        ]

    resubscribed : IsThere (bp.answer p (BCalls.Resubscribe r))
    resubscribed =
        elim (place_of p.window.places r.0) as (λ o. place_of p.window.places r.0 ≡ o → IsThere (bp.at_place p o (λ i. bp.subscribe p))) [
          | None ↦ λ at no. absurd (false≢true no)
          | Some j ↦ λ at. cond_case IsThere (is_full (length p.window.places) p.next) _ _
              (λ _ no. absurd (false≢true no)) (λ _ _. there-still p.window.tail j at)
        ] refl

  pub stays : (r : RxId) →
      StaysBeside (broadcast {T = T}) (made_by broadcast_made_tx broadcast_made_rx)
      (λ p. is_some (place_of p.window.places r.0)) (Some (BCalls.Resubscribe r))
  stays r = λ p made. resubscribed r p made

  module _ (eq : T → T → Bool) where
    watch-sender-spends : (p : wp.Picture T) (t : TxId) → is_sender p.senders t.0 ≡ true →
        live_watchers (wp.answer eq p (WCalls.DropTx t)).1 < live_watchers p
    watch-sender-spends p t is =
        let after : live_watchers (wp.answer eq p (WCalls.DropTx t)).1 ≡ length (without_sender p.senders t.0) + length p.readers =
        ap (λ b. live_watchers (cond {A = WReply T × wp.Picture T} b
        (WReplies.Done, wp.with_senders p (without_sender p.senders t.0)) (WReplies.NoHandle None, p)).1) is in
        subst (λ n. n < live_watchers p) (sym after) (fewer-left _ _ _ (length-dropped p.senders t.0 is))

    pub watch-sender-ends : (t : TxId) → IsLast (watch eq) WReplies.Done (λ p. is_sender p.senders t.0) (WCalls.DropTx t)
    watch-sender-ends t = record {
      ready = λ p. refl;
      spends = λ p is. watch-sender-spends p t is;
      reply = λ p h. replied-if live_watchers p (wp.with_senders p (without_sender p.senders t.0))
          (is_sender p.senders t.0) WReplies.Done (WReplies.NoHandle None) h;
    }

    abbrev reader_left : wp.Picture T → RxId → Option Bool → WReply T × wp.Picture T
    reader_left p r o = wp.at_reader p o (λ u. (WReplies.Done, wp.with_readers p (without_reader p.readers r.0)))

    reader-spends : (p : wp.Picture T) (r : RxId) → is_some (reader_of p.readers r.0) ≡ true →
        live_watchers (wp.answer eq p (WCalls.DropRx r)).1 < live_watchers p
    reader-spends p r is =
        let there = some-of (reader_of p.readers r.0) is in
        let after : live_watchers (wp.answer eq p (WCalls.DropRx r)).1 ≡ length p.senders + length (without_reader p.readers r.0) =
        ap (λ o. live_watchers (reader_left p r o).1) there.1 in
        subst (λ n. n < live_watchers p) (sym after) (fewer-right _ _ _ (entry-left p.readers r.0 there.0 there.1))

    reader-done : (p : wp.Picture T) (r : RxId) (o : Option Bool) → live_watchers (reader_left p r o).1 < live_watchers p →
        (reader_left p r o).0 ≡ WReplies.Done
    reader-done p r None h = absurd (lt_irrefl (live_watchers p) h)
    reader-done p r (Some u) h = refl

    pub reader-ends : (r : RxId) → IsLast (watch eq) WReplies.Done (λ p. is_some (reader_of p.readers r.0)) (WCalls.DropRx r)
    reader-ends r = record {
      ready = λ p. refl;
      spends = λ p is. reader-spends p r is;
      reply = λ p h. reader-done p r (reader_of p.readers r.0) h;
    }

-- Only news ends another handle's wait, at both kinds of channels: the laws of th_news, in a kind's words.
use Rattle.std.proofs.Common.{◌≡◌, ◌≢◌, ℕ, ◌-◌, ◌^◌, Bool, true, false, ◌||◌, cond, eqb, eq-eqb, length, Option, Some, None, refl, sym, ap, ◌∙◌}
use Rattle.std.proofs.lemmas.Bool.{false≢true}
use Rattle.th_model.specs.declared.handles.TxId.{TxId}
use Rattle.th_model.specs.declared.broadcast.BCall.{BCall}
use Rattle.th_model.specs.declared.broadcast.BCall.TheVariants as BCalls
use Rattle.th_model.specs.declared.watch.Edit.{Edit}
use Rattle.th_model.specs.declared.watch.Edit.TheVariants as Edits
use Rattle.th_model.specs.declared.watch.WCall.{WCall}
use Rattle.th_model.specs.declared.watch.WCall.TheVariants as WCalls
use Rattle.th_model.specs.declared.watch.WReply.{WReply}
use Rattle.th_model.specs.declared.watch.WReply.TheVariants as WReplies
use Rattle.th_model.specs.Handles.{is_sender, is_full, with_sender}
use Rattle.th_model.specs.BroadcastPicture as bp
use Rattle.th_model.specs.WatchMachine.{reader_of, value_of}
use Rattle.th_model.specs.WatchPicture as wp
use Rattle.th_news.specs.News as news
use Rattle.th_news.specs.WatchNews as watch_news
use Rattle.th_news.proofs.Waiting as waiting
use Rattle.th_news.proofs.WatchWaiting as watch_waiting
use Rattle.th_log.specs.CallLaws.{OnlyNewsEndsWaits}
use Rattle.th_log.specs.Calls.{broadcast_handle_of, watch_handle_of}
use Rattle.th_log.specs.Machines.{broadcast, watch}
use Rattle.th_log.specs.Replies.{broadcast_is_news, watch_is_news}

-- one of two is true, where not both are false
either : (a b : Bool) → (a ≡ false → b ≡ false → ⊥) → (a || b) ≡ true
either true b neither = refl
either false true neither = refl
either false false neither = absurd (neither refl refl)

module _ {T : Type 0} where
  beside : (rx : ℕ) (call : BCall T) → broadcast_handle_of call ≢ rx → news.IsAnothers rx call
  beside rx (BCalls.TryRecv r) other = λ e. other (sym e)
  beside rx (BCalls.Recv r) other = λ e. other (sym e)
  beside rx (BCalls.DropRx r) other = λ e. other (sym e)
  beside rx (BCalls.Send t v) other = tt
  beside rx (BCalls.Subscribe t) other = tt
  beside rx (BCalls.SubscribeOldest t) other = tt
  beside rx (BCalls.Resubscribe r) other = tt
  beside rx (BCalls.CloneTx t) other = tt
  beside rx (BCalls.DropTx t) other = tt
  beside rx (BCalls.Queued t) other = tt
  beside rx (BCalls.Left r) other = tt
  beside rx (BCalls.Readers t) other = tt

  watch_beside : (rx : ℕ) (call : WCall T) → watch_handle_of call ≢ rx → watch_news.IsAnothers rx call
  watch_beside rx (WCalls.Borrow r) other = λ e. other (sym e)
  watch_beside rx (WCalls.Take r) other = λ e. other (sym e)
  watch_beside rx (WCalls.HasChanged r) other = λ e. other (sym e)
  watch_beside rx (WCalls.TryChanged r) other = λ e. other (sym e)
  watch_beside rx (WCalls.Changed r) other = λ e. other (sym e)
  watch_beside rx (WCalls.MarkChanged r) other = λ e. other (sym e)
  watch_beside rx (WCalls.MarkUnchanged r) other = λ e. other (sym e)
  watch_beside rx (WCalls.CloneRx r) other = λ e. other (sym e)
  watch_beside rx (WCalls.DropRx r) other = λ e. other (sym e)
  watch_beside rx (WCalls.Send t v) other = tt
  watch_beside rx (WCalls.Replace t v) other = tt
  watch_beside rx (WCalls.EditBy t change) other = tt
  watch_beside rx (WCalls.Subscribe t) other = tt
  watch_beside rx (WCalls.CloneTx t) other = tt
  watch_beside rx (WCalls.DropTx t) other = tt
  watch_beside rx (WCalls.IsClosed t) other = tt
  watch_beside rx (WCalls.Readers t) other = tt

  module _ (eq : T → T → Bool) (p : wp.Picture T) where
    -- without news the version stays
    abbrev Stays : WCall T → WReply T × wp.Picture T → Type 0
    Stays call x = watch_is_news call x.0 ≡ false → x.1.version ≡ p.version

    publishes : (call : WCall T) (v : T) (r : WReply T) → watch_is_news call r ≡ true → Stays call (wp.publish p v r)
    publishes call v r is = elim (eqb p.version (2 ^ 64 - 1)) as
        (λ b. Stays call (cond b (WReplies.Exhausted v, p) (r, wp.with_version p v)))
        [ true ↦ λ _. refl | false ↦ λ none. absurd (false≢true (sym none ∙ is)) ]

    edits : (t : TxId) (e : Edit T) → Stays (WCalls.EditBy t e) (wp.edit eq p e)
    edits t (Edits.Set v) = publishes (WCalls.EditBy t (Edits.Set v)) v (WReplies.Modified true) refl
    edits t (Edits.Differ v) = elim (eq v p.last) as
        (λ b. Stays (WCalls.EditBy t (Edits.Differ v))
        (cond b (WReplies.Modified false, p) (wp.publish p v (WReplies.Modified true)))) [
          | true ↦ λ _. refl
          | false ↦ publishes (WCalls.EditBy t (Edits.Differ v)) v (WReplies.Modified true) refl
        ]
    edits t (Edits.Quiet v) = λ _. refl

    by_sender : (call : WCall T) (tx : ℕ) (back : Option T) (given : WReply T × wp.Picture T) → Stays call given
        → Stays call (cond (is_sender p.senders tx) given (WReplies.NoHandle back, p))
    by_sender call tx back given stays = elim (is_sender p.senders tx) as
        (λ b. Stays call (cond b given (WReplies.NoHandle back, p))) [ true ↦ stays | false ↦ λ _. refl ]

    by_reader : (call : WCall T) (o : Option Bool) (given : Bool → WReply T × wp.Picture T) → ((u : Bool) → Stays call (given u))
        → Stays call (wp.at_reader p o given)
    by_reader call None given stays = λ _. refl
    by_reader call (Some u) given stays = stays u

    changes : (call : WCall T) (k : ℕ) (u : Bool) → Stays call (wp.changed p k u)
    changes call k true = λ _. refl
    changes call k false = λ _. refl

    subscribes : (call : WCall T) (u : Bool) → Stays call (wp.subscribe p u)
    subscribes call u = elim (is_full (length p.readers) p.next) as
        (λ b. Stays call (cond b (WReplies.TooMany, p)
        (WReplies.NewRx (record { 0 = p.next }), wp.numbered (wp.marked p p.next u)))) [ true ↦ λ _. refl | false ↦ λ _. refl ]

    clones : (call : WCall T) → Stays call (wp.clone_sender p)
    clones call = elim (is_full (length p.senders) p.next) as
        (λ b. Stays call (cond b (WReplies.TooMany, p)
        (WReplies.NewTx (record { 0 = p.next }), wp.numbered (wp.with_senders p (with_sender p.senders p.next))))) [
          | true ↦ λ _. refl
          | false ↦ λ _. refl
        ]

    stays : (call : WCall T) → Stays call (wp.answer eq p call)
    stays (WCalls.Send t v) = by_sender (WCalls.Send t v) t.0 (Some v) (wp.send p v)
        (elim (eqb (length p.readers) 0) as (λ b. Stays (WCalls.Send t v)
        (cond b (WReplies.NoReceivers v, p) (wp.publish p v WReplies.Done)))
        [ true ↦ λ _. refl | false ↦ publishes (WCalls.Send t v) v WReplies.Done refl ])
    stays (WCalls.Replace t v) = by_sender (WCalls.Replace t v) t.0 (Some v) (wp.publish p v (WReplies.Was p.last))
        (publishes (WCalls.Replace t v) v (WReplies.Was p.last) refl)
    stays (WCalls.EditBy t e) = by_sender (WCalls.EditBy t e) t.0 (Some (value_of e)) (wp.edit eq p e) (edits t e)
    stays (WCalls.TryChanged r) = by_reader (WCalls.TryChanged r) (reader_of p.readers r.0) (wp.changed p r.0)
        (changes (WCalls.TryChanged r) r.0)
    stays (WCalls.Changed r) = by_reader (WCalls.Changed r) (reader_of p.readers r.0) (wp.changed p r.0)
        (changes (WCalls.Changed r) r.0)
    stays (WCalls.Subscribe t) = by_sender (WCalls.Subscribe t) t.0 None (wp.subscribe p false) (subscribes (WCalls.Subscribe t) false)
    stays (WCalls.CloneRx r) = by_reader (WCalls.CloneRx r) (reader_of p.readers r.0) (wp.subscribe p) (subscribes (WCalls.CloneRx r))
    stays (WCalls.CloneTx t) = by_sender (WCalls.CloneTx t) t.0 None (wp.clone_sender p) (clones (WCalls.CloneTx t))
    stays (WCalls.DropTx t) = by_sender (WCalls.DropTx t) t.0 None _ (λ _. refl)
    stays (WCalls.IsClosed t) = by_sender (WCalls.IsClosed t) t.0 None _ (λ _. refl)
    stays (WCalls.Readers t) = by_sender (WCalls.Readers t) t.0 None _ (λ _. refl)
    stays (WCalls.Borrow r) = by_reader (WCalls.Borrow r) (reader_of p.readers r.0) _ (λ u _. refl)
    stays (WCalls.Take r) = by_reader (WCalls.Take r) (reader_of p.readers r.0) _ (λ u _. refl)
    stays (WCalls.HasChanged r) = by_reader (WCalls.HasChanged r) (reader_of p.readers r.0) _ (λ u _. refl)
    stays (WCalls.MarkChanged r) = by_reader (WCalls.MarkChanged r) (reader_of p.readers r.0) _ (λ u _. refl)
    stays (WCalls.MarkUnchanged r) = by_reader (WCalls.MarkUnchanged r) (reader_of p.readers r.0) _ (λ u _. refl)
    stays (WCalls.DropRx r) = by_reader (WCalls.DropRx r) (reader_of p.readers r.0) _ (λ u _. refl)

module _ (T : Type 0) where
  pub broadcast-news : OnlyNewsEndsWaits (broadcast {T = T}) bp.IsSound broadcast_handle_of broadcast_is_news
  broadcast-news p call (BCalls.Recv rx) s ends =
      let a = bp.answer p call in
      either (eqb (length a.1.senders) 0) (broadcast_is_news call a.0)
      (λ some none. false≢true (sym (waiting.waits_on p s rx ends.before call (beside rx.0 call ends.other)
      (λ sent. false≢true (sym none ∙ ap (broadcast_is_news call) sent.1))
      (λ gone. false≢true (sym some ∙ eq-eqb (length a.1.senders) 0 gone))) ∙ ends.after))
  broadcast-news p call (BCalls.Send t v) s ends = absurd (false≢true (sym ends.before))
  broadcast-news p call (BCalls.TryRecv r) s ends = absurd (false≢true (sym ends.before))
  broadcast-news p call (BCalls.Subscribe t) s ends = absurd (false≢true (sym ends.before))
  broadcast-news p call (BCalls.SubscribeOldest t) s ends = absurd (false≢true (sym ends.before))
  broadcast-news p call (BCalls.Resubscribe r) s ends = absurd (false≢true (sym ends.before))
  broadcast-news p call (BCalls.CloneTx t) s ends = absurd (false≢true (sym ends.before))
  broadcast-news p call (BCalls.DropTx t) s ends = absurd (false≢true (sym ends.before))
  broadcast-news p call (BCalls.DropRx r) s ends = absurd (false≢true (sym ends.before))
  broadcast-news p call (BCalls.Queued t) s ends = absurd (false≢true (sym ends.before))
  broadcast-news p call (BCalls.Left r) s ends = absurd (false≢true (sym ends.before))
  broadcast-news p call (BCalls.Readers t) s ends = absurd (false≢true (sym ends.before))

  module _ (eq : T → T → Bool) where
    pub watch-news : OnlyNewsEndsWaits (watch eq) wp.IsSound watch_handle_of watch_is_news
    watch-news p call (WCalls.Changed rx) s ends =
        let a = wp.answer eq p call in
        either (eqb (length a.1.senders) 0) (watch_is_news call a.0)
        (λ some none. false≢true (sym (watch_waiting.waits_on eq p s rx ends.before call (watch_beside rx.0 call ends.other)
        (stays eq p call none)
        (λ gone. false≢true (sym some ∙ eq-eqb (length a.1.senders) 0 gone))) ∙ ends.after))
    watch-news p call (WCalls.Send t v) s ends = absurd (false≢true (sym ends.before))
    watch-news p call (WCalls.Replace t v) s ends = absurd (false≢true (sym ends.before))
    watch-news p call (WCalls.EditBy t change) s ends = absurd (false≢true (sym ends.before))
    watch-news p call (WCalls.Borrow r) s ends = absurd (false≢true (sym ends.before))
    watch-news p call (WCalls.Take r) s ends = absurd (false≢true (sym ends.before))
    watch-news p call (WCalls.HasChanged r) s ends = absurd (false≢true (sym ends.before))
    watch-news p call (WCalls.TryChanged r) s ends = absurd (false≢true (sym ends.before))
    watch-news p call (WCalls.MarkChanged r) s ends = absurd (false≢true (sym ends.before))
    watch-news p call (WCalls.MarkUnchanged r) s ends = absurd (false≢true (sym ends.before))
    watch-news p call (WCalls.Subscribe t) s ends = absurd (false≢true (sym ends.before))
    watch-news p call (WCalls.CloneRx r) s ends = absurd (false≢true (sym ends.before))
    watch-news p call (WCalls.CloneTx t) s ends = absurd (false≢true (sym ends.before))
    watch-news p call (WCalls.DropTx t) s ends = absurd (false≢true (sym ends.before))
    watch-news p call (WCalls.DropRx r) s ends = absurd (false≢true (sym ends.before))
    watch-news p call (WCalls.IsClosed t) s ends = absurd (false≢true (sym ends.before))
    watch-news p call (WCalls.Readers t) s ends = absurd (false≢true (sym ends.before))

-- What the receipts of receivers tell.
use Rattle.std.proofs.Common.{◌≡◌, ℕ, ◌+◌, ◌-◌, Bool, true, false, cond, eqb, ltb, length, Option, Some, None, slice_get, refl, sym, ap, subst, ◌∙◌, arith}
use Rattle.std.proofs.lemmas.Bool.{false≢true, ltb-true}
use Rattle.th_model.specs.declared.handles.RxId.{RxId}
use Rattle.th_model.specs.declared.broadcast.BCall.{BCall}
use Rattle.th_model.specs.declared.broadcast.BCall.TheVariants.{Recv}
use Rattle.th_model.specs.declared.broadcast.BReply.{BReply}
use Rattle.th_model.specs.declared.broadcast.BReply.TheVariants as BReplies
use Rattle.th_model.specs.declared.watch.WCall.{WCall}
use Rattle.th_model.specs.declared.watch.WCall.TheVariants.{Changed}
use Rattle.th_model.specs.declared.watch.WReply.{WReply}
use Rattle.th_model.specs.declared.watch.WReply.TheVariants as WReplies
use Rattle.th_model.specs.Places.{place_of}
use Rattle.th_model.specs.Window.{first_of, placed}
use Rattle.th_model.specs.BroadcastMachine.{end_reply, value_reply}
use Rattle.th_model.specs.BroadcastPicture as bp
use Rattle.th_model.specs.WatchMachine.{reader_of}
use Rattle.th_model.specs.WatchPicture as wp
use Rattle.th_model.proofs.Readiness as broadcast
use Rattle.th_model.proofs.WatchReadiness as watch
use Rattle.th_log.specs.Replies.{IsChanged, IsReceived, IsTried}
use Rattle.th_log.specs.Told.{LawOfChanges, LawOfReceives}

module _ {T : Type 0} where
  module _ (p : bp.Picture T) (rx : RxId) where
    at_end : (closed : Bool) → IsTried (cond {A = BReply T} closed BReplies.Closed BReplies.Empty)
    at_end true = tt
    at_end false = tt

    value : (o : Option T) → IsTried (value_reply o)
    value (Some v) = tt
    value None = tt

    lags : (i : ℕ) → IsTried (bp.receive p rx.0 i).0
    lags i = elim (eqb i p.window.tail) as (λ b. IsTried (cond {A = BReply T × bp.Picture T} b (end_reply p.senders, p)
        (cond (ltb i (first_of p.window))
        (BReplies.Lagged (first_of p.window - i), bp.with_window p (placed p.window rx.0 (first_of p.window)))
        (value_reply (slice_get p.window.kept (i - p.window.low)), bp.with_window p (placed p.window rx.0 (i + 1))))).0) [
          | true ↦ at_end (eqb (length p.senders) 0)
          | false ↦
              elim (ltb i (first_of p.window)) as (λ b. ltb i (first_of p.window) ≡ b → IsTried (cond {A = BReply T × bp.Picture T} b
              (BReplies.Lagged (first_of p.window - i), bp.with_window p (placed p.window rx.0 (first_of p.window)))
              (value_reply (slice_get p.window.kept (i - p.window.low)), bp.with_window p (placed p.window rx.0 (i + 1)))).0) [
                | true ↦ λ behind. omega (arith, ltb-true i (first_of p.window) behind)
                | false ↦ λ _. value (slice_get p.window.kept (i - p.window.low))
              ] refl
        ]

    tried : (o : Option ℕ) → IsTried (bp.at_place p o (bp.receive p rx.0)).0
    tried None = tt
    tried (Some i) = lags i

  told : (reply : BReply T) → IsTried reply → (reply ≡ BReplies.Empty → ⊥) → IsReceived reply
  told BReplies.Empty tries some = absurd (some refl)
  told (BReplies.Value v) tries some = tt
  told (BReplies.Lagged missed) tries some = tries
  told BReplies.Closed tries some = tt
  told (BReplies.NoHandle back) tries some = tt
  told (BReplies.Sent n) tries some = absurd tries
  told (BReplies.NoReceivers v) tries some = absurd tries
  told (BReplies.Exhausted v) tries some = absurd tries
  told (BReplies.NewRx r) tries some = absurd tries
  told (BReplies.NewTx t) tries some = absurd tries
  told (BReplies.Count n) tries some = absurd tries
  told BReplies.Done tries some = absurd tries
  told BReplies.TooMany tries some = absurd tries

  received : (p : bp.Picture T) (rx : RxId) → bp.IsSound p → bp.is_ready p (Recv rx) ≡ true → IsReceived (bp.answer p (Recv rx)).0
  received p rx s ready = told _ (tried p rx (place_of p.window.places rx.0))
      (λ empty. false≢true (sym ((broadcast.readiness p s (Recv rx)).1 (rx, refl, empty)) ∙ ready))

  module _ (eq : T → T → Bool) (p : wp.Picture T) (rx : RxId) where
    at_mark : (o : Option Bool) → ((wp.at_reader p o (wp.changed p rx.0)).0 ≡ WReplies.NotYet → ⊥)
        → IsChanged (wp.at_reader p o (wp.changed p rx.0)).0
    at_mark None some = tt
    at_mark (Some true) some = tt
    at_mark (Some false) some = elim (eqb (length p.senders) 0) as
        (λ b. (cond {A = WReply T} b WReplies.Closed WReplies.NotYet ≡ WReplies.NotYet → ⊥)
        → IsChanged (cond {A = WReply T} b WReplies.Closed WReplies.NotYet)) [ true ↦ λ _. tt | false ↦ λ never. absurd (never refl) ] some

    changed : wp.is_ready p (Changed rx) ≡ true → IsChanged (wp.answer eq p (Changed rx)).0
    changed ready = at_mark (reader_of p.readers rx.0)
        (λ none. false≢true (sym ((watch.readiness eq p (Changed rx)).1 (rx, refl, none)) ∙ ready))

pub receives : (T : Type 0) → LawOfReceives T
receives T t rx is = (
  λ call. subst IsReceived (sym (is.reply ∙ ap (λ (c : BCall T). (bp.answer is.picture c).0) call))
      (received is.picture rx is.sound (ap (bp.is_ready is.picture) (sym call) ∙ is.ready)),
  λ call. subst IsTried (sym (is.reply ∙ ap (λ (c : BCall T). (bp.answer is.picture c).0) call))
      (tried is.picture rx (place_of is.picture.window.places rx.0)),
)

pub changes : (T : Type 0) → LawOfChanges T
changes T eq t rx is call = subst IsChanged (sym (is.reply ∙ ap (λ (c : WCall T). (wp.answer eq is.picture c).0) call))
    (changed eq is.picture rx (ap (wp.is_ready is.picture) (sym call) ∙ is.ready))

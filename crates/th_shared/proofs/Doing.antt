-- What is said of an event, by what the call of a handle came to.
use Rattle.std.proofs.Common.{◌≡◌, ℕ, false, is_some, Option, Some, None, Result, Ok, Err, refl, sym, ap, subst, inl, inr}
use Rattle.th_block.specs.Handles.{Holder}
use Rattle.th_model.specs.declared.kind.Kind.TheVariants as Kinds
use Rattle.th_model.specs.declared.handles.RxId.{RxId}
use Rattle.th_model.specs.declared.broadcast.BCall.{BCall}
use Rattle.th_model.specs.declared.broadcast.BCall.TheVariants as BCalls
use Rattle.th_model.specs.declared.broadcast.BReply.{BReply}
use Rattle.th_model.specs.declared.broadcast.BReply.TheVariants as BReplies
use Rattle.th_model.specs.declared.watch.WCall.{WCall}
use Rattle.th_model.specs.declared.watch.WCall.TheVariants as WCalls
use Rattle.th_model.specs.declared.watch.WReply.{WReply}
use Rattle.th_model.specs.declared.watch.WReply.TheVariants as WReplies
use Rattle.th_registry.specs.declared.channel.Channel.TheVariants.{Broadcast, Watch}
use Rattle.th_registry.specs.declared.outcome.NoEvent.{NoEvent}
use Rattle.th_registry.specs.declared.outcome.NoEvent.TheVariants.{NoTopic, WrongKind, NoSender, NotLive, Blocked, LogFull, Short}
use Rattle.th_registry.specs.Calls.{Bytes}
use Rattle.th_registry.specs.Events.{By, DropsRx, DropsTx, Ended, Event, broadcast_call, broadcast_outcome, ended_or, is_broadcast_done, is_by_hub, is_end, is_watch_done, sender_of, watch_call, watch_outcome}
use Rattle.th_registry.specs.Hub.{Noted, On}
use Rattle.th_registry.specs.Receipts.{BroadcastReceipt, WatchReceipt}
use Rattle.th_seats.specs.Tally.{Part}
use Rattle.th_shared.specs.declared.handles.TopicReceiver.{TopicReceiver}
use Rattle.th_shared.specs.declared.handles.TopicReceiver.TheVariants.{Live, Spent}
use Rattle.th_shared.specs.Doing.{Declines, Does, Enters, HasEnded, Moves, ReceiverMoves, TellsKind, noted_of}
use Rattle.th_shared.specs.Saying.{MayRefuse, MaySay}

-- of an event by a handle that stays
module _ (n : ℕ) (e : Event) (own : is_by_hub e ≡ false) (stays : is_end e ≡ false) where
  broadcast-refuses : (why : NoEvent) → Declines (broadcast_call e) why → MayRefuse e why
  broadcast-refuses NoTopic bad = absurd bad
  broadcast-refuses WrongKind none = inl none
  broadcast-refuses NoSender bad = absurd bad
  broadcast-refuses NotLive there = own
  broadcast-refuses Blocked bad = absurd bad
  broadcast-refuses LogFull there = stays
  broadcast-refuses Short there = stays

  broadcast-kind : (why : NoEvent) → Declines (broadcast_call e) why → TellsKind Kinds.Broadcast e (Err why)
  broadcast-kind NoTopic bad = absurd bad
  broadcast-kind WrongKind none = ap is_some none
  broadcast-kind NoSender bad = absurd bad
  broadcast-kind NotLive there = there
  broadcast-kind Blocked bad = absurd bad
  broadcast-kind LogFull there = there
  broadcast-kind Short there = there

  watch-refuses : (why : NoEvent) → Declines (watch_call e) why → MayRefuse e why
  watch-refuses NoTopic bad = absurd bad
  watch-refuses WrongKind none = inr none
  watch-refuses NoSender bad = absurd bad
  watch-refuses NotLive there = own
  watch-refuses Blocked bad = absurd bad
  watch-refuses LogFull there = stays
  watch-refuses Short there = stays

  watch-kind : (why : NoEvent) → Declines (watch_call e) why → TellsKind Kinds.Watch e (Err why)
  watch-kind NoTopic bad = absurd bad
  watch-kind WrongKind none = ap is_some none
  watch-kind NoSender bad = absurd bad
  watch-kind NotLive there = there
  watch-kind Blocked bad = absurd bad
  watch-kind LogFull there = there
  watch-kind Short there = there

  module _ (old new : Holder) (same : new.number ≡ old.number) where
    broadcast-did : (said : Result BroadcastReceipt NoEvent) → Enters n (broadcast_call e) old new said →
        Does n e (Broadcast old) (Broadcast new) (noted_of (broadcast_outcome e) (λ r. Broadcast r) said)
    broadcast-did (Ok r) enters = record {
      says = ((enters.0, refl), stays);
      kind = ap is_some enters.0.0;
      full = tt;
      number = same;
      rolls = enters.2;
      knows = enters.1;
    }
    broadcast-did (Err why) enters = record {
      says = (refl, broadcast-refuses why enters.0);
      kind = broadcast-kind why enters.0;
      full = enters.2;
      number = same;
      rolls = ap (λ (h : Holder). h.rolls) enters.1;
      knows = ap (λ (h : Holder). Broadcast h) enters.1;
    }

    pub broadcast-does : (said : Result BroadcastReceipt NoEvent) (noted : Noted) →
        noted ≡ noted_of (broadcast_outcome e) (λ r. Broadcast r) said →
        Enters n (broadcast_call e) old new said → Does n e (Broadcast old) (Broadcast new) noted
    broadcast-does said noted is enters = subst (Does n e (Broadcast old) (Broadcast new)) (sym is) (broadcast-did said enters)

    watch-did : (said : Result WatchReceipt NoEvent) → Enters n (watch_call e) old new said →
        Does n e (Watch old) (Watch new) (noted_of (watch_outcome e) (λ r. Watch r) said)
    watch-did (Ok r) enters = record {
      says = ((enters.0, refl), stays);
      kind = ap is_some enters.0.0;
      full = tt;
      number = same;
      rolls = enters.2;
      knows = enters.1;
    }
    watch-did (Err why) enters = record {
      says = (refl, watch-refuses why enters.0);
      kind = watch-kind why enters.0;
      full = enters.2;
      number = same;
      rolls = ap (λ (h : Holder). h.rolls) enters.1;
      knows = ap (λ (h : Holder). Watch h) enters.1;
    }

    pub watch-does : (said : Result WatchReceipt NoEvent) (noted : Noted) →
        noted ≡ noted_of (watch_outcome e) (λ r. Watch r) said →
        Enters n (watch_call e) old new said → Does n e (Watch old) (Watch new) noted
    watch-does said noted is enters = subst (Does n e (Watch old) (Watch new)) (sym is) (watch-did said enters)

-- what is left of a broadcast receiver, once another was asked for in its place
abbrev pub left_of : ℕ → Option Holder → TopicReceiver
left_of n None = Spent n
left_of n (Some h) = Live (Broadcast h)

module _ {M : Type 0} (n : ℕ) (call : Option (BCall Bytes)) (old : Holder) where
  pub moved : (left : Option Holder) (new : BroadcastReceipt × Option Holder) (share : Option Part) (made : M) →
      Moves n call old left (Ok (new, share)) →
      ReceiverMoves (Broadcast old) (left_of old.number left) (Ok (made, share)) (Some (Broadcast new.0))
  moved None (r, Some h) (Some share) made moves = ((refl, moves.1), moves.2)
  moved None (r, Some h) None made moves = absurd moves
  moved None (r, None) share made moves = absurd moves
  moved (Some left) (r, None) None made moves = (moves.1, moves.3)
  moved (Some left) (r, None) (Some share) made moves = absurd moves
  moved (Some left) (r, Some h) share made moves = absurd moves

-- the last event of a handle, which the channel is done with
done-broadcast : (reply : BReply Bytes) → reply ≡ BReplies.Done → Ended ≡ ended_or (is_broadcast_done reply) (Broadcast reply)
done-broadcast reply is = ap (λ (r : BReply Bytes). ended_or (is_broadcast_done r) (Broadcast r)) (sym is)

done-watch : (reply : WReply Bytes) → reply ≡ WReplies.Done → Ended ≡ ended_or (is_watch_done reply) (Watch reply)
done-watch reply is = ap (λ (r : WReply Bytes). ended_or (is_watch_done r) (Watch r)) (sym is)

module _ (n : ℕ) where
  pub ends-broadcast-tx : (by : By) → HasEnded {C = BCall Bytes} {R = BReply Bytes} n (BCalls.DropTx
      (sender_of by)) BReplies.Done → MaySay (On n (DropsTx by)) (Ok Ended, None)
  ends-broadcast-tx by h = (Broadcast h.0, (h.1, done-broadcast h.0.reply h.2), refl)

  pub ends-watch-tx : (by : By) → HasEnded {C = WCall Bytes} {R = WReply Bytes} n (WCalls.DropTx (sender_of by)) WReplies.Done → MaySay
      (On n (DropsTx by)) (Ok Ended, None)
  ends-watch-tx by h = (Watch h.0, (h.1, done-watch h.0.reply h.2), refl)

  pub ends-broadcast-rx : (r : RxId) → HasEnded {C = BCall Bytes} {R = BReply Bytes} n (BCalls.DropRx r) BReplies.Done → MaySay (On n
      (DropsRx r)) (Ok Ended, None)
  ends-broadcast-rx r h = (Broadcast h.0, (h.1, done-broadcast h.0.reply h.2), refl)

  pub ends-watch-rx : (r : RxId) → HasEnded {C = WCall Bytes} {R = WReply Bytes} n (WCalls.DropRx r) WReplies.Done → MaySay (On n
      (DropsRx r)) (Ok Ended, None)
  ends-watch-rx r h = (Watch h.0, (h.1, done-watch h.0.reply h.2), refl)

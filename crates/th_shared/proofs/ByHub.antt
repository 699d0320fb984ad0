-- What goes through the hub's own sender of a topic, by what its call came to.
use Rattle.std.proofs.Common.{◌≡◌, ℕ, Bool, true, false, is_some, Option, Some, None, Result, Ok, Err, MatchOption, slice_get, refl, sym, subst, inl, inr}
use Rattle.std.specs.Map.{values_of}
use Rattle.indexmap.specs.IndexMap.{set_value_at}
use Rattle.th_block.specs.Handles.{Known}
use Rattle.th_model.specs.declared.broadcast.BCall.{BCall}
use Rattle.th_model.specs.declared.broadcast.BCall.TheVariants as BCalls
use Rattle.th_model.specs.declared.broadcast.BReply.{BReply}
use Rattle.th_model.specs.declared.broadcast.BReply.TheVariants as BReplies
use Rattle.th_model.specs.declared.watch.WCall.{WCall}
use Rattle.th_model.specs.declared.watch.WCall.TheVariants as WCalls
use Rattle.th_model.specs.declared.watch.WReply.{WReply}
use Rattle.th_model.specs.declared.watch.WReply.TheVariants as WReplies
use Rattle.th_registry.specs.declared.channel.Channel.{Channel}
use Rattle.th_registry.specs.declared.channel.Channel.TheVariants.{Broadcast, Watch}
use Rattle.th_registry.specs.declared.outcome.NoEvent.{NoEvent}
use Rattle.th_registry.specs.declared.outcome.NoEvent.TheVariants.{NoTopic, WrongKind, NoSender, NotLive, Blocked, LogFull, Short}
use Rattle.th_registry.specs.Calls.{Bytes, tx}
use Rattle.th_registry.specs.Events.{DropsTx, Event, Hub, broadcast_call, broadcast_outcome, is_by_hub, is_end, watch_call, watch_outcome}
use Rattle.th_registry.specs.Hub.{Noted, On, Topics}
use Rattle.th_registry.specs.Receipts.{BroadcastReceipt, WatchReceipt}
use Rattle.th_registry.specs.Typed.{ended}
use Rattle.th_shared.specs.ByHub.{DeclinesHub, EndsHub, EntersHub, TopicDoes, TopicEnds}
use Rattle.th_shared.specs.Doing.{HasEnded, noted_of}
use Rattle.th_shared.specs.OwnSender.{OwnSender}
use Rattle.th_shared.specs.Rows.{AtTopic}
use Rattle.th_shared.specs.Saying.{MayRefuse, MaySay}
use Rattle.th_shared.proofs.Doing.{ends-broadcast-tx, ends-watch-tx}

-- of an event that is no end
module _ (n : ℕ) (e : Event) (hub : is_by_hub e ≡ true) (stays : is_end e ≡ false) (old new : OwnSender) where
  broadcast-refuses : (there : Bool) (why : NoEvent) → DeclinesHub (broadcast_call e) there why → MayRefuse e why
  broadcast-refuses there NoTopic d = absurd d
  broadcast-refuses there WrongKind d = inl d
  broadcast-refuses there NoSender d = hub
  broadcast-refuses there NotLive d = absurd d
  broadcast-refuses there Blocked d = absurd d
  broadcast-refuses there LogFull d = stays
  broadcast-refuses there Short d = stays

  broadcast-says : (said : Result BroadcastReceipt NoEvent) → EntersHub n (broadcast_call e) old new said →
      MaySay (On n e) (noted_of (broadcast_outcome e) (λ r. Broadcast r) said)
  broadcast-says (Ok r) enters = ((enters.0, refl), stays)
  broadcast-says (Err why) enters = (refl, broadcast-refuses (is_some old.live) why enters.0)

  watch-refuses : (there : Bool) (why : NoEvent) → DeclinesHub (watch_call e) there why → MayRefuse e why
  watch-refuses there NoTopic d = absurd d
  watch-refuses there WrongKind d = inr d
  watch-refuses there NoSender d = hub
  watch-refuses there NotLive d = absurd d
  watch-refuses there Blocked d = absurd d
  watch-refuses there LogFull d = stays
  watch-refuses there Short d = stays

  watch-says : (said : Result WatchReceipt NoEvent) → EntersHub n (watch_call e) old new said →
      MaySay (On n e) (noted_of (watch_outcome e) (λ r. Watch r) said)
  watch-says (Ok r) enters = ((enters.0, refl), stays)
  watch-says (Err why) enters = (refl, watch-refuses (is_some old.live) why enters.0)

-- what may be said of an event follows
pub does-says : (n : ℕ) (e : Event) → is_by_hub e ≡ true → is_end e ≡ false → (noted : Noted) (old new : Channel OwnSender OwnSender) →
    TopicDoes n e noted old new → MaySay (On n e) noted
does-says n e hub stays noted (Broadcast old) (Broadcast new) d =
    subst (MaySay (On n e)) (sym d.1) (broadcast-says n e hub stays old new d.0 d.2)
does-says n e hub stays noted (Watch old) (Watch new) d =
    subst (MaySay (On n e)) (sym d.1) (watch-says n e hub stays old new d.0 d.2)
does-says n e hub stays noted (Broadcast old) (Watch new) d = absurd d
does-says n e hub stays noted (Watch old) (Broadcast new) d = absurd d

-- and of the end of the hub's own sender
module _ (n : ℕ) where
  has-ended : {C R : Type 0} {call : C} {done : R} (o : Option Known) (P : Known → Type 0) →
      MatchOption o ⊥ (λ own. HasEnded {C = C} {R = R} n call done × P own) → HasEnded {C = C} {R = R} n call done
  has-ended (Some k) P h = h.0
  has-ended None P h = absurd h

  no-end : (why : NoEvent) → why ≡ NoSender → MaySay (On n (DropsTx Hub)) (Err why, None)
  no-end why is = (refl, subst (MayRefuse (DropsTx Hub)) (sym is) refl)

  broadcast-ends : (old new : OwnSender) (said : Result (Unit {0}) NoEvent) →
      EndsHub {C = BCall Bytes} {R = BReply Bytes} n (BCalls.DropTx (tx 1)) BReplies.Done old new said →
      MaySay (On n (DropsTx Hub)) (ended said)
  broadcast-ends old new (Ok u) h = ends-broadcast-tx n Hub (has-ended old.live _ h)
  broadcast-ends old new (Err why) h = no-end why h.0

  watch-ends : (old new : OwnSender) (said : Result (Unit {0}) NoEvent) →
      EndsHub {C = WCall Bytes} {R = WReply Bytes} n (WCalls.DropTx (tx 1)) WReplies.Done old new said →
      MaySay (On n (DropsTx Hub)) (ended said)
  watch-ends old new (Ok u) h = ends-watch-tx n Hub (has-ended old.live _ h)
  watch-ends old new (Err why) h = no-end why h.0

  pub ends-says : (noted : Noted) (old new : Channel OwnSender OwnSender) → TopicEnds n noted old new → MaySay (On n (DropsTx Hub)) noted
  ends-says noted (Broadcast old) (Broadcast new) d = subst (MaySay (On n (DropsTx Hub))) (sym d.1) (broadcast-ends old new d.0 d.2)
  ends-says noted (Watch old) (Watch new) d = subst (MaySay (On n (DropsTx Hub))) (sym d.1) (watch-ends old new d.0 d.2)
  ends-says noted (Broadcast old) (Watch new) d = absurd d
  ends-says noted (Watch old) (Broadcast new) d = absurd d

-- on the topic of a number
module _ {B W : Type 0} (n : ℕ) (does : Noted → Channel B W → Channel B W → Type 0) (ts : Topics B W) where
  abbrev At : Noted → Topics B W → Option (Channel B W) → Type 0
  At noted after o = MatchOption o ((noted ≡ (Err NoTopic, None)) × (after ≡ ts))
      (λ c. (d : Channel B W) × does noted c d × (after ≡ set_value_at ts n d))

  pub at-none : slice_get (values_of ts) n ≡ None → AtTopic n does (Err NoTopic, None) ts ts
  at-none none = subst (At (Err NoTopic, None) ts) (sym none) (refl, refl)

  pub at-one : {c d : Channel B W} {noted : Noted} → slice_get (values_of ts) n ≡ Some c → does noted c d →
      AtTopic n does noted ts (set_value_at ts n d)
  at-one {c} {d} {noted} one did = subst (At noted (set_value_at ts n d)) (sym one) (d, did, refl)

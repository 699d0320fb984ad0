-- What goes through the hub's own sender of a topic, as the functions say that are lent the topics under their lock.
use Rattle.std.specs.Prelude.{◌≡◌, ℕ, Bool, true, false, is_some, Option, Some, None, IsSome, Result, Ok, Err, IfSome, MatchOption}
use Rattle.th_block.specs.Handles.{Known}
use Rattle.th_log.specs.Outcome.{Told, counted}
use Rattle.th_model.specs.declared.broadcast.BCall.{BCall}
use Rattle.th_model.specs.declared.broadcast.BCall.TheVariants as BCalls
use Rattle.th_model.specs.declared.broadcast.BReply.{BReply}
use Rattle.th_model.specs.declared.broadcast.BReply.TheVariants as BReplies
use Rattle.th_model.specs.declared.watch.WCall.{WCall}
use Rattle.th_model.specs.declared.watch.WCall.TheVariants as WCalls
use Rattle.th_model.specs.declared.watch.WReply.{WReply}
use Rattle.th_model.specs.declared.watch.WReply.TheVariants as WReplies
use Rattle.th_registry.specs.Calls.{Bytes, tx}
use Rattle.th_registry.specs.declared.channel.Channel.{Channel}
use Rattle.th_registry.specs.declared.channel.Channel.TheVariants.{Broadcast, Watch}
use Rattle.th_registry.specs.declared.outcome.NoEvent.{NoEvent}
use Rattle.th_registry.specs.declared.outcome.NoEvent.TheVariants.{WrongKind, NoSender, LogFull, Short}
use Rattle.th_registry.specs.Events.{Event, broadcast_call, broadcast_outcome, watch_call, watch_outcome}
use Rattle.th_registry.specs.Hub.{Noted}
use Rattle.th_registry.specs.Receipts.{BroadcastReceipt, WatchReceipt}
use Rattle.th_registry.specs.Typed.{ended}
use Rattle.th_seats.specs.Tally.{Part}
use Rattle.th_shared.specs.Doing.{HasEnded, HasMade, IsFullAsSeen, noted_of}
use Rattle.th_shared.specs.OwnSender.{OwnSender}
use Rattle.th_shared.specs.Saying.{IsOf}

-- Why there is no event through the hub's own sender: its kind has no such call; or it has, and the sender has ended; or it is
-- there, and the log is full, or there was no memory.
abbrev pub DeclinesHub : {C : Type 0} → Option C → (there : Bool) → NoEvent → Type 0
DeclinesHub call there WrongKind = call ≡ None
DeclinesHub call there NoSender = IsSome call × (there ≡ false)
DeclinesHub call there LogFull = IsSome call × (there ≡ true)
DeclinesHub call there Short = IsSome call × (there ≡ true)
DeclinesHub call there why = ⊥

-- the hub's own sender, once it has ended with this share
abbrev pub ended_with : (rolls : Bool) → Part → OwnSender
ended_with rolls share = record { live = None; share = Some share; rolls = rolls }

module _ {C R : Type 0} where
  -- the hub's own sender has made the event of this receipt, and stays
  abbrev pub OwnMade : (old new : Option Known) → Told C R → Type 0
  OwnMade (Some old) (Some new) r = HasMade old new r
  OwnMade old new r = ⊥

  -- a call through the hub's own sender, if its kind has it: one event, or none, and then nothing has changed
  abbrev pub EntersHub : ℕ → Option C → (old new : OwnSender) → Result (Told C R) NoEvent → Type 0
  EntersHub n call old new (Ok r) =
      IsOf n call r × OwnMade old.live new.live r × (new.share ≡ old.share)
      × (new.rolls ≡ old.rolls)
  EntersHub n call old new (Err why) = DeclinesHub call (is_some old.live) why × (new ≡ old)
      × IfSome old.live (λ own. IsFullAsSeen old.rolls own why)

  -- The last event of the hub's own sender, which is answered so: its share stays, with one event more. Or it has ended before,
  -- and nothing changes; one that its channel does not know ends with the share that it has.
  abbrev pub EndsHub : ℕ → C → (done : R) → (old new : OwnSender) → Result (Unit {0}) NoEvent
      → Type 0
  EndsHub n call done old new (Ok _) = MatchOption old.live ⊥ (λ own.
      HasEnded n call done × (new ≡ ended_with old.rolls (counted own.share)))
  EndsHub n call done old new (Err why) = (why ≡ NoSender)
      × MatchOption old.live (new ≡ old) (λ own. new ≡ ended_with old.rolls own.share)

-- One event of a topic through its hub's own sender, or none: what its channel says to the call, as that is noted.
abbrev pub TopicDoes : ℕ → Event → Noted → (old new : Channel OwnSender OwnSender) → Type 0
TopicDoes n e noted (Broadcast old) (Broadcast new) = (said : Result BroadcastReceipt NoEvent)
    × (noted ≡ noted_of (broadcast_outcome e) (λ r. Broadcast r) said)
    × EntersHub n (broadcast_call e) old new said
TopicDoes n e noted (Watch old) (Watch new) = (said : Result WatchReceipt NoEvent)
    × (noted ≡ noted_of (watch_outcome e) (λ r. Watch r) said)
    × EntersHub n (watch_call e) old new said
TopicDoes n e noted old new = ⊥

-- the end of the hub's own sender of a topic
abbrev pub TopicEnds : ℕ → Noted → (old new : Channel OwnSender OwnSender) → Type 0
TopicEnds n noted (Broadcast old) (Broadcast new) = (said : Result (Unit {0}) NoEvent)
    × (noted ≡ ended said) × EndsHub {C = BCall Bytes} {R = BReply Bytes}
    n (BCalls.DropTx (tx 1)) BReplies.Done old new said
TopicEnds n noted (Watch old) (Watch new) = (said : Result (Unit {0}) NoEvent)
    × (noted ≡ ended said) × EndsHub {C = WCall Bytes} {R = WReply Bytes}
    n (WCalls.DropTx (tx 1)) WReplies.Done old new said
TopicEnds n noted old new = ⊥

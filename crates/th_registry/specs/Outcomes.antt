-- What one channel may say of a call and of an event: the picture's answer, or want of memory with nothing changed.
use Rattle.std.specs.Prelude.{◌≡◌, ◌⊎◌, Bool, true, false, Option, Some, None, Result, Ok, Err, IfOk, is_ok}
use Rattle.th_model.specs.declared.handles.RxId.{RxId}
use Rattle.th_model.specs.declared.handles.TxId.{TxId}
use Rattle.th_log.specs.History.{Machine, live_after}
use Rattle.th_registry.specs.declared.outcome.NoEvent.{NoEvent}
use Rattle.th_registry.specs.declared.outcome.NoEvent.TheVariants.{Short}
use Rattle.th_registry.specs.Events.{Event, EventResult, takes_memory}
use Rattle.th_registry.specs.Hub.{Noted, channel_event, channel_receipt, cut_channel, hub_replies, if_room, moved_by}
use Rattle.th_registry.specs.History.{ChannelSegment, History, is_full, recorded}
use Rattle.th_registry.specs.Pictures.{SeenChannel, seen_broadcast, seen_by, seen_watch}
use Rattle.th_registry.specs.Receipts.{Receipt, receipt_of, reply_of}

-- this is said; or that there was no memory, where it is asked for before this is said, and nothing has changed
abbrev pub SaysOrShort : {A C : Type 0} → (refusal : A) → (A → Bool) → A × C → C → A → C → Type 0
SaysOrShort refusal takes s old said new =
    (s ≡ (said, new)) ⊎ ((said ≡ refusal) × (new ≡ old) × (takes s.0 ≡ true))

-- of one call, whose receipt is this
abbrev pub CallSays : {S C R : Type 0} → Result R NoEvent × History S S C R →
    Option C → History S S C R →
    Result (Receipt C R) NoEvent → History S S C R → Type 0
CallSays s call old said new =
    SaysOrShort (Err Short) is_ok s old (reply_of said) new
    × IfOk said (λ r. (call ≡ Some r.call) × (r ≡ receipt_of old r.call r.reply))

-- of a kind of channel
module _ {E S C R : Type 0} (m : Machine E S C R) (has_sender : S → TxId → Bool)
    (has_receiver : S → RxId → Bool) (waits : C → R → Bool) where
  -- one call, through the hub's own sender or not
  abbrev pub KindSays : History S S C R → (by_hub : Bool) → Option C →
      Result (Receipt C R) NoEvent → History S S C R → Type 0
  KindSays old by_hub call said new =
      let seen = seen_by m has_sender has_receiver in
      CallSays (hub_replies seen waits old by_hub call) call old said new

  -- a call that is to be made, which the log then has room for or not; or the reason why it is none
  abbrev pub Allows : History S S C R → (by_hub : Bool) → Option C → Result C NoEvent → Type 0
  Allows old by_hub call (Ok c) =
      let seen = seen_by m has_sender has_receiver in
      (call ≡ Some c) × (m.ready old.state c ≡ true)
      × (hub_replies seen waits old by_hub call ≡ if_room seen old c)
  Allows old by_hub call (Err why) =
      let seen = seen_by m has_sender has_receiver in
      hub_replies seen waits old by_hub call ≡ (Err why, old)

  -- a call that is to make a receiver, and where it did, the last call of the old one
  abbrev pub KindMoves : (R → Option RxId) → (last : C) → History S S C R → Option C →
      Result (Receipt C R) NoEvent → History S S C R → Type 0
  KindMoves made_rx last old call said new =
      let seen = seen_by m has_sender has_receiver in
      CallSays (moved_by seen made_rx last (hub_replies seen waits old false call))
      call old said new

-- the end of a handle by its last call, for which no memory is asked; or why there was none, where it is not live
abbrev pub KindEnds : {E S C R : Type 0} → Machine E S C R → (done : R) → (live : Bool) →
    (last : C) → (lacks : NoEvent) → History S S C R → Result (Unit {0}) NoEvent →
    History S S C R → Type 0
KindEnds m done live last lacks old (Ok _) new =
    (live ≡ true) × (is_full old (live_after m old.state last) ≡ false)
    × (recorded old last (m.answer old.state last) ≡ (done, new))
KindEnds m done live last lacks old (Err why) new =
    (why ≡ lacks) × (live ≡ false) × (new ≡ old)

-- of an event, whose receipt is this, if one is handed out
abbrev pub NotesOrShort : {C : Type 0} → (EventResult → Bool) → Noted × C → C → Noted → C → Type 0
NotesOrShort takes s old noted new =
    SaysOrShort (Err Short, None) (λ noted. takes noted.0) s old noted new

-- what a channel may say of an event
abbrev pub ChannelTells : SeenChannel → Event → Noted → SeenChannel → Type 0
ChannelTells old e noted new =
    let s = channel_event seen_broadcast seen_watch old e in
    let receipt = channel_receipt seen_broadcast seen_watch old e in
    NotesOrShort (takes_memory e) ((s.0, receipt), s.1) old noted new

-- and of its segment
abbrev pub ChannelCuts : SeenChannel → Result ChannelSegment NoEvent → SeenChannel → Type 0
ChannelCuts old segment new =
    SaysOrShort (Err Short) is_ok (cut_channel seen_broadcast seen_watch old) old segment new

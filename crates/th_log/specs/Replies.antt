-- What replies tell: the handles that were made, that nothing comes any more, and that there is
-- news; and which replies the calls of receivers may have (docs/CHANNELS.md).
use Rattle.std.specs.Prelude.{ℕ, ◌<◌, Bool, true, false, Option, Some, None}
use Rattle.th_model.specs.declared.handles.TxId.{TxId}
use Rattle.th_model.specs.declared.handles.RxId.{RxId}
use Rattle.th_model.specs.declared.broadcast.BCall.{BCall}
use Rattle.th_model.specs.declared.broadcast.BReply.{BReply}
use Rattle.th_model.specs.declared.broadcast.BReply.TheVariants as BReplies
use Rattle.th_model.specs.declared.watch.WCall.{WCall}
use Rattle.th_model.specs.declared.watch.WCall.TheVariants as WCalls
use Rattle.th_model.specs.declared.watch.WReply.{WReply}
use Rattle.th_model.specs.declared.watch.WReply.TheVariants as WReplies

module _ {T : Type 0} where
  -- the sender that a reply tells of
  abbrev pub broadcast_made_tx : BReply T → Option TxId
  broadcast_made_tx (BReplies.NewTx t) = Some t
  broadcast_made_tx reply = None

  abbrev pub watch_made_tx : WReply T → Option TxId
  watch_made_tx (WReplies.NewTx t) = Some t
  watch_made_tx reply = None

  -- the receiver that a reply tells of
  abbrev pub broadcast_made_rx : BReply T → Option RxId
  broadcast_made_rx (BReplies.NewRx r) = Some r
  broadcast_made_rx reply = None

  abbrev pub watch_made_rx : WReply T → Option RxId
  watch_made_rx (WReplies.NewRx r) = Some r
  watch_made_rx reply = None

  -- nothing will come any more for a receiver that was told so
  abbrev pub broadcast_ends : BReply T → Bool
  broadcast_ends BReplies.Closed = true
  broadcast_ends (BReplies.NoHandle back) = true
  broadcast_ends reply = false

  abbrev pub watch_ends : WReply T → Bool
  watch_ends WReplies.Closed = true
  watch_ends (WReplies.NoHandle back) = true
  watch_ends reply = false

  -- there is news for those who wait: a value was sent, a version was published
  abbrev pub broadcast_is_news : BCall T → BReply T → Bool
  broadcast_is_news call (BReplies.Sent n) = true
  broadcast_is_news call reply = false

  abbrev pub watch_is_news : WCall T → WReply T → Bool
  watch_is_news (WCalls.Send t v) WReplies.Done = true
  watch_is_news (WCalls.Replace t v) (WReplies.Was old) = true
  watch_is_news (WCalls.EditBy t change) (WReplies.Modified true) = true
  watch_is_news call reply = false

  -- what a receive that waits may be told: a value, that some were missed, or that none will come
  abbrev pub IsReceived : BReply T → Type 0
  IsReceived (BReplies.Value v) = Unit {0}
  IsReceived (BReplies.Lagged missed) = 0 < missed
  IsReceived BReplies.Closed = Unit {0}
  IsReceived (BReplies.NoHandle back) = Unit {0}
  IsReceived reply = ⊥

  -- and one that does not wait: the same, or that there is none yet
  abbrev pub IsTried : BReply T → Type 0
  IsTried BReplies.Empty = Unit {0}
  IsTried reply = IsReceived reply

  -- what a wait for a version may be told: that there is one, or that none will come
  abbrev pub IsChanged : WReply T → Type 0
  IsChanged WReplies.Marked = Unit {0}
  IsChanged WReplies.Closed = Unit {0}
  IsChanged (WReplies.NoHandle back) = Unit {0}
  IsChanged reply = ⊥

-- the number of one handle of either side
abbrev pub number_of : Option TxId → Option RxId → Option ℕ
number_of (Some t) r = Some t.0
number_of None (Some r) = Some r.0
number_of None None = None

-- the number of the handle that a reply tells of, on either side
abbrev pub made_by : {R : Type 0} → (R → Option TxId) → (R → Option RxId) → R → Option ℕ
made_by made_tx made_rx reply = number_of (made_tx reply) (made_rx reply)

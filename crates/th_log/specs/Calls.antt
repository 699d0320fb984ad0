-- The table of calls: which call of a channel a verb stands for, by the side of the handle and the kind of the channel;
-- and who makes a call.
use Rattle.std.specs.Prelude.{ℕ, Bool, true, false, Option, Some, None}
use Rattle.th_model.specs.declared.handles.TxId.{TxId}
use Rattle.th_model.specs.declared.handles.RxId.{RxId}
use Rattle.th_model.specs.declared.broadcast.BCall.{BCall}
use Rattle.th_model.specs.declared.broadcast.BCall.TheVariants as BCalls
use Rattle.th_model.specs.declared.broadcast.BReply.{BReply}
use Rattle.th_model.specs.declared.broadcast.BReply.TheVariants as BReplies
use Rattle.th_model.specs.declared.watch.Edit.TheVariants as Edits
use Rattle.th_model.specs.declared.watch.WCall.{WCall}
use Rattle.th_model.specs.declared.watch.WCall.TheVariants as WCalls
use Rattle.th_model.specs.declared.watch.WReply.{WReply}
use Rattle.th_model.specs.declared.watch.WReply.TheVariants as WReplies
use Rattle.th_model.specs.declared.verb.Question.{Question}
use Rattle.th_model.specs.declared.verb.Question.TheVariants.{Queued, Readers}
use Rattle.th_model.specs.declared.verb.ReceiverVerb.{ReceiverVerb}
use Rattle.th_model.specs.declared.verb.ReceiverVerb.TheVariants.{TryRecv, Recv, Left, Borrow, Take, HasChanged, TryChanged, Changed, MarkChanged, MarkUnchanged}
use Rattle.th_model.specs.declared.verb.SenderVerb.{SenderVerb}
use Rattle.th_model.specs.declared.verb.SenderVerb.TheVariants.{Send, Replace, Set, Differ, Quiet}
use Rattle.th_model.specs.declared.verb.Start.{Start}
use Rattle.th_model.specs.declared.verb.Start.TheVariants.{Tail, Oldest}

module _ {T : Type 0} where
  -- a sender's call of a broadcast channel, and of a watch channel, if it has one for the verb
  abbrev pub broadcast_by_sender : SenderVerb T → TxId → Option (BCall T)
  broadcast_by_sender (Send v) t = Some (BCalls.Send t v)
  broadcast_by_sender verb t = None

  abbrev pub watch_by_sender : SenderVerb T → TxId → Option (WCall T)
  watch_by_sender (Send v) t = Some (WCalls.Send t v)
  watch_by_sender (Replace v) t = Some (WCalls.Replace t v)
  watch_by_sender (Set v) t = Some (WCalls.EditBy t (Edits.Set v))
  watch_by_sender (Differ v) t = Some (WCalls.EditBy t (Edits.Differ v))
  watch_by_sender (Quiet v) t = Some (WCalls.EditBy t (Edits.Quiet v))

  -- the call that asks a question through a sender
  abbrev pub broadcast_asked : Question → TxId → Option (BCall T)
  broadcast_asked Queued t = Some (BCalls.Queued t)
  broadcast_asked Readers t = Some (BCalls.Readers t)

  abbrev pub watch_asked : Question → TxId → Option (WCall T)
  watch_asked Queued t = None
  watch_asked Readers t = Some (WCalls.Readers t)

  -- a receiver's call
  abbrev pub broadcast_by_receiver : ReceiverVerb → RxId → Option (BCall T)
  broadcast_by_receiver TryRecv r = Some (BCalls.TryRecv r)
  broadcast_by_receiver Recv r = Some (BCalls.Recv r)
  broadcast_by_receiver Left r = Some (BCalls.Left r)
  broadcast_by_receiver verb r = None

  abbrev pub watch_by_receiver : ReceiverVerb → RxId → Option (WCall T)
  watch_by_receiver Borrow r = Some (WCalls.Borrow r)
  watch_by_receiver Take r = Some (WCalls.Take r)
  watch_by_receiver HasChanged r = Some (WCalls.HasChanged r)
  watch_by_receiver TryChanged r = Some (WCalls.TryChanged r)
  watch_by_receiver Changed r = Some (WCalls.Changed r)
  watch_by_receiver MarkChanged r = Some (WCalls.MarkChanged r)
  watch_by_receiver MarkUnchanged r = Some (WCalls.MarkUnchanged r)
  watch_by_receiver verb r = None

  -- the call through a sender that makes a receiver which begins so
  abbrev pub broadcast_subscribing : Start → TxId → Option (BCall T)
  broadcast_subscribing Tail t = Some (BCalls.Subscribe t)
  broadcast_subscribing Oldest t = Some (BCalls.SubscribeOldest t)

  abbrev pub watch_subscribing : Start → TxId → Option (WCall T)
  watch_subscribing Tail t = Some (WCalls.Subscribe t)
  watch_subscribing Oldest t = None

  -- a blocking call waits where its reply would be that there is nothing to tell yet
  abbrev pub broadcast_waits : BCall T → BReply T → Bool
  broadcast_waits (BCalls.Recv r) BReplies.Empty = true
  broadcast_waits call reply = false

  abbrev pub watch_waits : WCall T → WReply T → Bool
  watch_waits (WCalls.Changed r) WReplies.NotYet = true
  watch_waits call reply = false

  -- the number of the handle that makes a call
  abbrev pub broadcast_handle_of : BCall T → ℕ
  broadcast_handle_of (BCalls.Send t v) = t.0
  broadcast_handle_of (BCalls.TryRecv r) = r.0
  broadcast_handle_of (BCalls.Recv r) = r.0
  broadcast_handle_of (BCalls.Subscribe t) = t.0
  broadcast_handle_of (BCalls.SubscribeOldest t) = t.0
  broadcast_handle_of (BCalls.Resubscribe r) = r.0
  broadcast_handle_of (BCalls.CloneTx t) = t.0
  broadcast_handle_of (BCalls.DropTx t) = t.0
  broadcast_handle_of (BCalls.DropRx r) = r.0
  broadcast_handle_of (BCalls.Queued t) = t.0
  broadcast_handle_of (BCalls.Left r) = r.0
  broadcast_handle_of (BCalls.Readers t) = t.0

  abbrev pub watch_handle_of : WCall T → ℕ
  watch_handle_of (WCalls.Send t v) = t.0
  watch_handle_of (WCalls.Replace t v) = t.0
  watch_handle_of (WCalls.EditBy t change) = t.0
  watch_handle_of (WCalls.Borrow r) = r.0
  watch_handle_of (WCalls.Take r) = r.0
  watch_handle_of (WCalls.HasChanged r) = r.0
  watch_handle_of (WCalls.TryChanged r) = r.0
  watch_handle_of (WCalls.Changed r) = r.0
  watch_handle_of (WCalls.MarkChanged r) = r.0
  watch_handle_of (WCalls.MarkUnchanged r) = r.0
  watch_handle_of (WCalls.Subscribe t) = t.0
  watch_handle_of (WCalls.CloneRx r) = r.0
  watch_handle_of (WCalls.CloneTx t) = t.0
  watch_handle_of (WCalls.DropTx t) = t.0
  watch_handle_of (WCalls.DropRx r) = r.0
  watch_handle_of (WCalls.IsClosed t) = t.0
  watch_handle_of (WCalls.Readers t) = t.0

  -- the sender that makes a call, of those calls that neither make nor spend a handle
  abbrev pub broadcast_sender_of : BCall T → Option ℕ
  broadcast_sender_of (BCalls.Send t v) = Some t.0
  broadcast_sender_of (BCalls.Queued t) = Some t.0
  broadcast_sender_of (BCalls.Readers t) = Some t.0
  broadcast_sender_of call = None

  abbrev pub watch_sender_of : WCall T → Option ℕ
  watch_sender_of (WCalls.Send t v) = Some t.0
  watch_sender_of (WCalls.Replace t v) = Some t.0
  watch_sender_of (WCalls.EditBy t change) = Some t.0
  watch_sender_of (WCalls.IsClosed t) = Some t.0
  watch_sender_of (WCalls.Readers t) = Some t.0
  watch_sender_of call = None

  -- and the receiver
  abbrev pub broadcast_receiver_of : BCall T → Option ℕ
  broadcast_receiver_of (BCalls.TryRecv r) = Some r.0
  broadcast_receiver_of (BCalls.Recv r) = Some r.0
  broadcast_receiver_of (BCalls.Left r) = Some r.0
  broadcast_receiver_of call = None

  abbrev pub watch_receiver_of : WCall T → Option ℕ
  watch_receiver_of (WCalls.Borrow r) = Some r.0
  watch_receiver_of (WCalls.Take r) = Some r.0
  watch_receiver_of (WCalls.HasChanged r) = Some r.0
  watch_receiver_of (WCalls.TryChanged r) = Some r.0
  watch_receiver_of (WCalls.Changed r) = Some r.0
  watch_receiver_of (WCalls.MarkChanged r) = Some r.0
  watch_receiver_of (WCalls.MarkUnchanged r) = Some r.0
  watch_receiver_of call = None

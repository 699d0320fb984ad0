-- A channel as a trace tells of it: each value is as it is spelled (docs/FORMATS.md, "Traces").
use Rattle.std.specs.Prelude.{map, Option, Some, None}
use Rattle.th_model.specs.declared.broadcast.BCall.{BCall}
use Rattle.th_model.specs.declared.broadcast.BCall.TheVariants as call
use Rattle.th_model.specs.declared.broadcast.BReply.{BReply}
use Rattle.th_model.specs.declared.broadcast.BReply.TheVariants as reply
use Rattle.th_model.specs.declared.watch.Edit.{Edit}
use Rattle.th_model.specs.declared.watch.Edit.TheVariants.{Set, Differ, Quiet}
use Rattle.th_model.specs.declared.watch.WCall.{WCall}
use Rattle.th_model.specs.declared.watch.WCall.TheVariants as at
use Rattle.th_model.specs.declared.watch.WReply.{WReply}
use Rattle.th_model.specs.declared.watch.WReply.TheVariants as told
use Rattle.th_model.specs.BroadcastPicture as broadcast
use Rattle.th_model.specs.WatchPicture as watch
use Rattle.th_traces.specs.Spelled.{Bytes}

-- a value that may be there
abbrev pub back : {T : Type 0} → (T → Bytes) → Option T → Option Bytes
back spelled None = None
back spelled (Some value) = Some (spelled value)

abbrev pub broadcast_call : {T : Type 0} → (T → Bytes) → BCall T → BCall Bytes
broadcast_call spelled (call.Send tx value) = call.Send tx (spelled value)
broadcast_call spelled (call.TryRecv rx) = call.TryRecv rx
broadcast_call spelled (call.Recv rx) = call.Recv rx
broadcast_call spelled (call.Subscribe tx) = call.Subscribe tx
broadcast_call spelled (call.SubscribeOldest tx) = call.SubscribeOldest tx
broadcast_call spelled (call.Resubscribe rx) = call.Resubscribe rx
broadcast_call spelled (call.CloneTx tx) = call.CloneTx tx
broadcast_call spelled (call.DropTx tx) = call.DropTx tx
broadcast_call spelled (call.DropRx rx) = call.DropRx rx
broadcast_call spelled (call.Queued tx) = call.Queued tx
broadcast_call spelled (call.Left rx) = call.Left rx
broadcast_call spelled (call.Readers tx) = call.Readers tx

abbrev pub broadcast_reply : {T : Type 0} → (T → Bytes) → BReply T → BReply Bytes
broadcast_reply spelled (reply.Sent n) = reply.Sent n
broadcast_reply spelled (reply.NoReceivers value) = reply.NoReceivers (spelled value)
broadcast_reply spelled (reply.Exhausted value) = reply.Exhausted (spelled value)
broadcast_reply spelled (reply.Value value) = reply.Value (spelled value)
broadcast_reply spelled reply.Empty = reply.Empty
broadcast_reply spelled reply.Closed = reply.Closed
broadcast_reply spelled (reply.Lagged n) = reply.Lagged n
broadcast_reply spelled (reply.NewRx rx) = reply.NewRx rx
broadcast_reply spelled (reply.NewTx tx) = reply.NewTx tx
broadcast_reply spelled (reply.Count n) = reply.Count n
broadcast_reply spelled reply.Done = reply.Done
broadcast_reply spelled reply.TooMany = reply.TooMany
broadcast_reply spelled (reply.NoHandle value) = reply.NoHandle (back spelled value)

abbrev pub broadcast_picture : {T : Type 0} → (T → Bytes) → broadcast.Picture T → broadcast.Picture Bytes
broadcast_picture spelled p = record {
  window = record {
    capacity = p.window.capacity;
    tail = p.window.tail;
    low = p.window.low;
    kept = map spelled p.window.kept;
    places = p.window.places;
  };
  senders = p.senders;
  next = p.next;
}

abbrev pub edit : {T : Type 0} → (T → Bytes) → Edit T → Edit Bytes
edit spelled (Set value) = Set (spelled value)
edit spelled (Differ value) = Differ (spelled value)
edit spelled (Quiet value) = Quiet (spelled value)

abbrev pub watch_call : {T : Type 0} → (T → Bytes) → WCall T → WCall Bytes
watch_call spelled (at.Send tx value) = at.Send tx (spelled value)
watch_call spelled (at.Replace tx value) = at.Replace tx (spelled value)
watch_call spelled (at.EditBy tx change) = at.EditBy tx (edit spelled change)
watch_call spelled (at.Borrow rx) = at.Borrow rx
watch_call spelled (at.Take rx) = at.Take rx
watch_call spelled (at.HasChanged rx) = at.HasChanged rx
watch_call spelled (at.TryChanged rx) = at.TryChanged rx
watch_call spelled (at.Changed rx) = at.Changed rx
watch_call spelled (at.MarkChanged rx) = at.MarkChanged rx
watch_call spelled (at.MarkUnchanged rx) = at.MarkUnchanged rx
watch_call spelled (at.Subscribe tx) = at.Subscribe tx
watch_call spelled (at.CloneRx rx) = at.CloneRx rx
watch_call spelled (at.CloneTx tx) = at.CloneTx tx
watch_call spelled (at.DropTx tx) = at.DropTx tx
watch_call spelled (at.DropRx rx) = at.DropRx rx
watch_call spelled (at.IsClosed tx) = at.IsClosed tx
watch_call spelled (at.Readers tx) = at.Readers tx

abbrev pub watch_reply : {T : Type 0} → (T → Bytes) → WReply T → WReply Bytes
watch_reply spelled told.Done = told.Done
watch_reply spelled (told.NoReceivers value) = told.NoReceivers (spelled value)
watch_reply spelled (told.Exhausted value) = told.Exhausted (spelled value)
watch_reply spelled (told.Was value) = told.Was (spelled value)
watch_reply spelled (told.Modified published) = told.Modified published
watch_reply spelled (told.Shown value unseen) = told.Shown (spelled value) unseen
watch_reply spelled (told.Changed unseen) = told.Changed unseen
watch_reply spelled told.Marked = told.Marked
watch_reply spelled told.NotYet = told.NotYet
watch_reply spelled told.Closed = told.Closed
watch_reply spelled (told.Gone none_left) = told.Gone none_left
watch_reply spelled (told.NewRx rx) = told.NewRx rx
watch_reply spelled (told.NewTx tx) = told.NewTx tx
watch_reply spelled (told.Count n) = told.Count n
watch_reply spelled told.TooMany = told.TooMany
watch_reply spelled (told.NoHandle value) = told.NoHandle (back spelled value)

abbrev pub watch_picture : {T : Type 0} → (T → Bytes) → watch.Picture T → watch.Picture Bytes
watch_picture spelled p = record {
  version = p.version;
  last = spelled p.last;
  readers = p.readers;
  senders = p.senders;
  next = p.next;
}

-- an entry: a call with its reply
abbrev pub broadcast_entry : {T : Type 0} → (T → Bytes) → BCall T × BReply T
    → BCall Bytes × BReply Bytes
broadcast_entry spelled e = (broadcast_call spelled e.0, broadcast_reply spelled e.1)

abbrev pub watch_entry : {T : Type 0} → (T → Bytes) → WCall T × WReply T → WCall Bytes × WReply Bytes
watch_entry spelled e = (watch_call spelled e.0, watch_reply spelled e.1)

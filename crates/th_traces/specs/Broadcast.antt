-- Traces of a broadcast channel, as they are spelled (docs/FORMATS.md, "Traces").
use Rattle.std.specs.Prelude.{ℕ, List, [], ◌∷◌, codes, map}
use Rattle.std.specs.Fmt.{decimal}
use Rattle.th_model.specs.declared.broadcast.BCall.{BCall}
use Rattle.th_model.specs.declared.broadcast.BCall.TheVariants.{Send, TryRecv, Recv, Subscribe, SubscribeOldest, Resubscribe, CloneTx, DropTx, DropRx, Queued, Left, Readers}
use Rattle.th_model.specs.declared.broadcast.BReply.{BReply}
use Rattle.th_model.specs.declared.broadcast.BReply.TheVariants.{Sent, NoReceivers, Exhausted, Value, Empty, Closed, Lagged, NewRx, NewTx, Count, Done, TooMany, NoHandle}
use Rattle.th_model.specs.BroadcastPicture.{Picture}
use Rattle.th_traces.specs.declared.head.Version.{Version}
use Rattle.th_traces.specs.Spelled.{Bytes, PictureFields, told_by}
use Rattle.th_traces.specs.Versions.{digit}

-- the fields of a call
abbrev pub call_fields : BCall Bytes → List Bytes
call_fields (Send tx value) = codes "send" ∷ decimal tx.0 ∷ value ∷ []
call_fields (TryRecv rx) = codes "try-recv" ∷ decimal rx.0 ∷ []
call_fields (Recv rx) = codes "recv" ∷ decimal rx.0 ∷ []
call_fields (Subscribe tx) = codes "subscribe" ∷ decimal tx.0 ∷ []
call_fields (SubscribeOldest tx) = codes "subscribe-oldest" ∷ decimal tx.0 ∷ []
call_fields (Resubscribe rx) = codes "resubscribe" ∷ decimal rx.0 ∷ []
call_fields (CloneTx tx) = codes "clone-tx" ∷ decimal tx.0 ∷ []
call_fields (DropTx tx) = codes "drop-tx" ∷ decimal tx.0 ∷ []
call_fields (DropRx rx) = codes "drop-rx" ∷ decimal rx.0 ∷ []
call_fields (Queued tx) = codes "queued" ∷ decimal tx.0 ∷ []
call_fields (Left rx) = codes "left" ∷ decimal rx.0 ∷ []
call_fields (Readers tx) = codes "readers" ∷ decimal tx.0 ∷ []

-- the fields of a reply; a value that is handed back stands in the line of the call
abbrev pub reply_fields : BReply Bytes → List Bytes
reply_fields (Sent n) = codes "sent" ∷ decimal n ∷ []
reply_fields (NoReceivers back) = codes "no-receivers" ∷ []
reply_fields (Exhausted back) = codes "exhausted" ∷ []
reply_fields (Value value) = codes "value" ∷ value ∷ []
reply_fields Empty = codes "empty" ∷ []
reply_fields Closed = codes "closed" ∷ []
reply_fields (Lagged n) = codes "lagged" ∷ decimal n ∷ []
reply_fields (NewRx rx) = codes "new-rx" ∷ decimal rx.0 ∷ []
reply_fields (NewTx tx) = codes "new-tx" ∷ decimal tx.0 ∷ []
reply_fields (Count n) = codes "count" ∷ decimal n ∷ []
reply_fields Done = codes "done" ∷ []
reply_fields TooMany = codes "too-many" ∷ []
reply_fields (NoHandle back) = codes "no-handle" ∷ []

-- a live receiver, and its place
abbrev pub standing : ℕ × ℕ → ℕ × Bytes
standing rx = (rx.0, decimal rx.1)

-- the fields of the first line, and of where a picture starts
abbrev pub head : Version → ℕ → List Bytes
head version capacity = codes "TRACE" ∷ digit version ∷ codes "B" ∷ decimal capacity ∷ []

abbrev pub start : (low tail : ℕ) → List Bytes
start low tail = decimal low ∷ decimal tail ∷ []

-- what the lines of a picture tell, in a trace of this version
abbrev pub told : Version → Picture Bytes → PictureFields
told version p =
    let w = p.window in
    told_by (head version w.capacity) (start w.low w.tail) p.next w.kept p.senders
    (map standing w.places)

-- Calls and replies of a broadcast channel, as they are read (docs/FORMATS.md, "Traces").
use Rattle.std.specs.Prelude.{◌≡◌, ℕ, true, List, [], ◌∷◌, codes, Option, Some, None, if◌then◌else◌}
use Rattle.th_model.specs.declared.broadcast.BCall.{BCall}
use Rattle.th_model.specs.declared.broadcast.BCall.TheVariants.{Send, TryRecv, Recv, Subscribe, SubscribeOldest, Resubscribe, CloneTx, DropTx, DropRx, Queued, Left, Readers}
use Rattle.th_model.specs.declared.broadcast.BReply.{BReply}
use Rattle.th_model.specs.declared.broadcast.BReply.TheVariants.{Sent, NoReceivers, Exhausted, Value, Empty, Closed, Lagged, NewRx, NewTx, Count, Done, TooMany, NoHandle}
use Rattle.th_lines.specs.Commands.{IsValue}
use Rattle.th_lines.specs.Fields.{ended, number_last, value_last}
use Rattle.th_traces.specs.declared.head.Version.{Version}
use Rattle.th_traces.specs.Spelled.{Bytes}
use Rattle.th_traces.specs.Broadcast.{call_fields, reply_fields}
use Rattle.th_traces.specs.Grammars.{Grammar, reply_of as said_reply}
use Rattle.th_traces.specs.Tables.{IsNumber, Table, behind, by_table, number_value_last, numbered, rx, tx}
use Rattle.th_traces.specs.Versions.{has_call}

abbrev pub send : ℕ → Bytes → BCall Bytes
send number value = Send (tx number) value

-- the calls of handles that a number alone follows: those that end or copy them, and questions
unfoldable pub handle_calls : List (Bytes × (ℕ → BCall Bytes))
handle_calls =
    (codes "clone-tx", λ n. CloneTx (tx n))
    ∷ (codes "drop-tx", λ n. DropTx (tx n))
    ∷ (codes "drop-rx", λ n. DropRx (rx n))
    ∷ (codes "queued", λ n. Queued (tx n))
    ∷ (codes "left", λ n. Left (rx n))
    ∷ (codes "readers", λ n. Readers (tx n))
    ∷ []

-- the calls that a handle's number alone follows
unfoldable pub number_calls : List (Bytes × (ℕ → BCall Bytes))
number_calls =
    (codes "try-recv", λ n. TryRecv (rx n))
    ∷ (codes "recv", λ n. Recv (rx n))
    ∷ (codes "subscribe", λ n. Subscribe (tx n))
    ∷ (codes "subscribe-oldest", λ n. SubscribeOldest (tx n))
    ∷ (codes "resubscribe", λ n. Resubscribe (rx n))
    ∷ handle_calls

abbrev pub calls : Table (BCall Bytes)
calls = (codes "send", number_value_last send) ∷ numbered number_calls

-- the call, if traces of this version have it
abbrev pub if_had : Version → Option (BCall Bytes) → Option (BCall Bytes)
if_had version None = None
if_had version (Some call) = if has_call version call then Some call else None

-- the call that a line says in a trace of this version
unfoldable pub call_of : Version → List ℕ → Option (BCall Bytes)
call_of version line = if_had version (behind (codes "C") (by_table calls) line)

-- the value that a call gives
abbrev pub value_given : BCall Bytes → Option Bytes
value_given (Send tx value) = Some value
value_given call = None

-- the replies that a watch channel does not have
unfoldable pub own_replies : Table (BReply Bytes)
own_replies =
    (codes "value", value_last Value)
    ∷ (codes "sent", number_last Sent)
    ∷ (codes "lagged", number_last Lagged)
    ∷ (codes "empty", ended Empty)
    ∷ []

-- the lines of entries, in a trace of whichever version
abbrev pub grammar : Grammar Version (BCall Bytes) (BReply Bytes)
grammar = record {
  call_fields = call_fields;
  reply_fields = reply_fields;
  call_of = call_of;
  value_given = value_given;
  no_receivers = NoReceivers;
  exhausted = Exhausted;
  no_handle = NoHandle;
  new_rx = λ n. NewRx (rx n);
  new_tx = λ n. NewTx (tx n);
  count = Count;
  done = Done;
  closed = Closed;
  too_many = TooMany;
  own = own_replies;
}

-- the reply to this call that a line says
abbrev pub reply_of : BCall Bytes → List ℕ → Option (BReply Bytes)
reply_of = said_reply grammar

-- the number and the value of a call are such
abbrev pub HasFields : BCall Bytes → Type 0
HasFields (Send tx value) = IsNumber tx.0 × IsValue value
HasFields (TryRecv rx) = IsNumber rx.0
HasFields (Recv rx) = IsNumber rx.0
HasFields (Subscribe tx) = IsNumber tx.0
HasFields (SubscribeOldest tx) = IsNumber tx.0
HasFields (Resubscribe rx) = IsNumber rx.0
HasFields (CloneTx tx) = IsNumber tx.0
HasFields (DropTx tx) = IsNumber tx.0
HasFields (DropRx rx) = IsNumber rx.0
HasFields (Queued tx) = IsNumber tx.0
HasFields (Left rx) = IsNumber rx.0
HasFields (Readers tx) = IsNumber tx.0

-- what is a call of a trace of this version
abbrev pub IsCall : Version → BCall Bytes → Type 0
IsCall version call = HasFields call × (has_call version call ≡ true)

-- the number or the value of a reply is such
abbrev pub ReplyFits : BReply Bytes → Type 0
ReplyFits (Sent n) = IsNumber n
ReplyFits (Value value) = IsValue value
ReplyFits (Lagged n) = IsNumber n
ReplyFits (NewRx rx) = IsNumber rx.0
ReplyFits (NewTx tx) = IsNumber tx.0
ReplyFits (Count n) = IsNumber n
ReplyFits reply = Unit {0}

-- what is handed back is the call's own value
abbrev pub HandsBack : BCall Bytes → BReply Bytes → Type 0
HandsBack call (NoReceivers back) = value_given call ≡ Some back
HandsBack call (Exhausted back) = value_given call ≡ Some back
HandsBack call (NoHandle back) = value_given call ≡ back
HandsBack call reply = Unit {0}

-- what is a reply to a call
abbrev pub IsReplyTo : BCall Bytes → BReply Bytes → Type 0
IsReplyTo call reply = HandsBack call reply × ReplyFits reply

-- Calls and replies of a watch channel, as they are read (docs/FORMATS.md, "Traces").
use Rattle.std.specs.Prelude.{◌≡◌, ℕ, Bool, true, false, List, [], ◌∷◌, codes, Option, Some, None, if◌then◌else◌}
use Rattle.std.specs.Option.{option_map}
use Rattle.std.specs.Str.{bytes_eq}
use Rattle.th_model.specs.declared.watch.Edit.TheVariants.{Set, Differ, Quiet}
use Rattle.th_model.specs.declared.watch.WCall.{WCall}
use Rattle.th_model.specs.declared.watch.WCall.TheVariants.{Send, Replace, EditBy, Borrow, Take, HasChanged, TryChanged, Changed, MarkChanged, MarkUnchanged, Subscribe, CloneRx, CloneTx, DropTx, DropRx, IsClosed, Readers}
use Rattle.th_model.specs.declared.watch.WReply.{WReply}
use Rattle.th_model.specs.declared.watch.WReply.TheVariants.{Done, NoReceivers, Exhausted, Was, Modified, Shown, Marked, NotYet, Closed, Gone, NewRx, NewTx, Count, TooMany, NoHandle}
use Rattle.th_model.specs.declared.watch.WReply.TheVariants as reply
use Rattle.th_lines.specs.Commands.{IsValue}
use Rattle.th_lines.specs.Fields.{Rest, by_word, ended, field_then, value_last}
use Rattle.th_traces.specs.Spelled.{Bytes}
use Rattle.th_traces.specs.Grammars.{Grammar, reply_of as said_reply}
use Rattle.th_traces.specs.Tables.{IsNumber, Table, behind, by_table, number_value_last, numbered, rx, tx}
use Rattle.th_traces.specs.Watch.{call_fields, edit_value, reply_fields}

abbrev pub send : ℕ → Bytes → WCall Bytes
send number value = Send (tx number) value

abbrev pub replace : ℕ → Bytes → WCall Bytes
replace number value = Replace (tx number) value

abbrev pub set : ℕ → Bytes → WCall Bytes
set number value = EditBy (tx number) (Set value)

abbrev pub differ : ℕ → Bytes → WCall Bytes
differ number value = EditBy (tx number) (Differ value)

abbrev pub quiet : ℕ → Bytes → WCall Bytes
quiet number value = EditBy (tx number) (Quiet value)

-- the calls of handles that a number alone follows: of both kinds, and of senders
unfoldable pub handle_calls : List (Bytes × (ℕ → WCall Bytes))
handle_calls =
    (codes "subscribe", λ n. Subscribe (tx n))
    ∷ (codes "clone-rx", λ n. CloneRx (rx n))
    ∷ (codes "clone-tx", λ n. CloneTx (tx n))
    ∷ (codes "drop-tx", λ n. DropTx (tx n))
    ∷ (codes "drop-rx", λ n. DropRx (rx n))
    ∷ (codes "is-closed", λ n. IsClosed (tx n))
    ∷ (codes "readers", λ n. Readers (tx n))
    ∷ []

-- the calls that a handle's number alone follows: looks at the value and its mark, and those
unfoldable pub number_calls : List (Bytes × (ℕ → WCall Bytes))
number_calls =
    (codes "borrow", λ n. Borrow (rx n))
    ∷ (codes "take", λ n. Take (rx n))
    ∷ (codes "has-changed", λ n. HasChanged (rx n))
    ∷ (codes "try-changed", λ n. TryChanged (rx n))
    ∷ (codes "changed", λ n. Changed (rx n))
    ∷ (codes "mark-changed", λ n. MarkChanged (rx n))
    ∷ (codes "mark-unchanged", λ n. MarkUnchanged (rx n))
    ∷ handle_calls

abbrev pub calls : Table (WCall Bytes)
calls =
    (codes "send", number_value_last send)
    ∷ (codes "replace", number_value_last replace)
    ∷ (codes "set", number_value_last set)
    ∷ (codes "differ", number_value_last differ)
    ∷ (codes "quiet", number_value_last quiet)
    ∷ numbered number_calls

-- the call that a line says
unfoldable pub call_of : List ℕ → Option (WCall Bytes)
call_of line = behind (codes "C") (by_table calls) line

-- the value that a call gives
abbrev pub value_given : WCall Bytes → Option Bytes
value_given (Send tx value) = Some value
value_given (Replace tx value) = Some value
value_given (EditBy tx edit) = Some (edit_value edit)
value_given call = None

-- `yes` or `no` as the last field
abbrev pub yes_or_no : Bytes → Rest → Option Bool
yes_or_no word rest =
    if bytes_eq word (codes "yes") then ended true rest
    else if bytes_eq word (codes "no") then ended false rest
    else None

abbrev pub answer_last : (Bool → WReply Bytes) → Rest → Option (WReply Bytes)
answer_last read rest = option_map read (field_then yes_or_no rest)

-- a value that was unseen, or seen already
unfoldable pub shown : Table (WReply Bytes)
shown =
    (codes "new", value_last (λ value. Shown value true))
    ∷ (codes "same", value_last (λ value. Shown value false))
    ∷ []

-- the replies that a broadcast channel does not have
unfoldable pub own_replies : Table (WReply Bytes)
own_replies =
    (codes "was", value_last Was)
    ∷ (codes "shown", field_then (by_word shown))
    ∷ (codes "modified", answer_last Modified)
    ∷ (codes "changed", answer_last reply.Changed)
    ∷ (codes "gone", answer_last Gone)
    ∷ (codes "marked", ended Marked)
    ∷ (codes "not-yet", ended NotYet)
    ∷ []

-- the lines of entries
abbrev pub grammar : Grammar (Unit {0}) (WCall Bytes) (WReply Bytes)
grammar = record {
  call_fields = call_fields;
  reply_fields = reply_fields;
  call_of = λ form. call_of;
  value_given = value_given;
  no_receivers = NoReceivers;
  exhausted = Exhausted;
  no_handle = NoHandle;
  new_rx = λ n. NewRx (rx n);
  new_tx = λ n. NewTx (tx n);
  count = Count;
  done = Done;
  closed = Closed;
  too_many = TooMany;
  own = own_replies;
}

-- the reply to this call that a line says
abbrev pub reply_of : WCall Bytes → List ℕ → Option (WReply Bytes)
reply_of = said_reply grammar

-- the number and the value of a call are such
abbrev pub IsCall : WCall Bytes → Type 0
IsCall (Send tx value) = IsNumber tx.0 × IsValue value
IsCall (Replace tx value) = IsNumber tx.0 × IsValue value
IsCall (EditBy tx edit) = IsNumber tx.0 × IsValue (edit_value edit)
IsCall (Borrow rx) = IsNumber rx.0
IsCall (Take rx) = IsNumber rx.0
IsCall (HasChanged rx) = IsNumber rx.0
IsCall (TryChanged rx) = IsNumber rx.0
IsCall (Changed rx) = IsNumber rx.0
IsCall (MarkChanged rx) = IsNumber rx.0
IsCall (MarkUnchanged rx) = IsNumber rx.0
IsCall (Subscribe tx) = IsNumber tx.0
IsCall (CloneRx rx) = IsNumber rx.0
IsCall (CloneTx tx) = IsNumber tx.0
IsCall (DropTx tx) = IsNumber tx.0
IsCall (DropRx rx) = IsNumber rx.0
IsCall (IsClosed tx) = IsNumber tx.0
IsCall (Readers tx) = IsNumber tx.0

-- the number or the value of a reply is such
abbrev pub ReplyFits : WReply Bytes → Type 0
ReplyFits (Was value) = IsValue value
ReplyFits (Shown value unseen) = IsValue value
ReplyFits (NewRx rx) = IsNumber rx.0
ReplyFits (NewTx tx) = IsNumber tx.0
ReplyFits (Count n) = IsNumber n
ReplyFits reply = Unit {0}

-- what is handed back is the call's own value
abbrev pub HandsBack : WCall Bytes → WReply Bytes → Type 0
HandsBack call (NoReceivers back) = value_given call ≡ Some back
HandsBack call (Exhausted back) = value_given call ≡ Some back
HandsBack call (NoHandle back) = value_given call ≡ back
HandsBack call reply = Unit {0}

-- what is a reply to a call
abbrev pub IsReplyTo : WCall Bytes → WReply Bytes → Type 0
IsReplyTo call reply = HandsBack call reply × ReplyFits reply

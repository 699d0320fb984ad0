-- Traces of a watch channel, as they are spelled (docs/FORMATS.md, "Traces").
use Rattle.std.specs.Prelude.{ℕ, Bool, List, [], ◌∷◌, codes, map, if◌then◌else◌}
use Rattle.std.specs.Fmt.{decimal}
use Rattle.th_model.specs.declared.watch.Edit.{Edit}
use Rattle.th_model.specs.declared.watch.Edit.TheVariants.{Set, Differ, Quiet}
use Rattle.th_model.specs.declared.watch.WCall.{WCall}
use Rattle.th_model.specs.declared.watch.WCall.TheVariants.{Send, Replace, EditBy, Borrow, Take, HasChanged, TryChanged, Changed, MarkChanged, MarkUnchanged, Subscribe, CloneRx, CloneTx, DropTx, DropRx, IsClosed, Readers}
use Rattle.th_model.specs.declared.watch.WReply.{WReply}
use Rattle.th_model.specs.declared.watch.WReply.TheVariants.{Done, NoReceivers, Exhausted, Was, Modified, Shown, Marked, NotYet, Closed, Gone, NewRx, NewTx, Count, TooMany, NoHandle}
use Rattle.th_model.specs.declared.watch.WReply.TheVariants as reply
use Rattle.th_model.specs.WatchPicture.{Picture}
use Rattle.th_traces.specs.Spelled.{Bytes, PictureFields, told_by}

-- the word of an edit
abbrev pub edit_word : Edit Bytes → Bytes
edit_word (Set value) = codes "set"
edit_word (Differ value) = codes "differ"
edit_word (Quiet value) = codes "quiet"

-- the value of an edit
abbrev pub edit_value : Edit Bytes → Bytes
edit_value (Set value) = value
edit_value (Differ value) = value
edit_value (Quiet value) = value

-- the fields of a call
abbrev pub call_fields : WCall Bytes → List Bytes
call_fields (Send tx value) = codes "send" ∷ decimal tx.0 ∷ value ∷ []
call_fields (Replace tx value) = codes "replace" ∷ decimal tx.0 ∷ value ∷ []
call_fields (EditBy tx edit) = edit_word edit ∷ decimal tx.0 ∷ edit_value edit ∷ []
call_fields (Borrow rx) = codes "borrow" ∷ decimal rx.0 ∷ []
call_fields (Take rx) = codes "take" ∷ decimal rx.0 ∷ []
call_fields (HasChanged rx) = codes "has-changed" ∷ decimal rx.0 ∷ []
call_fields (TryChanged rx) = codes "try-changed" ∷ decimal rx.0 ∷ []
call_fields (Changed rx) = codes "changed" ∷ decimal rx.0 ∷ []
call_fields (MarkChanged rx) = codes "mark-changed" ∷ decimal rx.0 ∷ []
call_fields (MarkUnchanged rx) = codes "mark-unchanged" ∷ decimal rx.0 ∷ []
call_fields (Subscribe tx) = codes "subscribe" ∷ decimal tx.0 ∷ []
call_fields (CloneRx rx) = codes "clone-rx" ∷ decimal rx.0 ∷ []
call_fields (CloneTx tx) = codes "clone-tx" ∷ decimal tx.0 ∷ []
call_fields (DropTx tx) = codes "drop-tx" ∷ decimal tx.0 ∷ []
call_fields (DropRx rx) = codes "drop-rx" ∷ decimal rx.0 ∷ []
call_fields (IsClosed tx) = codes "is-closed" ∷ decimal tx.0 ∷ []
call_fields (Readers tx) = codes "readers" ∷ decimal tx.0 ∷ []

abbrev pub yes_or_no : Bool → Bytes
yes_or_no answer = if answer then codes "yes" else codes "no"

-- whether a value that is shown was unseen
abbrev pub new_or_same : Bool → Bytes
new_or_same unseen = if unseen then codes "new" else codes "same"

-- the fields of a reply; a value that is handed back stands in the line of the call
abbrev pub reply_fields : WReply Bytes → List Bytes
reply_fields Done = codes "done" ∷ []
reply_fields (NoReceivers back) = codes "no-receivers" ∷ []
reply_fields (Exhausted back) = codes "exhausted" ∷ []
reply_fields (Was value) = codes "was" ∷ value ∷ []
reply_fields (Modified published) = codes "modified" ∷ yes_or_no published ∷ []
reply_fields (Shown value unseen) = codes "shown" ∷ new_or_same unseen ∷ value ∷ []
reply_fields (reply.Changed unseen) = codes "changed" ∷ yes_or_no unseen ∷ []
reply_fields Marked = codes "marked" ∷ []
reply_fields NotYet = codes "not-yet" ∷ []
reply_fields Closed = codes "closed" ∷ []
reply_fields (Gone none_left) = codes "gone" ∷ yes_or_no none_left ∷ []
reply_fields (NewRx rx) = codes "new-rx" ∷ decimal rx.0 ∷ []
reply_fields (NewTx tx) = codes "new-tx" ∷ decimal tx.0 ∷ []
reply_fields (Count n) = codes "count" ∷ decimal n ∷ []
reply_fields TooMany = codes "too-many" ∷ []
reply_fields (NoHandle back) = codes "no-handle" ∷ []

-- whether the newest value is unseen by a reader
abbrev pub seen_or_unseen : Bool → Bytes
seen_or_unseen unseen = if unseen then codes "unseen" else codes "seen"

-- a live reader, and whether the newest value is unseen by it
abbrev pub standing : ℕ × Bool → ℕ × Bytes
standing rx = (rx.0, seen_or_unseen rx.1)

-- the fields of the first line, and of where a picture starts
abbrev pub head : List Bytes
head = codes "TRACE" ∷ codes "1" ∷ codes "W" ∷ []

abbrev pub start : ℕ → List Bytes
start version = decimal version ∷ []

-- what the lines of a picture tell
abbrev pub told : Picture Bytes → PictureFields
told p = told_by head (start p.version) p.next (p.last ∷ []) p.senders (map standing p.readers)

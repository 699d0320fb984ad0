-- A whole trace in pieces, as it is printed: one for each line of its picture, one for each entry,
-- and one for its end.
use Rattle.std.specs.Prelude.{◌≡◌, ℕ, Bool, true, false, List, [], ◌∷◌, ◌++◌, length, map, Option, Some, None, Result, Ok, Err}
use Rattle.th_model.specs.declared.broadcast.BCall.{BCall}
use Rattle.th_model.specs.declared.broadcast.BReply.{BReply}
use Rattle.th_model.specs.declared.watch.WCall.{WCall}
use Rattle.th_model.specs.declared.watch.WReply.{WReply}
use Rattle.th_model.specs.BroadcastPicture as broadcast_picture
use Rattle.th_model.specs.WatchPicture as watch_picture
use Rattle.th_lines.specs.Replies.{ended}
use Rattle.th_traces.specs.Watch as watch
use Rattle.th_traces.specs.Spelled.{Bytes, PictureFields, end_line, entry_lines, picture_lines, text}
use Rattle.th_traces.specs.BroadcastWords as broadcast_words
use Rattle.th_traces.specs.WatchWords as watch_words
use Rattle.th_traces.specs.Grammars.{fields}
use Rattle.th_traces.specs.Traces.{broadcast_told}

-- both lines of an entry
abbrev pub entry_piece : List Bytes × List Bytes → List ℕ
entry_piece e = text (entry_lines (e ∷ []))

-- the end line of a trace with so many entries, where it is left
abbrev pub end_pieces : Option ℕ → List (List ℕ)
end_pieces None = []
end_pieces (Some count) = ended (end_line count) ∷ []

-- of these lines of a picture and these entries, and of the end line where it is left
abbrev pub pieces : List Bytes → List (List Bytes × List Bytes) → Option ℕ → List (List ℕ)
pieces lines entries end = map ended lines ++ (map entry_piece entries ++ end_pieces end)

-- of a whole trace
abbrev pub trace_pieces : PictureFields → List (List Bytes × List Bytes) → List (List ℕ)
trace_pieces t entries = pieces (picture_lines t) entries (Some (length entries))

-- the pieces of a broadcast trace
abbrev pub broadcast_pieces : broadcast_picture.Picture Bytes
    → List (BCall Bytes × BReply Bytes) → List (List ℕ)
broadcast_pieces p entries = trace_pieces (broadcast_told p entries)
    (fields broadcast_words.grammar entries)

-- the pieces of a watch trace
abbrev pub watch_pieces : watch_picture.Picture Bytes → List (WCall Bytes × WReply Bytes)
    → List (List ℕ)
watch_pieces p entries = trace_pieces (watch.told p) (fields watch_words.grammar entries)

-- the first of the pieces to come was appended, or there was none, or no memory for it
abbrev pub PrintsPiece : {E : Type 0} → (to_come after : List (List ℕ)) → (old new : List ℕ)
    → Result Bool E → Type 0
PrintsPiece to_come after old new (Ok true) =
    (next : List ℕ) × (to_come ≡ next ∷ after) × (new ≡ old ++ next)
PrintsPiece to_come after old new (Ok false) = (to_come ≡ []) × (after ≡ []) × (new ≡ old)
PrintsPiece to_come after old new (Err e) = (after ≡ to_come) × (new ≡ old)

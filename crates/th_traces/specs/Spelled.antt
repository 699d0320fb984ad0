-- The lines of a trace of either kind, as they are spelled (docs/FORMATS.md, "Traces").
use Rattle.std.specs.Prelude.{ℕ, List, [], ◌∷◌, ◌++◌, codes, length, map}
use Rattle.std.specs.Fmt.{decimal}
use Rattle.std.specs.List.{concat, join_with_byte}
use Rattle.th_lines.specs.Replies.{ended}

-- a field or a line, without its end
abbrev pub Bytes : Type 0
Bytes = List ℕ

-- a line of these fields, with one space between each two
abbrev pub line : List Bytes → Bytes
line fields = join_with_byte 32 fields

-- What the lines of a picture tell: the fields of the first line, and of where the picture starts;
-- the next handle number; the kept values; the live senders; and of each live receiver how it
-- stands.
pub record PictureFields : Type 0 where
  pub head : List Bytes
  pub start : List Bytes
  pub next : ℕ
  pub kept : List Bytes
  pub senders : List ℕ
  pub receivers : List (ℕ × Bytes)

abbrev pub told_by : (head start : List Bytes) → ℕ → (kept : List Bytes) → List ℕ
    → List (ℕ × Bytes) → PictureFields
told_by head start next kept senders receivers = record {
  head = head;
  start = start;
  next = next;
  kept = kept;
  senders = senders;
  receivers = receivers;
}

abbrev pub start_of : List Bytes → ℕ → Bytes
start_of start next = line (codes "AT" ∷ (start ++ codes "NEXT" ∷ decimal next ∷ []))

abbrev pub start_line : PictureFields → Bytes
start_line t = start_of t.start t.next

abbrev pub kept_line : Bytes → Bytes
kept_line value = line (codes "KEEP" ∷ value ∷ [])

abbrev pub sender_line : ℕ → Bytes
sender_line tx = line (codes "TX" ∷ decimal tx ∷ [])

abbrev pub receiver_line : ℕ × Bytes → Bytes
receiver_line rx = line (codes "RX" ∷ decimal rx.0 ∷ rx.1 ∷ [])

-- the lines below that of the start
abbrev pub body_lines : PictureFields → List Bytes
body_lines t =
    map kept_line t.kept
    ++ (map sender_line t.senders
    ++ (map receiver_line t.receivers ++ codes "BEGIN" ∷ []))

-- the lines of a picture
abbrev pub picture_lines : PictureFields → List Bytes
picture_lines t = line t.head ∷ start_line t ∷ body_lines t

abbrev pub call_line : List Bytes → Bytes
call_line fields = codes "C " ++ line fields

abbrev pub reply_line : List Bytes → Bytes
reply_line fields = codes "R " ++ line fields

-- the lines of the entries: of each its call, and its reply
abbrev pub entry_lines : List (List Bytes × List Bytes) → List Bytes
entry_lines [] = []
entry_lines (e ∷ es) = call_line e.0 ∷ reply_line e.1 ∷ entry_lines es

abbrev pub end_line : ℕ → Bytes
end_line count = line (codes "END" ∷ decimal count ∷ [])

-- the lines of a whole trace: the picture, the entries, and how many they are
abbrev pub trace_lines : PictureFields → List (List Bytes × List Bytes) → List Bytes
trace_lines t entries = picture_lines t ++ (entry_lines entries ++ end_line (length entries) ∷ [])

-- lines as a text, each with its end
abbrev pub text : List Bytes → List ℕ
text lines = concat (map ended lines)

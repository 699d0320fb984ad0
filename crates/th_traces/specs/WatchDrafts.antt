-- The lines of a watch picture, as they are read (docs/FORMATS.md, "Traces").
use Rattle.std.specs.Prelude.{ℕ, ◌<◌, ◌^◌, Bool, true, false, [], codes, nat_lt, not, ◌&&◌, Option, Some, None, is_some, if◌then◌else◌}
use Rattle.std.specs.Option.{option_map}
use Rattle.std.specs.Str.{bytes_eq}
use Rattle.th_model.specs.WatchPicture.{Picture}
use Rattle.th_watch.specs.Held.{shown_picture}
use Rattle.th_lines.specs.Fields.{Rest, ended, field_then, number_then, value_last}
use Rattle.th_traces.specs.Drafts.{More, Tells, allowed}
use Rattle.th_traces.specs.LiveHandles.{Live, live, next_last, table}
use Rattle.th_traces.specs.Spelled.{Bytes}
use Rattle.th_traces.specs.Tables.{Table}

-- a picture whose value may still be to come
abbrev pub Sketch : Type 0
Sketch = Picture (Option Bytes)

-- one with these parts
abbrev pub sketch : ℕ → Option Bytes → Live Bool → Sketch
sketch version last h = shown_picture version last h.receivers h.senders h.next

-- what `version NEXT next` tell; versions count from 1, and so do handles
abbrev pub start : Rest → Option Sketch
start rest =
    allowed (λ (s : ℕ × ℕ). nat_lt 0 s.0 && nat_lt 0 s.1)
    (λ s. sketch s.0 None (live [] [] s.1))
    (number_then (λ version rest. option_map (λ next. (version, next)) (next_last rest)) rest)

-- the value was told
abbrev pub has_value : Sketch → Bool
has_value p = is_some p.last

abbrev pub with_value : Sketch → Bytes → Sketch
with_value p value = record p { last = Some value }

-- its live handles, and the picture with these
abbrev pub handles : Sketch → Live Bool
handles p = live p.senders p.readers p.next

abbrev pub with_handles : Sketch → Live Bool → Sketch
with_handles p h = sketch p.version p.last h

-- `seen` or `unseen` as the last field
abbrev pub seen_or_unseen : Bytes → Rest → Option Bool
seen_or_unseen word rest =
    if bytes_eq word (codes "seen") then ended false rest
    else if bytes_eq word (codes "unseen") then ended true rest
    else None

-- the number of a reader, and whether the newest value is unseen by it
abbrev pub reader_last : Rest → Option (ℕ × Bool)
reader_last =
    number_then (λ rx rest. option_map (λ unseen. (rx, unseen)) (field_then seen_or_unseen rest))

-- the field of a value's line
abbrev pub value_field : Sketch → Rest → Option (Tells Sketch)
value_field p rest =
    allowed (λ value. not (has_value p)) (λ value. More (with_value p value))
    (value_last (λ value. value) rest)

-- what a line below that of the start tells
unfoldable pub body : Sketch → Table (Tells Sketch)
body p =
    table (with_handles p) (has_value p) (handles p) (value_field p) reader_last (has_value p)

-- what is true of a picture that was told in part
pub record IsDraft (p : Sketch) : Type 0 where
  pub first : 0 < p.version
  pub version : p.version < 2 ^ 64

-- How the lines of a picture are read, one by one (docs/FORMATS.md, "Traces").
use Rattle.std.specs.Prelude.{◌≡◌, ℕ, Bool, false, List, [], ◌∷◌, codes, ◌==◌, Option, Some, None, Result, Ok, Err, IsSome}
use Rattle.std.specs.Option.{option_map}
use Rattle.th_model.specs.Limits.{capacity_of}
use Rattle.th_watch.specs.Held.{shown_picture}
use Rattle.th_lines.specs.Fields.{Rest, by_word, ended, field_then, number_last}
use Rattle.th_lines.specs.declared.fault.LineFault.{LineFault}
use Rattle.th_lines.specs.declared.fault.LineFault.TheVariants.{BadLine, Short}
use Rattle.th_traces.specs.declared.head.Head.{Head}
use Rattle.th_traces.specs.declared.head.Head.TheVariants as head
use Rattle.th_traces.specs.declared.head.Version.{Version}
use Rattle.th_traces.specs.declared.head.Version.TheVariants.{One, Two}
use Rattle.th_traces.specs.declared.picture.Picture.{Picture}
use Rattle.th_traces.specs.declared.picture.Picture.TheVariants as picture
use Rattle.th_traces.specs.declared.place.Place.{Place}
use Rattle.th_traces.specs.declared.place.Place.TheVariants.{Nothing, Headed, InBroadcast, WatchHeaded, InWatch}
use Rattle.th_traces.specs.BroadcastDrafts as broadcast
use Rattle.th_traces.specs.WatchDrafts as watch
use Rattle.th_traces.specs.Drafts.{More, Tells, Whole, allowed}
use Rattle.th_traces.specs.Spelled.{Bytes}
use Rattle.th_traces.specs.Tables.{Table, by_table}

-- after a line the picture goes on, or it is whole and the entries begin
pub data Next : Type 0 where
  On : (place : Place) → Next
  Begun : (head : Head) (picture : Picture) → Next

-- a number that is a capacity in force
abbrev pub is_own : ℕ → Option ℕ → Bool
is_own asked None = false
is_own asked (Some capacity) = capacity == asked

abbrev pub is_capacity : ℕ → Bool
is_capacity c = is_own c (capacity_of c)

abbrev pub capacity_last : Version → Rest → Option Place
capacity_last version rest =
    allowed is_capacity (Headed version) (number_last (λ capacity. capacity) rest)

-- the kinds of channels that have traces of version 1, and of version 2
unfoldable pub kinds : Version → Table Place
kinds One = (codes "B", capacity_last One) ∷ (codes "W", ended WatchHeaded) ∷ []
kinds Two = (codes "B", capacity_last Two) ∷ []

unfoldable pub versions : Table Place
versions =
    (codes "1", field_then (by_word (kinds One)))
    ∷ (codes "2", field_then (by_word (kinds Two)))
    ∷ []

-- what the first line tells
abbrev pub head_line : List ℕ → Option Place
head_line line = by_table ((codes "TRACE", field_then (by_word versions)) ∷ []) line

-- what the line of the start tells
abbrev pub broadcast_start : Version → ℕ → List ℕ → Option Place
broadcast_start version capacity line =
    option_map (InBroadcast version) (by_table ((codes "AT", broadcast.start capacity) ∷ []) line)

abbrev pub watch_start : List ℕ → Option Place
watch_start line = option_map InWatch (by_table ((codes "AT", watch.start) ∷ []) line)

-- what a line below it leads to
abbrev pub broadcast_next : Version → broadcast.Drawn → Tells broadcast.Drawn → Next
broadcast_next version p (More q) = On (InBroadcast version q)
broadcast_next version p Whole = Begun (head.Broadcast version) (picture.Broadcast p)

abbrev pub whole_watch : watch.Sketch → Bytes → Next
whole_watch p value =
    Begun head.Watch (picture.Watch (shown_picture p.version value p.readers p.senders p.next))

abbrev pub watch_next : watch.Sketch → Tells watch.Sketch → Option Next
watch_next p (More q) = Some (On (InWatch q))
watch_next p Whole = option_map (whole_watch p) p.last

abbrev pub if_told : {A : Type 0} → (A → Option Next) → Option A → Option Next
if_told next None = None
if_told next (Some told) = next told

-- a line, where the lines before it have led to this place
unfoldable pub step : Place → List ℕ → Option Next
step Nothing line = option_map On (head_line line)
step (Headed version capacity) line = option_map On (broadcast_start version capacity line)
step (InBroadcast version p) line =
    option_map (broadcast_next version p) (by_table (broadcast.body p) line)
step WatchHeaded line = option_map On (watch_start line)
step (InWatch p) line = if_told (watch_next p) (by_table (watch.body p) line)

-- What a further line did to a draft, by what the line leads to. Short comes only for a line that
-- leads on; after a fault the draft is as it was, and after the last line it is empty.
abbrev pub ReadsLine : Result (Option (Head × Picture)) LineFault → (old new : Place)
    → Option Next → Type 0
ReadsLine (Ok None) old new next = next ≡ Some (On new)
ReadsLine (Ok (Some told)) old new next =
    (next ≡ Some (Begun told.0 told.1)) × (new ≡ Nothing)
ReadsLine (Err BadLine) old new next = (next ≡ None) × (new ≡ old)
ReadsLine (Err Short) old new next = IsSome next × (new ≡ old)

-- where lines lead, after the first of them led here; nothing follows the last line of a picture
abbrev pub goes_on : Option Next → List Bytes → (Place → Option Next) → Option Next
goes_on None lines read = None
goes_on (Some (On place)) lines read = read place
goes_on (Some (Begun h p)) [] read = Some (Begun h p)
goes_on (Some (Begun h p)) (line ∷ lines) read = None

-- where lines lead from a place on; nowhere, where one of them is bad
abbrev pub leads : Place → List Bytes → Option Next
leads place [] = Some (On place)
leads place (line ∷ lines) = goes_on (step place line) lines (λ next. leads next lines)

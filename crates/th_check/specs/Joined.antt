-- Texts that are one history, one after the other (docs/FORMATS.md, "Checks").
use Rattle.std.specs.Prelude.{◌≡◌, ℕ, ◌+◌, ◌≤◌, ◌==◌, ◌&&◌, Bool, false, List, [], ◌∷◌, ◌++◌, length, map, Option, Some, None}
use Rattle.std.specs.Io.KnownBytes.{Consumes, IsAtEnd}
use Rattle.std.specs.List.{AllByRecursion}
use Rattle.th_model.specs.declared.broadcast.BCall.{BCall}
use Rattle.th_model.specs.declared.broadcast.BReply.{BReply}
use Rattle.th_model.specs.declared.watch.WCall.{WCall}
use Rattle.th_model.specs.declared.watch.WReply.{WReply}
use Rattle.th_model.specs.BroadcastMachine as broadcast
use Rattle.th_model.specs.BroadcastPicture as broadcast_picture
use Rattle.th_model.specs.WatchMachine as watch
use Rattle.th_model.specs.WatchPicture as watch_picture
use Rattle.th_lines.specs.Lines.{Line, Good, lines_of}
use Rattle.th_log.specs.History.{Machine, Piece, IsLegal, joined}
use Rattle.th_log.specs.Machines as machines
use Rattle.th_traces.specs.declared.head.Head.{Head}
use Rattle.th_traces.specs.declared.head.Head.TheVariants as head
use Rattle.th_traces.specs.declared.head.Version.{Version}
use Rattle.th_traces.specs.declared.picture.Picture.{Picture}
use Rattle.th_traces.specs.declared.picture.Picture.TheVariants as picture
use Rattle.th_traces.specs.BroadcastWords as broadcast_words
use Rattle.th_traces.specs.WatchWords as watch_words
use Rattle.th_traces.specs.Shown.{Spells}
use Rattle.th_traces.specs.Spelled.{Bytes, end_line, entry_lines}
use Rattle.th_check.specs.declared.parts.Joined.{Joined}
use Rattle.th_check.specs.declared.parts.Joined.TheVariants.{Judged, Apart}
use Rattle.th_check.specs.declared.verdict.Verdict.TheVariants as verdict
use Rattle.th_check.specs.Histories.{IsBroadcastEntry, IsWatchEntry, entry_fields}
use Rattle.th_check.specs.Points.{Point, InBroadcast, InWatch, start, watch_machine}
use Rattle.th_check.specs.Stages.{Ended, most_entries}
use Rattle.th_check.specs.Verdicts.{IsSo, Leads}

-- a part of a history: the picture from which its entries go, their number, and the picture to which
-- they lead
pub record Part : Type 0 where
  pub from : Picture
  pub count : ℕ
  pub to : Picture

-- what a trace that has ended is a part of a history
abbrev pub part_at : Point → Option Part
part_at (InBroadcast version from (Ended state count)) = Some (record {
  from = picture.Broadcast from;
  count = count;
  to = picture.Broadcast (broadcast_picture.see state);
})
part_at (InWatch from (Ended state count)) = Some (record {
  from = picture.Watch from;
  count = count;
  to = picture.Watch (watch_picture.see state);
})
part_at here = None

-- this part is told by pictures of one kind
abbrev pub part_of : {S C R : Type 0} → (S → Picture) → Piece S C R → Part
part_of shows piece =
    record { from = shows piece.start; count = length piece.entries; to = shows piece.last }

-- some channel looks like the picture
abbrev pub IsSoundPicture : Picture → Type 0
IsSoundPicture (picture.Broadcast p) = broadcast_picture.IsSound p
IsSoundPicture (picture.Watch p) = watch_picture.IsSound p

-- the lines are a legal text, which is this part
pub record IsPart (lines : List Line) (part : Part) : Type 0 where
  pub end : Point
  pub led : Leads start lines end
  pub is : part_at end ≡ Some part
  pub sound : IsSoundPicture part.from

-- the picture of a channel that was just opened, as the machine begins; a watch channel has version 1
abbrev pub IsOpening : Picture → Type 0
IsOpening (picture.Broadcast p) =
    p ≡ broadcast_picture.see (broadcast.opened p.window.capacity p.window.tail)
IsOpening (picture.Watch p) = p ≡ watch_picture.see (watch.opened p.last 1)

-- one sender, which is the only handle that was ever made
abbrev pub is_first : (senders receivers next : ℕ) → Bool
is_first senders receivers next = senders == 1 && receivers == 0 && next == 2

-- the same of every picture that some channel looks like
abbrev pub is_opening : Picture → Bool
is_opening (picture.Broadcast p) = is_first (length p.senders) (length p.window.places) p.next
is_opening (picture.Watch p) =
    is_first (length p.senders) (length p.readers) p.next && p.version == 1

-- no handle of the channel is live
abbrev pub is_spent : Picture → Bool
is_spent (picture.Broadcast p) = length p.senders == 0 && length p.window.places == 0
is_spent (picture.Watch p) = length p.senders == 0 && length p.readers == 0

-- How far a history has come that has a part: whether its channel was just opened where it begins, and the picture at which
-- it has ended.
pub record Reach : Type 0 where
  pub is_opened : Bool
  pub end : Picture

-- with a part more that goes from this picture to that one
abbrev pub reach_by : Option Reach → (from to : Picture) → Reach
reach_by None from to = record { is_opened = is_opening from; end = to }
reach_by (Some here) from to = record { is_opened = here.is_opened; end = to }

-- the same of what the code has of it, which has no picture before the first part
abbrev pub reach_of : Bool → Option Picture → Option Reach
reach_of opened None = None
reach_of opened (Some end) = Some (record { is_opened = opened; end = end })

-- a history begins with a channel that was just opened; one without a part has not begun
abbrev pub is_opened : Option Reach → Bool
is_opened None = false
is_opened (Some here) = here.is_opened

-- a history has ended with no live handle; one without a part has not
abbrev pub is_over : Option Reach → Bool
is_over None = false
is_over (Some here) = is_spent here.end

-- A part begins where a history has ended. One without a part yet begins anywhere.
abbrev pub BeginsAt : Option Reach → Picture → Type 0
BeginsAt None from = Unit {0}
BeginsAt (Some here) from = from ≡ here.end

-- the lines are the next part of a history, by which it has so many entries more and has come there
pub record Adds (here : Option Reach) (lines : List Line) (count : ℕ) (there : Option Reach)
    : Type 0 where
  pub part : Part
  pub is : IsPart lines part
  pub begins : BeginsAt here part.from
  pub counted : part.count ≡ count
  pub ends : there ≡ Some (reach_by here part.from part.to)

-- the lines are a legal text which begins elsewhere
pub record IsApart (here : Option Reach) (lines : List Line) : Type 0 where
  pub part : Part
  pub is : IsPart lines part
  pub elsewhere : BeginsAt here part.from → ⊥

-- what is said of the lines that come next in a history, and how far it has come then
abbrev pub SaysNext : Option Reach → List Line → Joined → Option Reach → Type 0
SaysNext here lines (Judged (verdict.Legal count)) there = Adds here lines count there
SaysNext here lines (Judged said) there = IsSo lines said × (there ≡ here)
SaysNext here lines Apart there = IsApart here lines × (there ≡ here)

-- a text of which this is said is legal
abbrev pub IsLegalSaid : Joined → Type 0
IsLegalSaid (Judged (verdict.Legal count)) = Unit {0}
IsLegalSaid (Judged said) = ⊥
IsLegalSaid Apart = Unit {0}

-- It is said of the whole text: it is so of what was read, whatever comes after it. At the end of the
-- input nothing does; and no text is legal before.
pub record Joins (reader reader' : Option (List ℕ)) (here : Option Reach) (said : Joined)
    (there : Option Reach) : Type 0 where
  pub input : List ℕ
  pub read : Consumes reader reader' input
  pub so : (more : List ℕ) → (IsAtEnd reader' → more ≡ []) →
      SaysNext here (lines_of (input ++ more)) said there
  pub whole : IsLegalSaid said → IsAtEnd reader'

-- Each of these texts is the next part of a history. By all of them it has so many entries more, and
-- has come there.
abbrev pub AreAdded : Option Reach → List (List Line) → ℕ → Option Reach → Type 0
AreAdded here [] count there = (count ≡ 0) × (there ≡ here)
AreAdded here (text ∷ later) count there =
    (next : Option Reach) × (one rest : ℕ) × Adds here text one next
    × AreAdded next later rest there × (count ≡ one + rest)

-- The lines of a text tell this part of a channel's history: its first picture, and its entries, which
-- are legal from there and lead to its last picture. Of its key and its place they say nothing.
pub record Tells {E S C R : Type 0} (m : Machine E S C R) (is_sound : S → Type 0)
    (kind_of : Version → Head) (shows : S → Picture) (IsEntry : Version → C × R → Type 0)
    (fields : C × R → List Bytes × List Bytes) (lines : List Line) (piece : Piece S C R)
    : Type 0 where
  pub front : List Bytes
  pub below : List Bytes
  pub parts : lines ≡ map Good (front ++ below)
  pub version : Version
  pub spelled : Spells (kind_of version) (shows piece.start) front
  pub legal : IsLegal m is_sound piece
  pub each : AllByRecursion (IsEntry version) piece.entries
  pub told : below ≡
      entry_lines (map fields piece.entries) ++ end_line (length piece.entries) ∷ []
  pub most : length piece.entries ≤ most_entries

abbrev pub BroadcastPiece : Type 0
BroadcastPiece = Piece (broadcast_picture.Picture Bytes) (BCall Bytes) (BReply Bytes)

abbrev pub WatchPiece : Type 0
WatchPiece = Piece (watch_picture.Picture Bytes) (WCall Bytes) (WReply Bytes)

abbrev pub TellsBroadcast : List Line → BroadcastPiece → Type 0
TellsBroadcast = Tells machines.broadcast broadcast_picture.IsSound head.Broadcast
    picture.Broadcast IsBroadcastEntry (entry_fields broadcast_words.grammar)

abbrev pub TellsWatch : List Line → WatchPiece → Type 0
TellsWatch = Tells watch_machine watch_picture.IsSound (λ version. head.Watch) picture.Watch
    (λ version. IsWatchEntry) (entry_fields watch_words.grammar)

-- Each of these texts tells a part, each part begins with the picture at which the one before ends,
-- and this is all of them as one.
abbrev pub AreOne : {S C R : Type 0} → (List Line → Piece S C R → Type 0) → List (List Line)
    → Piece S C R → Type 0
AreOne {S} {C} {R} Tells [] whole = ⊥
AreOne {S} {C} {R} Tells (text ∷ []) whole = Tells text whole
AreOne {S} {C} {R} Tells (text ∷ next ∷ later) whole =
    (one rest : Piece S C R) × Tells text one × AreOne Tells (next ∷ later) rest
    × (one.last ≡ rest.start) × (whole ≡ joined one rest)

-- The texts tell one history with so many entries, which is legal from the first picture and has come there.
pub record IsOneHistory {E S C R : Type 0} (m : Machine E S C R) (is_sound : S → Type 0)
    (shows : S → Picture) (Tells : List Line → Piece S C R → Type 0) (texts : List (List Line))
    (count : ℕ) (there : Option Reach) : Type 0 where
  pub whole : Piece S C R
  pub one : AreOne Tells texts whole
  pub legal : IsLegal m is_sound whole
  pub counted : length whole.entries ≡ count
  pub ends : there ≡ Some (reach_by None (shows whole.start) (shows whole.last))

abbrev pub IsBroadcastHistory : List (List Line) → ℕ → Option Reach → Type 0
IsBroadcastHistory =
    IsOneHistory machines.broadcast broadcast_picture.IsSound picture.Broadcast TellsBroadcast

abbrev pub IsWatchHistory : List (List Line) → ℕ → Option Reach → Type 0
IsWatchHistory = IsOneHistory watch_machine watch_picture.IsSound picture.Watch TellsWatch

-- Legal texts, as histories (docs/FORMATS.md, "Checks").
use Rattle.std.specs.Prelude.{◌≡◌, ℕ, ◌≤◌, List, [], ◌∷◌, ◌++◌, length, map}
use Rattle.std.specs.List.{AllByRecursion}
use Rattle.th_model.specs.declared.broadcast.BCall.{BCall}
use Rattle.th_model.specs.declared.broadcast.BReply.{BReply}
use Rattle.th_model.specs.declared.watch.WCall.{WCall}
use Rattle.th_model.specs.declared.watch.WReply.{WReply}
use Rattle.th_model.specs.BroadcastPicture as broadcast_picture
use Rattle.th_model.specs.WatchPicture as watch_picture
use Rattle.th_lines.specs.Lines.{Line, Good}
use Rattle.th_log.specs.History.{Machine, IsRun, end_of}
use Rattle.th_log.specs.Machines as machines
use Rattle.th_traces.specs.declared.head.Head.{Head}
use Rattle.th_traces.specs.declared.head.Head.TheVariants as head
use Rattle.th_traces.specs.declared.head.Version.{Version}
use Rattle.th_traces.specs.declared.picture.Picture.{Picture}
use Rattle.th_traces.specs.declared.picture.Picture.TheVariants as picture
use Rattle.th_traces.specs.BroadcastWords as broadcast_words
use Rattle.th_traces.specs.WatchWords as watch_words
use Rattle.th_traces.specs.Grammars.{Grammar}
use Rattle.th_traces.specs.Shown.{Spells}
use Rattle.th_traces.specs.Spelled.{Bytes, end_line, entry_lines}
use Rattle.th_check.specs.Points.{Point, InBroadcast, InWatch, start, watch_machine}
use Rattle.th_check.specs.Stages.{Ended, most_entries}

-- These lines spell so many entries, which are a legal history from the state, and their number.
pub record IsHistory {E S C R : Type 0} (m : Machine E S C R) (IsEntry : C × R → Type 0)
    (fields : C × R → List Bytes × List Bytes) (state : E) (lines : List Bytes) (count : ℕ)
    : Type 0 where
  pub entries : List (C × R)
  pub run : IsRun m state entries
  pub each : AllByRecursion IsEntry entries
  pub told : lines ≡ entry_lines (map fields entries) ++ end_line count ∷ []
  pub counted : length entries ≡ count
  pub most : count ≤ most_entries

-- the call and the reply have spellings, and the reply is one to the call
abbrev pub IsBroadcastEntry : Version → BCall Bytes × BReply Bytes → Type 0
IsBroadcastEntry version e =
    broadcast_words.IsCall version e.0 × broadcast_words.IsReplyTo e.0 e.1

abbrev pub IsWatchEntry : WCall Bytes × WReply Bytes → Type 0
IsWatchEntry e = watch_words.IsCall e.0 × watch_words.IsReplyTo e.0 e.1

abbrev pub entry_fields : {F C R : Type 0} → Grammar F C R → C × R → List Bytes × List Bytes
entry_fields g e = (g.call_fields e.0, g.reply_fields e.1)

-- the lines below a picture tell a legal history from it
abbrev pub HasHistory : Head → Picture → List Bytes → ℕ → Type 0
HasHistory (head.Broadcast version) (picture.Broadcast p) lines count = IsHistory
    machines.broadcast (IsBroadcastEntry version) (entry_fields broadcast_words.grammar)
    (broadcast_picture.whole p) lines count
HasHistory head.Watch (picture.Watch p) lines count =
    IsHistory watch_machine IsWatchEntry (entry_fields watch_words.grammar) (watch_picture.whole p)
    lines count
HasHistory h p lines count = ⊥

-- where the entries lead from a picture, and their number ends them
abbrev pub end_point : (h : Head) (p : Picture) (lines : List Bytes) (count : ℕ)
    → HasHistory h p lines count → Point
end_point (head.Broadcast version) (picture.Broadcast p) lines count history =
    InBroadcast version p
    (Ended (end_of machines.broadcast (broadcast_picture.whole p) history.entries) count)
end_point head.Watch (picture.Watch p) lines count history =
    InWatch p (Ended (end_of watch_machine (watch_picture.whole p) history.entries) count)
end_point h p lines count history = start

-- The lines of a text are the spelling of a picture, and below it that of a legal history from it,
-- with so many entries.
pub record IsTrace (lines : List Line) (count : ℕ) : Type 0 where
  pub front : List Bytes
  pub below : List Bytes
  pub parts : lines ≡ map Good (front ++ below)
  pub kind : Head
  pub shown : Picture
  pub spelled : Spells kind shown front
  pub history : HasHistory kind shown below count

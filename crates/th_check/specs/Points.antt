-- A trace, judged line by line (docs/FORMATS.md, "Checks").
use Rattle.std.specs.Prelude.{◌≡◌, ℕ, nat_eq, Option, Some, None}
use Rattle.std.specs.Cmp.Lexicographic.{pointwise}
use Rattle.th_model.specs.declared.broadcast.BCall.{BCall}
use Rattle.th_model.specs.declared.broadcast.BReply.{BReply}
use Rattle.th_model.specs.declared.watch.WCall.{WCall}
use Rattle.th_model.specs.declared.watch.WReply.{WReply}
use Rattle.th_model.specs.BroadcastMachine as broadcast
use Rattle.th_model.specs.BroadcastPicture as broadcast_picture
use Rattle.th_model.specs.WatchMachine as watch
use Rattle.th_model.specs.WatchPicture as watch_picture
use Rattle.th_lines.specs.Lines.{Line, Good, Long}
use Rattle.th_log.specs.History.{Machine}
use Rattle.th_log.specs.Machines as machines
use Rattle.th_traces.specs.declared.head.Head.{Head}
use Rattle.th_traces.specs.declared.head.Head.TheVariants as head
use Rattle.th_traces.specs.declared.head.Version.{Version}
use Rattle.th_traces.specs.declared.picture.Picture.{Picture}
use Rattle.th_traces.specs.declared.picture.Picture.TheVariants as picture
use Rattle.th_traces.specs.declared.place.Place.{Place}
use Rattle.th_traces.specs.declared.place.Place.TheVariants.{Nothing}
use Rattle.th_traces.specs.BroadcastWords as broadcast_words
use Rattle.th_traces.specs.WatchWords as watch_words
use Rattle.th_traces.specs.Pictures as pictures
use Rattle.th_traces.specs.Spelled.{Bytes}
use Rattle.th_check.specs.declared.fault.Expected.{Expected}
use Rattle.th_check.specs.declared.fault.Expected.TheVariants as expected
use Rattle.th_check.specs.Stages.{Stage, CallDue, Ended, Turn, On, Bad, Illegal, Expects, Turns, Words, words_of}

abbrev pub BroadcastStage : Type 0
BroadcastStage = Stage (broadcast.Endless Bytes) (BCall Bytes)

abbrev pub WatchStage : Type 0
WatchStage = Stage (watch.Endless Bytes) (WCall Bytes)

-- how far a trace was judged: within its picture, or below it, where the entries began from a picture
pub data Point : Type 0 where
  InPicture : (place : Place) → Point
  InBroadcast : (version : Version) (from : broadcast_picture.Picture Bytes)
      (stage : Stage (broadcast.Endless Bytes) (BCall Bytes)) → Point
  InWatch : (from : watch_picture.Picture Bytes) (stage : Stage (watch.Endless Bytes) (WCall Bytes)) → Point

-- no line was judged
abbrev pub start : Point
start = InPicture Nothing

-- a watch channel's values are compared byte by byte
abbrev pub watch_machine : Machine (watch.Endless Bytes) (watch_picture.Picture Bytes) (WCall Bytes)
    (WReply Bytes)
watch_machine = machines.watch (pointwise nat_eq)

abbrev pub words_of_broadcast : Version → Words (BCall Bytes) (BReply Bytes)
words_of_broadcast = words_of broadcast_words.grammar expected.Broadcast

abbrev pub words_of_watch : Words (WCall Bytes) (WReply Bytes)
words_of_watch = words_of watch_words.grammar expected.Watch tt

-- Where the picture is whole the entries begin, from the state that remembers no more than it shows.
abbrev pub entries_of : Head → Picture → Turn Point
entries_of (head.Broadcast version) (picture.Broadcast p) =
    On (InBroadcast version p (CallDue (broadcast_picture.whole p) 0))
entries_of head.Watch (picture.Watch p) = On (InWatch p (CallDue (watch_picture.whole p) 0))
entries_of h p = Bad

-- where a line of a picture leads
abbrev pub picture_turn : Option pictures.Next → Turn Point
picture_turn None = Bad
picture_turn (Some (pictures.On place)) = On (InPicture place)
picture_turn (Some (pictures.Begun h p)) = entries_of h p

-- where a line leads at a point below, by where it leads at its stage
abbrev pub lifted : {S : Type 0} → (S → Point) → Turn S → Turn Point
lifted point (On next) = On (point next)
lifted point Bad = Bad
lifted point Illegal = Illegal

-- What a line does at a point. A line of more than 4,096 bytes is bad.
abbrev pub Does : Point → Line → Turn Point → Type 0
Does point Long turn = turn ≡ Bad
Does (InPicture place) (Good line) turn = turn ≡ picture_turn (pictures.step place line)
Does (InBroadcast version from stage) (Good line) turn =
    (at : Turn BroadcastStage)
    × Turns machines.broadcast (words_of_broadcast version) stage line at
    × (turn ≡ lifted (InBroadcast version from) at)
Does (InWatch from stage) (Good line) turn =
    (at : Turn WatchStage) × Turns watch_machine words_of_watch stage line at
    × (turn ≡ lifted (InWatch from) at)

-- the reply to a call is due at a point, and this is the one that is expected
abbrev pub ExpectsAt : Point → Expected → Type 0
ExpectsAt (InPicture place) reply = ⊥
ExpectsAt (InBroadcast version from stage) reply =
    Expects machines.broadcast (words_of_broadcast version) stage reply
ExpectsAt (InWatch from stage) reply = Expects watch_machine words_of_watch stage reply

-- the number of entries of a trace that has ended
abbrev pub ended_stage : {E C : Type 0} → Stage E C → Option ℕ
ended_stage (Ended state count) = Some count
ended_stage stage = None

abbrev pub ended_with : Point → Option ℕ
ended_with (InPicture place) = None
ended_with (InBroadcast version from stage) = ended_stage stage
ended_with (InWatch from stage) = ended_stage stage

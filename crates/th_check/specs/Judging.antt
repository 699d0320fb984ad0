-- How the code goes through a trace: what it holds at a point, and what each of its steps does.
use Rattle.std.specs.Prelude.{◌≡◌, ℕ, ◌+◌, true, List, [], ◌∷◌, ◌++◌, Option, Some, None, is_some, Result, Ok, Err}
use Rattle.std.specs.Io.KnownBytes.{Consumes, IsAtEnd}
use Rattle.th_model.specs.BroadcastMachine as broadcast
use Rattle.th_model.specs.BroadcastPicture as broadcast_picture
use Rattle.th_model.specs.WatchMachine as watch
use Rattle.th_model.specs.WatchPicture as watch_picture
use Rattle.th_lines.specs.Lines.{Line, lines_of}
use Rattle.th_lines.specs.declared.feeder.Fed.{Fed}
use Rattle.th_lines.specs.declared.feeder.Fed.TheVariants as why
use Rattle.th_log.specs.History.{Machine}
use Rattle.th_log.specs.Machines as machines
use Rattle.th_traces.specs.declared.head.Head.{Head}
use Rattle.th_traces.specs.declared.picture.Picture.{Picture}
use Rattle.th_traces.specs.declared.place.Place.{Place}
use Rattle.th_check.specs.declared.course.Course.{Course}
use Rattle.th_check.specs.declared.course.Due.{Due}
use Rattle.th_check.specs.declared.course.Due.TheVariants as due
use Rattle.th_check.specs.declared.fault.Expected.{Expected}
use Rattle.th_check.specs.declared.fault.Stop.{Stop}
use Rattle.th_check.specs.declared.fault.Stop.TheVariants as stop
use Rattle.th_check.specs.declared.point.Spot.{Spot}
use Rattle.th_check.specs.declared.point.Spot.TheVariants as spot
use Rattle.th_check.specs.declared.fault.CheckFault.{CheckFault}
use Rattle.th_check.specs.declared.fault.CheckFault.TheVariants as fault
use Rattle.th_check.specs.declared.verdict.Verdict.{Verdict}
use Rattle.th_check.specs.declared.verdict.Verdict.TheVariants as verdict
use Rattle.th_check.specs.Points.{Point, InPicture, InBroadcast, InWatch, Does, ExpectsAt, ended_with, entries_of, start, watch_machine}
use Rattle.th_check.specs.Stages.{Stage, CallDue, ReplyDue, Ended, On, Bad, Illegal, Expects, Turns, Words}
use Rattle.th_check.specs.Verdicts.{Leads}

-- a course, by what is seen of its channel
abbrev pub seen : {O S C : Type 0} → (O → S) → Course O C → Course S C
seen shows held = record { channel = shows held.channel; count = held.count; due = held.due }

module _ {E S C R : Type 0} (m : Machine E S C R) (IsProper : E → Type 0) where
  -- this picture is seen of the state
  pub record IsShown (state : E) (picture : S) : Type 0 where
    pub proper : IsProper state
    pub shown : m.see state ≡ picture

  -- The code holds this stage, by its channel, its count and what is due. While a reply is due it counts
  -- the entry of that reply already.
  abbrev pub ShowsBy : Stage E C → S → ℕ → Due C → Type 0
  ShowsBy (CallDue state count) picture told due.Call = IsShown state picture × (told ≡ count)
  ShowsBy (ReplyDue state count call) picture told (due.Reply given) =
      IsShown state picture × (told ≡ count + 1) × (given ≡ call)
  ShowsBy (Ended state count) picture told due.Nothing = IsShown state picture × (told ≡ count)
  ShowsBy stage picture told next = ⊥

  abbrev pub Shows : Stage E C → Course S C → Type 0
  Shows stage held = ShowsBy stage held.channel held.count held.due

  -- what the code made of a line at a stage
  abbrev pub TurnsTo : Words C R → Stage E C → List ℕ → Result (Course S C) Stop → Type 0
  TurnsTo words stage line (Ok held) =
      (next : Stage E C) × Turns m words stage line (On next) × Shows next held
  TurnsTo words stage line (Err stop.Bad) = Turns m words stage line Bad
  TurnsTo words stage line (Err (stop.Illegal expected)) =
      Turns m words stage line Illegal × Expects m words stage expected
  TurnsTo words stage line (Err stop.Short) = Unit {0}

-- what is held where the entries begin
abbrev pub unbegun : {S C : Type 0} → S → Course S C
unbegun picture = record { channel = picture; count = 0; due = due.Call }

-- the number of entries was told, or another line is bad
abbrev pub EndsAt : ℕ → Option ℕ → Result (Unit {0}) Stop → Type 0
EndsAt count told (Ok done) = told ≡ Some count
EndsAt count told (Err stop.Bad) = told ≡ Some count → ⊥
EndsAt count told (Err (stop.Illegal expected)) = ⊥
EndsAt count told (Err stop.Short) = ⊥

-- what a step in place made: what is held after it, or what stopped it
abbrev pub taken : {H : Type 0} → Result (Unit {0}) Stop → H → Result H Stop
taken (Ok done) held = Ok held
taken (Err why) held = Err why

-- Why a line stopped the code where a reply was due, by what the line says and the reply that is
-- expected: of the line no more is known than whether it says a reply at all.
abbrev pub IsOther : {R : Type 0} → Option R → Expected → Stop → Type 0
IsOther said own stop.Bad = said ≡ None
IsOther said own (stop.Illegal expected) = (is_some said ≡ true) × (expected ≡ own)
IsOther said own stop.Short = Unit {0}

-- a line says this reply, or why it stopped the code
abbrev pub IsJudged : {R : Type 0} → Option R → R → Expected → Result (Unit {0}) Stop → Type 0
IsJudged said reply own (Ok done) = said ≡ Some reply
IsJudged said reply own (Err why) = IsOther said own why × (said ≡ Some reply → ⊥)

-- the picture that is kept is the one at which the entries began, and is sound
abbrev pub IsFrom : {S : Type 0} → (S → Type 0) → S → S → Type 0
IsFrom is_sound from kept = is_sound from × (kept ≡ from)

-- the code holds this point
abbrev pub Holds : Point → Spot → Type 0
Holds (InPicture place) (spot.InPicture draft) = draft ≡ place
Holds (InBroadcast version from stage) (spot.InBroadcast told kept held) = (told ≡ version)
    × IsFrom broadcast_picture.IsSound from kept
    × Shows machines.broadcast broadcast.IsProper stage held
Holds (InWatch from stage) (spot.InWatch kept held) =
    IsFrom watch_picture.IsSound from kept × Shows watch_machine watch.IsProper stage held
Holds point held = ⊥

-- The line is a reply of good form that is not the machine's. That one is this.
pub record IsAnother (here : Point) (line : Line) (expected : Expected) : Type 0 where
  pub illegal : Does here line Illegal
  pub own : ExpectsAt here expected

-- what stopped the code at a line
abbrev pub StopsAt : Point → Line → Stop → Type 0
StopsAt here line stop.Bad = Does here line Bad
StopsAt here line (stop.Illegal expected) = IsAnother here line expected
StopsAt here line stop.Short = Unit {0}

-- what the code made of a line at a point
abbrev pub Takes : Point → Line → Result Spot Stop → Type 0
Takes here line (Ok held) = (next : Point) × Does here line (On next) × Holds next held
Takes here line (Err why) = StopsAt here line why

-- what is held after a line of a picture: a further draft, or what begins below it
abbrev pub drawn : Result (Option Spot) Stop → Place → Result Spot Stop
drawn (Ok None) draft = Ok (spot.InPicture draft)
drawn (Ok (Some held)) draft = Ok held
drawn (Err why) draft = Err why

-- the entries begin below a picture
abbrev pub Begins : Head → Picture → Result Spot Stop → Type 0
Begins h p (Ok held) = (next : Point) × (entries_of h p ≡ On next) × Holds next held
Begins h p (Err stop.Bad) = entries_of h p ≡ Bad
Begins h p (Err (stop.Illegal expected)) = ⊥
Begins h p (Err stop.Short) = Unit {0}

-- what the lines that were judged led to, and nothing beside
abbrev pub Reached : Type 0
Reached = Spot × Unit {0} × Unit {0}

-- these lines were judged, and lead on
abbrev pub Passes : Reached → List Line → Reached → Type 0
Passes old lines new = (here : Point) → Holds here old.0 →
    (there : Point) × Leads here lines there × Holds there new.0

-- Of these lines the last one has stopped the code. Those before it lead on.
pub record HaltsAt (here : Point) (lines : List Line) (why : Stop) : Type 0 where
  pub before : List Line
  pub line : Line
  pub parts : lines ≡ before ++ line ∷ []
  pub there : Point
  pub led : Leads here before there
  pub stops : StopsAt there line why

abbrev pub Halts : Reached → List Line → Stop → Reached → Type 0
Halts old lines why new = (here : Point) → Holds here old.0 → HaltsAt here lines why

abbrev pub IsReached : Reached → Type 0
IsReached here = Unit {0}

-- the verdict at the end of a text, after so many lines
abbrev pub EndSays : Point → ℕ → Verdict → Type 0
EndSays here judged (verdict.Legal count) = ended_with here ≡ Some count
EndSays here judged (verdict.Illegal number) = ⊥
EndSays here judged (verdict.BadTrace number) = (ended_with here ≡ None) × (number ≡ judged + 1)

-- This was read to its end, and is a legal text with so many entries, which lead to what the code holds.
pub record IsEndedWith (reader reader' : Option (List ℕ)) (count : ℕ) (held : Spot) : Type 0 where
  pub input : List ℕ
  pub read : Consumes reader reader' input
  pub whole : IsAtEnd reader'
  pub end : Point
  pub led : Leads start (lines_of input) end
  pub ended : ended_with end ≡ Some count
  pub holds : Holds end held

-- what is held after a verdict
abbrev pub IsHeldAfter : Option (List ℕ) → Option (List ℕ) → Verdict → Spot → Type 0
IsHeldAfter reader reader' (verdict.Legal count) held = IsEndedWith reader reader' count held
IsHeldAfter reader reader' said held = Unit {0}

-- what comes of a check after so many lines, by why no further line is fed
abbrev pub Concludes : {A : Type 0} → Fed Stop → Spot → ℕ → Result (Verdict × A) CheckFault → Type 0
Concludes why.Ended spot judged (Ok said) =
    (here : Point) → Holds here spot → EndSays here judged said.0
Concludes (why.Stopped stop.Bad) spot judged (Ok said) = said.0 ≡ verdict.BadTrace judged
Concludes (why.Stopped (stop.Illegal expected)) spot judged (Ok said) =
    said.0 ≡ verdict.Illegal judged
Concludes (why.Stopped stop.Short) spot judged (Err e) = e ≡ fault.Short
Concludes why.Full spot judged (Err e) = e ≡ fault.TooLong
Concludes why.Failed spot judged (Err e) = e ≡ fault.Read
Concludes why.Spent spot judged (Err e) = e ≡ fault.TooLong
Concludes fed spot judged result = ⊥

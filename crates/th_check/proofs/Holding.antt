-- One line of a trace.
use Rattle.std.proofs.Common.{◌≡◌, ℕ, List, refl, sym, ap, ap₂, subst, Option, Some, None, Ok, Err}
use Rattle.std.specs.Prelude.{Result}
use Rattle.std.specs.Borrow.{Bor}
use Rattle.th_lines.specs.Intake.{line_given}
use Rattle.th_model.specs.BroadcastMachine as broadcast
use Rattle.th_model.specs.BroadcastPicture as broadcast_picture
use Rattle.th_model.specs.WatchMachine as watch
use Rattle.th_model.specs.WatchPicture as watch_picture
use Rattle.th_model.specs.declared.broadcast.BCall.{BCall}
use Rattle.th_model.specs.declared.watch.WCall.{WCall}
use Rattle.th_lines.specs.Lines.{Good, Long}
use Rattle.th_log.specs.Machines as machines
use Rattle.th_log.specs.MachineLaws.{broadcast-whole, watch-whole}
use Rattle.th_traces.specs.Spelled.{Bytes}
use Rattle.th_traces.specs.declared.head.Version.{Version}
use Rattle.th_traces.specs.declared.place.Place.{Place}
use Rattle.th_check.specs.declared.course.Course.{Course}
use Rattle.th_check.specs.declared.fault.Stop.{Stop}
use Rattle.th_check.specs.declared.fault.Stop.TheVariants as stop
use Rattle.th_check.specs.declared.point.Spot.{Spot}
use Rattle.th_check.specs.declared.point.Spot.TheVariants as spot
use Rattle.th_traces.specs.Pictures as pictures
use Rattle.th_traces.specs.Pictures.{ReadsLine}
use Rattle.th_traces.specs.declared.head.Head.{Head}
use Rattle.th_traces.specs.declared.head.Head.TheVariants as head
use Rattle.th_traces.specs.declared.picture.Picture.{Picture}
use Rattle.th_traces.specs.declared.picture.Picture.TheVariants as picture
use Rattle.th_check.specs.Judging.{Begins, Holds, IsFrom, Shows, Takes, TurnsTo, taken, unbegun}
use Rattle.th_check.specs.Points.{Point, InPicture, InBroadcast, InWatch, BroadcastStage, WatchStage, entries_of, picture_turn, watch_machine, words_of_broadcast, words_of_watch}
use Rattle.th_check.specs.Stages.{CallDue, On, Bad, Illegal}

abbrev pub BroadcastCourse : Type 0
BroadcastCourse = Course (broadcast_picture.Picture Bytes) (BCall Bytes)

abbrev pub WatchCourse : Type 0
WatchCourse = Course (watch_picture.Picture Bytes) (WCall Bytes)

module _ (version : Version) (from kept : broadcast_picture.Picture Bytes) (same : IsFrom broadcast_picture.IsSound from kept) where
  in_broadcast : (stage : BroadcastStage) (line : List ℕ) (new : BroadcastCourse) (result : Result (Unit {0}) Stop)
      → TurnsTo machines.broadcast broadcast.IsProper (words_of_broadcast version) stage line (taken result new)
      → Takes (InBroadcast version from stage) (Good line) (taken result (spot.InBroadcast version kept new))
  in_broadcast stage line new (Ok done) h = (InBroadcast version from h.0, (On h.0, h.1, refl), (refl, same, h.2))
  in_broadcast stage line new (Err stop.Bad) h = (Bad, h, refl)
  in_broadcast stage line new (Err (stop.Illegal told)) h = record { illegal = (Illegal, h.0, refl); own = h.1 }
  in_broadcast stage line new (Err stop.Short) h = tt

module _ (from kept : watch_picture.Picture Bytes) (same : IsFrom watch_picture.IsSound from kept) where
  in_watch : (stage : WatchStage) (line : List ℕ) (new : WatchCourse) (result : Result (Unit {0}) Stop)
      → TurnsTo watch_machine watch.IsProper words_of_watch stage line (taken result new)
      → Takes (InWatch from stage) (Good line) (taken result (spot.InWatch kept new))
  in_watch stage line new (Ok done) h = (InWatch from h.0, (On h.0, h.1, refl), (same, h.2))
  in_watch stage line new (Err stop.Bad) h = (Bad, h, refl)
  in_watch stage line new (Err (stop.Illegal told)) h = record { illegal = (Illegal, h.0, refl); own = h.1 }
  in_watch stage line new (Err stop.Short) h = tt

-- by what the code holds
pub takes_broadcast : (here : Point) (version : Version) (kept : broadcast_picture.Picture Bytes) (held new : BroadcastCourse)
    (line : List ℕ) (result : Result (Unit {0}) Stop)
    → ((stage : BroadcastStage) → Shows machines.broadcast broadcast.IsProper stage held
    → TurnsTo machines.broadcast broadcast.IsProper (words_of_broadcast version) stage line (taken result new))
    → Holds here (spot.InBroadcast version kept held) → Takes here (Good line) (taken result (spot.InBroadcast version kept new))
takes_broadcast (InPicture place) version kept held new line result h s = absurd s
takes_broadcast (InBroadcast told from stage) version kept held new line result h s =
    subst (λ (v : Version). Takes (InBroadcast v from stage) (Good line) (taken result (spot.InBroadcast version kept new))) s.0
    (in_broadcast version from kept s.1 stage line new result (h stage s.2))
takes_broadcast (InWatch from stage) version kept held new line result h s = absurd s

pub takes_watch : (here : Point) (kept : watch_picture.Picture Bytes) (held new : WatchCourse) (line : List ℕ)
    (result : Result (Unit {0}) Stop)
    → ((stage : WatchStage) → Shows watch_machine watch.IsProper stage held
    → TurnsTo watch_machine watch.IsProper words_of_watch stage line (taken result new))
    → Holds here (spot.InWatch kept held) → Takes here (Good line) (taken result (spot.InWatch kept new))
takes_watch (InPicture place) kept held new line result h s = absurd s
takes_watch (InBroadcast told from stage) kept held new line result h s = absurd s
takes_watch (InWatch from stage) kept held new line result h s = in_watch from kept s.0 stage line new result (h stage s.1)

-- a line that is too long
pub too_long : (here : Point) → Takes here Long (Err stop.Bad)
too_long here = refl

-- the entries begin
begins_broadcast : (p : broadcast_picture.Picture Bytes) → broadcast_picture.IsSound p
    → Shows machines.broadcast broadcast.IsProper (CallDue (broadcast_picture.whole p) 0) (unbegun p)
begins_broadcast p s = (record { proper = (broadcast-whole p s).0; shown = (broadcast-whole p s).1 }, refl)

begins_watch : (p : watch_picture.Picture Bytes) → watch_picture.IsSound p
    → Shows watch_machine watch.IsProper (CallDue (watch_picture.whole p) 0) (unbegun p)
begins_watch p s = (record { proper = (watch-whole p s).0; shown = (watch-whole p s).1 }, refl)

pub begins_at_broadcast : (h : Head) (p : Picture) (version : Version) (parts kept : broadcast_picture.Picture Bytes) (held : BroadcastCourse)
    → h ≡ head.Broadcast version → p ≡ picture.Broadcast parts → IsFrom broadcast_picture.IsSound parts kept → held ≡ unbegun parts
    → Begins h p (Ok (spot.InBroadcast version kept held))
begins_at_broadcast h p version parts kept held e f same new = (
  InBroadcast version parts (CallDue (broadcast_picture.whole parts) 0),
  ap₂ entries_of e f,
  (
    refl,
    same,
    subst (λ (c : BroadcastCourse). Shows machines.broadcast broadcast.IsProper (CallDue (broadcast_picture.whole parts) 0) c) (sym new)
        (begins_broadcast parts same.0),
  ),
)

pub begins_at_watch : (h : Head) (p : Picture) (parts kept : watch_picture.Picture Bytes) (held : WatchCourse) → h ≡ head.Watch
    → p ≡ picture.Watch parts → IsFrom watch_picture.IsSound parts kept → held ≡ unbegun parts
    → Begins h p (Ok (spot.InWatch kept held))
begins_at_watch h p parts kept held e f same new = (
  InWatch parts (CallDue (watch_picture.whole parts) 0),
  ap₂ entries_of e f,
  (
    same,
    subst (λ (c : WatchCourse). Shows watch_machine watch.IsProper (CallDue (watch_picture.whole parts) 0) c) (sym new)
        (begins_watch parts same.0),
  ),
)

-- a line of a picture leads on
pub goes_on : (old new : Place) (told : Option (Head × Picture)) (line : List ℕ) → told ≡ None →
    ReadsLine (Ok told) old new (pictures.step old line)
    → Takes (InPicture old) (Good line) (Ok (spot.InPicture new))
goes_on old new told line e h =
    let next : pictures.step old line ≡ Some (pictures.On new) =
    subst (λ (o : Option (Head × Picture)). ReadsLine (Ok o) old new (pictures.step old line)) e h in
    (InPicture new, sym (ap picture_turn next), refl)

-- a line that is given
pub given : (here : Point) (args : Option (Bor (List ℕ))) (line : Bor (List ℕ)) (result : Result Spot Stop) → args ≡ Some line
    → Takes here (Good line.now) result → Takes here (line_given args) result
given here args line result e t = subst (λ (o : Option (Bor (List ℕ))). Takes here (line_given o) result) (sym e) t

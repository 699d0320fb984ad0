-- The lines of a picture of either kind, below a first line of either version (docs/FORMATS.md, "Traces").
use Rattle.std.specs.Prelude.{◌≡◌, List}
use Rattle.std.specs.List.{AllByRecursion}
use Rattle.th_model.specs.BroadcastPicture as broadcast_picture
use Rattle.th_model.specs.WatchPicture as watch_picture
use Rattle.th_lines.specs.Commands.{IsValue}
use Rattle.th_traces.specs.declared.head.Head.{Head}
use Rattle.th_traces.specs.declared.head.Head.TheVariants as head
use Rattle.th_traces.specs.declared.picture.Picture.{Picture}
use Rattle.th_traces.specs.declared.picture.Picture.TheVariants as picture
use Rattle.th_traces.specs.Broadcast as broadcast
use Rattle.th_traces.specs.Watch as watch
use Rattle.th_traces.specs.Spelled.{Bytes, picture_lines}

-- the lines are the spelling of a sound picture, in a trace that begins so
abbrev pub Spells : Head → Picture → List Bytes → Type 0
Spells (head.Broadcast version) (picture.Broadcast p) lines =
    broadcast_picture.IsSound p × AllByRecursion IsValue p.window.kept
    × (lines ≡ picture_lines (broadcast.told version p))
Spells head.Watch (picture.Watch p) lines =
    watch_picture.IsSound p × IsValue p.last × (lines ≡ picture_lines (watch.told p))
Spells h q lines = ⊥

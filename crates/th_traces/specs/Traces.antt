-- Whole traces: a picture, and the entries from there on (docs/FORMATS.md, "Traces").
use Rattle.std.specs.Prelude.{ℕ, List, map}
use Rattle.th_model.specs.declared.broadcast.BCall.{BCall}
use Rattle.th_model.specs.declared.broadcast.BReply.{BReply}
use Rattle.th_model.specs.declared.watch.WCall.{WCall}
use Rattle.th_model.specs.declared.watch.WReply.{WReply}
use Rattle.th_model.specs.BroadcastPicture as broadcast_picture
use Rattle.th_model.specs.WatchPicture as watch_picture
use Rattle.th_traces.specs.Broadcast as broadcast
use Rattle.th_traces.specs.Watch as watch
use Rattle.th_traces.specs.BroadcastWords as broadcast_words
use Rattle.th_traces.specs.WatchWords as watch_words
use Rattle.th_traces.specs.Grammars.{fields}
use Rattle.th_traces.specs.Spelled.{Bytes, PictureFields, text, trace_lines}
use Rattle.th_traces.specs.Versions.{version_of}

-- what the lines of a broadcast trace's picture tell: version 2 exactly where a call is
-- `subscribe-oldest`
abbrev pub broadcast_told : broadcast_picture.Picture Bytes → List (BCall Bytes × BReply Bytes)
    → PictureFields
broadcast_told p entries = broadcast.told (version_of (map (λ e. e.0) entries)) p

-- the lines of a broadcast trace
abbrev pub broadcast_lines : broadcast_picture.Picture Bytes → List (BCall Bytes × BReply Bytes)
    → List Bytes
broadcast_lines p entries = trace_lines (broadcast_told p entries)
    (fields broadcast_words.grammar entries)

-- the lines of a watch trace
abbrev pub watch_lines : watch_picture.Picture Bytes → List (WCall Bytes × WReply Bytes)
    → List Bytes
watch_lines p entries = trace_lines (watch.told p) (fields watch_words.grammar entries)

-- the whole texts
abbrev pub broadcast_trace : broadcast_picture.Picture Bytes → List (BCall Bytes × BReply Bytes)
    → List ℕ
broadcast_trace p entries = text (broadcast_lines p entries)

abbrev pub watch_trace : watch_picture.Picture Bytes → List (WCall Bytes × WReply Bytes) → List ℕ
watch_trace p entries = text (watch_lines p entries)

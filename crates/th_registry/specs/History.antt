-- A channel of the hub with what is kept of its history (docs/HISTORIES.md).
use Rattle.std.specs.Prelude.{ℕ, ◌+◌, Bool, ◌||◌, nat_lt, List, [], ◌∷◌, ◌++◌, length}
use Rattle.th_model.specs.declared.broadcast.BCall.{BCall}
use Rattle.th_model.specs.declared.broadcast.BReply.{BReply}
use Rattle.th_model.specs.declared.watch.WCall.{WCall}
use Rattle.th_model.specs.declared.watch.WReply.{WReply}
use Rattle.th_model.specs.BroadcastPicture as broadcast
use Rattle.th_model.specs.WatchPicture as watch
use Rattle.th_log.specs.History.{Log, Piece, most, piece_of}
use Rattle.th_registry.specs.declared.channel.Channel.{Channel}
use Rattle.th_registry.specs.Calls.{Bytes}

-- A channel's state, and the present segment of its history: what was seen of the channel where the segment begins, each
-- call since with its reply, the events before, and the most entries that a segment has. The key is no other channel's.
pub record History (E S C R : Type 0) : Type 0 where
  pub state : E
  pub key : ℕ
  pub first : ℕ
  pub start : S
  pub entries : List (C × R)
  pub limit : ℕ

module _ {E S C R : Type 0} where
  -- a channel that is opened: no event yet
  abbrev pub opened : (limit key : ℕ) → E → S → History E S C R
  opened limit key state start =
      record { state = state; key = key; first = 0; start = start; entries = []; limit = limit }

  -- one event: the reply, the state after it, and one entry more
  abbrev pub recorded : History E S C R → C → R × E → R × History E S C R
  recorded h call s = (s.0, record h { state = s.1; entries = h.entries ++ (call, s.0) ∷ [] })

  -- Where so many handles would be live after an event: whether there is no room for its entry beside those that spend
  -- these handles, in the segment or among all events of the channel.
  abbrev pub is_full : History E S C R → (live : ℕ) → Bool
  is_full h live =
      nat_lt h.limit (length h.entries + 1 + live)
      || nat_lt most (h.first + length h.entries + 1 + live)

  -- the present segment, which ends at what is seen now
  abbrev pub segment : History E S C R → S → Piece S C R
  segment h now = piece_of h.key h.first h.start h.entries now

  -- the next segment, which begins there
  abbrev pub cut : History E S C R → S → History E S C R
  cut h now = record h { first = h.first + length h.entries; start = now; entries = [] }

-- what is seen of a log
abbrev pub history_of : {S C R : Type 0} → Log S C R → History S S C R
history_of l = record {
  state = l.piece.last;
  key = l.piece.key;
  first = l.piece.first;
  start = l.piece.start;
  entries = l.piece.entries;
  limit = l.limit;
}

-- the segments of both kinds of channels
abbrev pub BroadcastSegment : Type 0
BroadcastSegment = Piece (broadcast.Picture Bytes) (BCall Bytes) (BReply Bytes)

abbrev pub WatchSegment : Type 0
WatchSegment = Piece (watch.Picture Bytes) (WCall Bytes) (WReply Bytes)

abbrev pub ChannelSegment : Type 0
ChannelSegment = Channel BroadcastSegment WatchSegment

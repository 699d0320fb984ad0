-- The hub as it is seen: of each channel its picture, and its history.
use Rattle.std.specs.Prelude.{◌≡◌, ℕ, Bool, is_some, map, nat_eq}
use Rattle.std.specs.Cmp.Lexicographic.{pointwise}
use Rattle.th_model.specs.Handles.{is_sender}
use Rattle.th_model.specs.Places.{place_of}
use Rattle.th_model.specs.declared.handles.TxId.{TxId}
use Rattle.th_model.specs.declared.handles.RxId.{RxId}
use Rattle.th_model.specs.declared.broadcast.BCall.{BCall}
use Rattle.th_model.specs.declared.broadcast.BReply.{BReply}
use Rattle.th_model.specs.declared.watch.WCall.{WCall}
use Rattle.th_model.specs.declared.watch.WReply.{WReply}
use Rattle.th_model.specs.BroadcastMachine as broadcast_machine
use Rattle.th_model.specs.BroadcastPicture as broadcast
use Rattle.th_model.specs.WatchMachine as watch_machine
use Rattle.th_model.specs.WatchMachine.{reader_of}
use Rattle.th_model.specs.WatchPicture as watch
use Rattle.th_log.specs.History.{Machine, Piece, live_after}
use Rattle.th_log.specs.Machines as machines
use Rattle.th_registry.specs.declared.channel.Channel.{Channel}
use Rattle.th_registry.specs.declared.channel.Channel.TheVariants.{Broadcast, Watch}
use Rattle.th_registry.specs.Calls.{Bytes}
use Rattle.th_registry.specs.History.{History, BroadcastSegment, WatchSegment, opened, recorded, is_full, segment, cut}
use Rattle.th_registry.specs.Receipts.{receipt_of}
use Rattle.th_registry.specs.Hub.{ChannelMachine, Machines, Query, Said, Says, Topics}
use Rattle.th_registry.specs.Endless.{EndlessChannel, EndlessTopics}

abbrev pub SeenBroadcast : Type 0
SeenBroadcast = History (broadcast.Picture Bytes) (broadcast.Picture Bytes)
    (BCall Bytes) (BReply Bytes)

abbrev pub SeenWatch : Type 0
SeenWatch = History (watch.Picture Bytes) (watch.Picture Bytes) (WCall Bytes) (WReply Bytes)

abbrev pub SeenChannel : Type 0
SeenChannel = Channel SeenBroadcast SeenWatch

abbrev pub SeenTopics : Type 0
SeenTopics = Topics SeenBroadcast SeenWatch

abbrev pub watch_answer : watch.Picture Bytes → WCall Bytes → WReply Bytes × watch.Picture Bytes
watch_answer = watch.answer (pointwise nat_eq)

-- a channel of any kind as it is seen: each event becomes an entry
abbrev pub seen_by : {E S C R : Type 0} → Machine E S C R → (S → TxId → Bool) → (S → RxId → Bool)
    → ChannelMachine (History S S C R) C R (Piece S C R)
seen_by m has_sender has_receiver = record {
  step = λ h call. recorded h call (m.answer h.state call);
  is_full = λ h call. is_full h (live_after m h.state call);
  has_sender = λ h tx. has_sender h.state tx;
  has_receiver = λ h rx. has_receiver h.state rx;
  cut = λ h. (segment h h.state, cut h h.state);
  receipt = receipt_of;
}

abbrev pub seen_broadcast :
    ChannelMachine SeenBroadcast (BCall Bytes) (BReply Bytes) BroadcastSegment
seen_broadcast = seen_by machines.broadcast (λ p tx. is_sender p.senders tx.0)
    (λ p rx. is_some (place_of p.window.places rx.0))

abbrev pub seen_watch : ChannelMachine SeenWatch (WCall Bytes) (WReply Bytes) WatchSegment
seen_watch = seen_by (machines.watch (pointwise nat_eq)) (λ p tx. is_sender p.senders tx.0)
    (λ p rx. is_some (reader_of p.readers rx.0))

-- segments have at most `limit` entries
abbrev pub pictures : (limit : ℕ) → Machines SeenBroadcast SeenWatch
pictures limit = record {
  broadcast = seen_broadcast;
  broadcast_opened = λ capacity base key.
      let p = broadcast.see (broadcast_machine.opened capacity base) in opened limit key p p;
  watch = seen_watch;
  watch_opened = λ value key.
      let p = watch.see (watch_machine.opened value 1) in opened limit key p p;
}

-- a history where the channel is seen so
abbrev pub with_state : {E S C R : Type 0} → History E S C R → S → History S S C R
with_state h state = record {
  state = state;
  key = h.key;
  first = h.first;
  start = h.start;
  entries = h.entries;
  limit = h.limit;
}

abbrev pub see_channel : EndlessChannel → SeenChannel
see_channel (Broadcast h) = Broadcast (with_state h (broadcast.see h.state))
see_channel (Watch h) = Watch (with_state h (watch.see h.state))

-- the topics as they are seen
abbrev pub see_topics : EndlessTopics → SeenTopics
see_topics ts = map (λ topic. (topic.0, see_channel topic.1)) ts

-- a desk of one thread: the most entries of a segment, and the topics
pub record Desk : Type 0 where
  pub limit : ℕ
  pub topics : SeenTopics

-- it says what the hub says, or that memory was refused; its limit stays
abbrev pub DeskSays : Desk → (q : Query) → Said q → Desk → Type 0
DeskSays old q said new =
    (new.limit ≡ old.limit) × Says (pictures old.limit) old.topics q said new.topics

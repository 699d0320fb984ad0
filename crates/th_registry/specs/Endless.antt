-- The hub whose channels remember every value ever sent, and every version ever published.
use Rattle.std.specs.Prelude.{ℕ, is_some, nat_eq}
use Rattle.std.specs.Cmp.Lexicographic.{pointwise}
use Rattle.std.specs.List.{AllByRecursion}
use Rattle.th_model.specs.Handles.{is_sender}
use Rattle.th_model.specs.Places.{place_of}
use Rattle.th_model.specs.Live.{live_handles, live_watchers}
use Rattle.th_model.specs.declared.broadcast.BCall.{BCall}
use Rattle.th_model.specs.declared.broadcast.BReply.{BReply}
use Rattle.th_model.specs.declared.watch.WCall.{WCall}
use Rattle.th_model.specs.declared.watch.WReply.{WReply}
use Rattle.th_model.specs.BroadcastMachine as broadcast
use Rattle.th_model.specs.BroadcastPicture as broadcast_picture
use Rattle.th_model.specs.WatchMachine as watch
use Rattle.th_model.specs.WatchMachine.{reader_of}
use Rattle.th_model.specs.WatchPicture as watch_picture
use Rattle.th_registry.specs.declared.channel.Channel.{Channel}
use Rattle.th_registry.specs.declared.channel.Channel.TheVariants.{Broadcast, Watch}
use Rattle.th_registry.specs.Calls.{Bytes}
use Rattle.th_registry.specs.History.{History, BroadcastSegment, WatchSegment, opened, recorded, is_full, segment, cut}
use Rattle.th_registry.specs.Receipts.{receipt_of}
use Rattle.th_registry.specs.Hub.{ChannelMachine, Machines, Topics}

abbrev pub EndlessBroadcast : Type 0
EndlessBroadcast = History (broadcast.Endless Bytes)
    (broadcast_picture.Picture Bytes) (BCall Bytes) (BReply Bytes)

abbrev pub EndlessWatch : Type 0
EndlessWatch = History (watch.Endless Bytes)
    (watch_picture.Picture Bytes) (WCall Bytes) (WReply Bytes)

abbrev pub EndlessChannel : Type 0
EndlessChannel = Channel EndlessBroadcast EndlessWatch

abbrev pub EndlessTopics : Type 0
EndlessTopics = Topics EndlessBroadcast EndlessWatch

-- a watch channel's values are compared byte by byte
abbrev pub watch_step : watch.Endless Bytes → WCall Bytes → WReply Bytes × watch.Endless Bytes
watch_step = watch.step (pointwise nat_eq)

-- each event of a channel becomes an entry
abbrev pub endless_broadcast :
    ChannelMachine EndlessBroadcast (BCall Bytes) (BReply Bytes) BroadcastSegment
endless_broadcast = record {
  step = λ h call. recorded h call (broadcast.step h.state call);
  is_full = λ h call. is_full h
      (live_handles (broadcast_picture.see (broadcast.step h.state call).1));
  has_sender = λ h tx. is_sender h.state.senders tx.0;
  has_receiver = λ h rx. is_some (place_of h.state.index rx.0);
  cut = λ h. (segment h (broadcast_picture.see h.state), cut h (broadcast_picture.see h.state));
  receipt = receipt_of;
}

abbrev pub endless_watch : ChannelMachine EndlessWatch (WCall Bytes) (WReply Bytes) WatchSegment
endless_watch = record {
  step = λ h call. recorded h call (watch_step h.state call);
  is_full = λ h call. is_full h (live_watchers (watch_picture.see (watch_step h.state call).1));
  has_sender = λ h tx. is_sender h.state.senders tx.0;
  has_receiver = λ h rx. is_some (reader_of h.state.marks rx.0);
  cut = λ h. (segment h (watch_picture.see h.state), cut h (watch_picture.see h.state));
  receipt = receipt_of;
}

-- segments have at most `limit` entries
abbrev pub endless : (limit : ℕ) → Machines EndlessBroadcast EndlessWatch
endless limit = record {
  broadcast = endless_broadcast;
  broadcast_opened = λ capacity base key.
      let e = broadcast.opened capacity base in opened limit key e (broadcast_picture.see e);
  watch = endless_watch;
  watch_opened = λ value key.
      let e = watch.opened value 1 in opened limit key e (watch_picture.see e);
}

abbrev pub IsProperChannel : EndlessChannel → Type 0
IsProperChannel (Broadcast h) = broadcast.IsProper h.state
IsProperChannel (Watch h) = watch.IsProper h.state

-- the state of each topic is proper
abbrev pub AreProper : EndlessTopics → Type 0
AreProper ts = AllByRecursion (λ topic. IsProperChannel topic.1) ts

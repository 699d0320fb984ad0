-- The two channels as machines.
use Rattle.std.specs.Prelude.{Bool, length, ◌==◌}
use Rattle.th_model.specs.declared.broadcast.BCall.{BCall}
use Rattle.th_model.specs.declared.broadcast.BReply.{BReply}
use Rattle.th_model.specs.declared.watch.WCall.{WCall}
use Rattle.th_model.specs.declared.watch.WReply.{WReply}
use Rattle.th_model.specs.BroadcastMachine as bm
use Rattle.th_model.specs.BroadcastPicture as bp
use Rattle.th_model.specs.WatchMachine as wm
use Rattle.th_model.specs.WatchPicture as wp
use Rattle.th_model.specs.Live.{live_handles, live_watchers}
use Rattle.th_log.specs.History.{Machine}

abbrev pub broadcast : {T : Type 0}
    → Machine (bm.Endless T) (bp.Picture T) (BCall T) (BReply T)
broadcast = record {
  see = bp.see;
  whole = bp.whole;
  step = bm.step;
  answer = bp.answer;
  ready = bp.is_ready;
  live = live_handles;
  closed = λ p. length p.senders == 0;
}

-- values are compared by `eq`
abbrev pub watch : {T : Type 0} → (T → T → Bool)
    → Machine (wm.Endless T) (wp.Picture T) (WCall T) (WReply T)
watch eq = record {
  see = wp.see;
  whole = wp.whole;
  step = wm.step eq;
  answer = wp.answer eq;
  ready = wp.is_ready;
  live = live_watchers;
  closed = λ p. length p.senders == 0;
}

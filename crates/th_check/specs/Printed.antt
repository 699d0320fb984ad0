-- Entries that can be printed: what their types say of their numbers and values.
use Rattle.th_model.specs.declared.broadcast.BCall.{BCall}
use Rattle.th_model.specs.declared.broadcast.BReply.{BReply}
use Rattle.th_model.specs.declared.watch.WCall.{WCall}
use Rattle.th_model.specs.declared.watch.WReply.{WReply}
use Rattle.th_traces.specs.BroadcastWords as broadcast
use Rattle.th_traces.specs.WatchWords as watch
use Rattle.th_traces.specs.Spelled.{Bytes}

-- the numbers and the values of an entry are such
abbrev pub IsPrinted : {C R : Type 0} → (C → Type 0) → (R → Type 0) → C × R → Type 0
IsPrinted CallFits ReplyFits e = CallFits e.0 × ReplyFits e.1

abbrev pub IsBroadcastPrinted : BCall Bytes × BReply Bytes → Type 0
IsBroadcastPrinted = IsPrinted broadcast.HasFields broadcast.ReplyFits

abbrev pub IsWatchPrinted : WCall Bytes × WReply Bytes → Type 0
IsWatchPrinted = IsPrinted watch.IsCall watch.ReplyFits

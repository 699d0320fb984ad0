-- The receipts of a hub's events (docs/HISTORIES.md).
use Rattle.std.specs.Prelude.{◌+◌, Option, Some, None, Result, Ok, Err, length}
use Rattle.th_model.specs.declared.broadcast.BCall.{BCall}
use Rattle.th_model.specs.declared.broadcast.BReply.{BReply}
use Rattle.th_model.specs.declared.watch.WCall.{WCall}
use Rattle.th_model.specs.declared.watch.WReply.{WReply}
use Rattle.th_log.specs.Outcome as log
use Rattle.th_registry.specs.declared.channel.Channel.{Channel}
use Rattle.th_registry.specs.declared.channel.Channel.TheVariants.{Broadcast, Watch}
use Rattle.th_registry.specs.Calls.{Bytes}
use Rattle.th_registry.specs.Events.{ChannelReply}
use Rattle.th_registry.specs.History.{History}

-- one event, as its caller was told of it: its place, the call, the reply and the channel's key
abbrev pub Receipt : Type 0 → Type 0 → Type 0
Receipt C R = log.Told C R

abbrev pub BroadcastReceipt : Type 0
BroadcastReceipt = Receipt (BCall Bytes) (BReply Bytes)

abbrev pub WatchReceipt : Type 0
WatchReceipt = Receipt (WCall Bytes) (WReply Bytes)

abbrev pub ChannelReceipt : Type 0
ChannelReceipt = Channel BroadcastReceipt WatchReceipt

-- what the channel replied
abbrev pub reply_in : ChannelReceipt → ChannelReply
reply_in (Broadcast receipt) = Broadcast receipt.reply
reply_in (Watch receipt) = Watch receipt.reply

-- the receipt of the next event of a channel: of this call, which is replied so
abbrev pub receipt_of : {E S C R : Type 0} → History E S C R → C → R → Receipt C R
receipt_of h call reply =
    record { place = h.first + length h.entries; call = call; reply = reply; key = h.key }

-- of what is said of a call: its reply, and its receipt, if it was an event
abbrev pub reply_of : {C R E : Type 0} → Result (Receipt C R) E → Result R E
reply_of (Ok receipt) = Ok receipt.reply
reply_of (Err why) = Err why

abbrev pub receipt_in : {C R E : Type 0} → Result (Receipt C R) E → Option (Receipt C R)
receipt_in (Ok receipt) = Some receipt
receipt_in (Err why) = None

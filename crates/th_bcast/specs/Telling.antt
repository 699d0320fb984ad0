-- What the channel says of what its shelf found.
use Rattle.std.specs.Prelude.{ℕ, List, None}
use Rattle.th_model.specs.declared.broadcast.BReply.{BReply}
use Rattle.th_model.specs.declared.broadcast.BReply.TheVariants as replies
use Rattle.th_model.specs.BroadcastMachine.{end_reply}
use Rattle.th_shelf.specs.declared.received.Received.{Received}
use Rattle.th_shelf.specs.declared.received.Received.TheVariants.{Nobody, Nothing, Missed, Value}

-- the reply to a receive that finds this
abbrev pub reply_to : {T : Type 0} → List ℕ → Received T → BReply T
reply_to senders Nobody = replies.NoHandle None
reply_to senders Nothing = end_reply senders
reply_to senders (Missed n) = replies.Lagged n
reply_to senders (Value v) = replies.Value v

-- The numbers of a topic's handles, what they know of their channels, and which of these cut their logs by themselves.
use Rattle.std.specs.Prelude.{ℕ, Bool, false, Option, None, Some}
use Rattle.th_model.specs.declared.handles.TxId.{TxId}
use Rattle.th_model.specs.declared.handles.RxId.{RxId}
use Rattle.th_block.specs.Handles.{Holder, Known}
use Rattle.th_registry.specs.declared.channel.Channel.{Channel}
use Rattle.th_registry.specs.declared.channel.Channel.TheVariants.{Broadcast, Watch}
use Rattle.th_shared.specs.declared.handles.TopicReceiver.{TopicReceiver}
use Rattle.th_shared.specs.declared.handles.TopicReceiver.TheVariants.{Live, Spent}

-- a handle of either kind of channel
abbrev pub TopicHandle : Type 0
TopicHandle = Channel Holder Holder

abbrev pub number_of : TopicHandle → ℕ
number_of (Broadcast h) = h.number
number_of (Watch h) = h.number

-- its share, and its eye
abbrev pub known_of : TopicHandle → Known
known_of (Broadcast h) = h.known
known_of (Watch h) = h.known

-- whether its channel cuts its log by itself
abbrev pub rolls_of : TopicHandle → Bool
rolls_of (Broadcast h) = h.rolls
rolls_of (Watch h) = h.rolls

-- the same of a receiver, of which nothing is known any more where it was spent
abbrev pub rolls_with : TopicReceiver → Bool
rolls_with (Live h) = rolls_of h
rolls_with (Spent n) = false

-- the same of a sender, or of the hub's own where there is none
abbrev pub rolls_by : (hub : Bool) → Option TopicHandle → Bool
rolls_by hub None = hub
rolls_by hub (Some h) = rolls_of h

abbrev pub sender : TopicHandle → TxId
sender h = record { 0 = number_of h }

abbrev pub receiver : TopicReceiver → RxId
receiver (Live h) = record { 0 = number_of h }
receiver (Spent n) = record { 0 = n }

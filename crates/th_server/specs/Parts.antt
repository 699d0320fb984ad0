-- A part of a topic's history: which topic's it is, and which of the topic's events is its first.
use Rattle.std.specs.Prelude.{ℕ, ◌+◌, ◌-◌}
use Rattle.th_registry.specs.declared.channel.Channel.TheVariants.{Broadcast, Watch}
use Rattle.th_registry.specs.declared.opening.TopicId.{TopicId}
use Rattle.th_registry.specs.History.{ChannelSegment}

-- the key of its channel: the topic's number, counted from 1
abbrev pub key_of : ChannelSegment → ℕ
key_of (Broadcast part) = part.key
key_of (Watch part) = part.key

abbrev pub topic_of : ChannelSegment → TopicId
topic_of part = record { 0 = key_of part - 1 }

-- the number of its first event on the topic, counted from 1
abbrev pub first_of : ChannelSegment → ℕ
first_of (Broadcast part) = part.first + 1
first_of (Watch part) = part.first + 1

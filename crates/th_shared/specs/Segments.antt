-- Segments of topics' histories.
use Rattle.std.specs.Prelude.{ℕ, length}
use Rattle.th_registry.specs.declared.channel.Channel.TheVariants.{Broadcast, Watch}
use Rattle.th_registry.specs.History.{ChannelSegment}

-- how many entries a segment has
abbrev pub entries_of : ChannelSegment → ℕ
entries_of (Broadcast segment) = length segment.entries
entries_of (Watch segment) = length segment.entries

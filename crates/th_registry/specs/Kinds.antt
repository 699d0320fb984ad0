-- The kind of a channel.
use Rattle.th_model.specs.declared.kind.Kind.{Kind}
use Rattle.th_model.specs.declared.kind.Kind.TheVariants as Kinds
use Rattle.th_registry.specs.declared.channel.Channel.{Channel}
use Rattle.th_registry.specs.declared.channel.Channel.TheVariants.{Broadcast, Watch}

abbrev pub kind_of : {B W : Type 0} → Channel B W → Kind
kind_of (Broadcast c) = Kinds.Broadcast
kind_of (Watch c) = Kinds.Watch

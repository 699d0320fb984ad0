-- Which calls a kind of channel has.
use Rattle.std.specs.Prelude.{ℕ, Bool, true, false, List, is_some}
use Rattle.th_model.specs.declared.handles.TxId.{TxId}
use Rattle.th_model.specs.declared.handles.RxId.{RxId}
use Rattle.th_model.specs.declared.kind.Kind.{Kind}
use Rattle.th_model.specs.declared.kind.Kind.TheVariants as Kinds
use Rattle.th_model.specs.declared.verb.Question.{Question}
use Rattle.th_model.specs.declared.verb.ReceiverVerb.{ReceiverVerb}
use Rattle.th_model.specs.declared.verb.ReceiverVerb.TheVariants.{Recv, Changed}
use Rattle.th_model.specs.declared.verb.SenderVerb.{SenderVerb}
use Rattle.th_model.specs.declared.verb.Start.{Start}
use Rattle.th_model.specs.declared.verb.Start.TheVariants.{Tail, Oldest}
use Rattle.th_log.specs.Calls.{broadcast_asked, broadcast_by_receiver, broadcast_by_sender, watch_asked, watch_by_receiver, watch_by_sender}

-- a name, or a value
abbrev pub Bytes : Type 0
Bytes = List ℕ

abbrev pub tx : ℕ → TxId
tx n = record { 0 = n }

abbrev pub rx : ℕ → RxId
rx n = record { 0 = n }

-- whether a kind of channel has receivers that begin so
abbrev pub starts : Kind → Start → Bool
starts Kinds.Broadcast start = true
starts Kinds.Watch Tail = true
starts Kinds.Watch Oldest = false

-- whether a kind of channel has a call for the verb, read off the tables
abbrev pub sends : Kind → SenderVerb Bytes → Bool
sends Kinds.Broadcast verb = is_some (broadcast_by_sender verb (tx 0))
sends Kinds.Watch verb = is_some (watch_by_sender verb (tx 0))

abbrev pub answers : Kind → Question → Bool
answers Kinds.Broadcast question = is_some (broadcast_asked {T = Bytes} question (tx 0))
answers Kinds.Watch question = is_some (watch_asked {T = Bytes} question (tx 0))

abbrev pub receives : Kind → ReceiverVerb → Bool
receives Kinds.Broadcast verb = is_some (broadcast_by_receiver {T = Bytes} verb (rx 0))
receives Kinds.Watch verb = is_some (watch_by_receiver {T = Bytes} verb (rx 0))

-- whether the verb waits for its answer
abbrev pub waits : ReceiverVerb → Bool
waits Recv = true
waits Changed = true
waits verb = false

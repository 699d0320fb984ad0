-- What an actor's own sender or receiver does at the desk of one thread, of which nothing is kept but its entry in the
-- topic's log.
use Rattle.std.specs.Prelude.{◌≡◌, ℕ, nat_eq, Bool, false, if◌then◌else◌, Option, Some, None, position, slice_get, Result, Ok, Err}
use Rattle.std.specs.Cmp.Lexicographic.{pointwise}
use Rattle.std.specs.Map.{keys_of, values_of}
use Rattle.th_model.specs.declared.handles.RxId.{RxId}
use Rattle.th_model.specs.declared.handles.TxId.{TxId}
use Rattle.th_model.specs.declared.kind.Kind.{Kind}
use Rattle.th_model.specs.declared.verb.ReceiverVerb.{ReceiverVerb}
use Rattle.th_model.specs.declared.verb.SenderVerb.{SenderVerb}
use Rattle.th_lines.specs.Output.{AddsOrFails, Output}
use Rattle.th_lines.specs.Replies.{spell}
use Rattle.th_lines.specs.declared.command.Action.{Action}
use Rattle.th_lines.specs.declared.command.Action.TheVariants.{ByReceiver, BySender}
use Rattle.th_lines.specs.declared.command.Command.{Command}
use Rattle.th_lines.specs.declared.reply.Code.{Code}
use Rattle.th_lines.specs.declared.reply.Code.TheVariants as Codes
use Rattle.th_lines.specs.declared.reply.Reply.{Reply}
use Rattle.th_lines.specs.declared.reply.Reply.TheVariants.{Bye}
use Rattle.th_log.specs.History.{Machine}
use Rattle.th_registry.specs.Calls.{Bytes, receives, sends}
use Rattle.th_registry.specs.History.{History}
use Rattle.th_registry.specs.Outcomes.{KindSays}
use Rattle.th_registry.specs.Pictures.{SeenChannel, SeenTopics, pictures}
use Rattle.th_registry.specs.Receipts.{Receipt}
use Rattle.th_registry.specs.declared.outcome.NoEvent.{NoEvent}
use Rattle.th_session.specs.declared.handles.Handles.{Handles}
use Rattle.th_session.specs.declared.quiet.Own.{Own}
use Rattle.th_session.specs.declared.quiet.Own.TheVariants.{Receiver, Sender}
use Rattle.th_session.specs.Answer.{said}
use Rattle.th_session.specs.Kept.{Kept, having}
use Rattle.th_session.specs.Script.{Answer, Replied}
use Rattle.th_session.specs.Step.{Steps}
use Rattle.th_session.specs.Table.{replied_none}

-- the action that it is
abbrev pub action_of : Own → Action
action_of (Sender verb) = BySender verb
action_of (Receiver verb) = ByReceiver verb

-- by a handle that has to be held
abbrev pub by_held : {H C : Type 0} → Option H → (H → Option C) → Result (Option C) Code
by_held None call = Err Codes.NotHeld
by_held (Some handle) call = Ok (call handle)

-- its call on a topic of this kind of which these handles are held, or why there is none
abbrev pub own_call : {C : Type 0} → (by_sender : SenderVerb Bytes → TxId → Option C) →
    (by_receiver : ReceiverVerb → RxId → Option C) → Kind → Own → Handles TxId RxId →
    Result (Option C) Code
own_call by_sender by_receiver kind (Sender verb) s =
    if sends kind verb then by_held s.sender (by_sender verb) else Err Codes.WrongKind
own_call by_sender by_receiver kind (Receiver verb) s =
    if receives kind verb then by_held s.receiver (by_receiver verb) else Err Codes.WrongKind

-- the reply to a call, or why there was no event
abbrev pub reply_or_none : {C R : Type 0} → (R → Reply) → Result (Receipt C R) NoEvent → Reply
reply_or_none told (Ok receipt) = told receipt.reply
reply_or_none told (Err why) = replied_none why

-- One call of a channel of any kind, not through the hub's own sender: what came of it was put behind what waits, or the
-- writer failed.
abbrev pub PutsReply : {E S C R A F : Type 0} → Machine E S C R → (has_sender : S → TxId → Bool) →
    (has_receiver : S → RxId → Bool) → (waits : C → R → Bool) → (told : R → Reply) →
    History S S C R → Option C → History S S C R → Output → Output → Result A F → Type 0
PutsReply {C = C} {R = R} m has_sender has_receiver waits told old call new before after result =
    (came : Result (Receipt C R) NoEvent)
    × KindSays m has_sender has_receiver waits old false call came new
    × AddsOrFails (spell (reply_or_none told came)) before after result

-- a channel stands under this name, and has this number
abbrev pub Stands : SeenTopics → Bytes → (n : ℕ) → SeenChannel → Type 0
Stands ts name n channel =
    (position (pointwise nat_eq name) (keys_of ts) ≡ Some n)
    × (slice_get (values_of ts) n ≡ Some channel)

-- A command of an actor that had this is carried out, and the actor holds the same then: the answer and the topics are the
-- hub's, or memory was refused, and the answer is not the one to `QUIT`. Its text was put behind what waits, or the writer
-- failed.
abbrev pub PutsQuietly : {A E : Type 0} → (limit : ℕ) → Kept → SeenTopics → Command →
    SeenTopics → Output → Output → Result A E → Type 0
PutsQuietly limit had old command new before after result =
    (answer : Answer)
    × Steps (pictures limit) had old command answer (having had answer had.handles) new
    × (answer ≡ Replied Bye → ⊥)
    × AddsOrFails (said answer) before after result

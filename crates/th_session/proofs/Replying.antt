-- The reply in a receipt of the hub is the reply to what is said of its event.
use Rattle.std.proofs.Common.{◌≡◌, ℕ, Bool, true, false, cond, Option, Some, None, Result, Ok, Err, refl, sym, ap, ◌∙◌}
use Rattle.std.specs.Prelude.{slice_get}
use Rattle.std.specs.Option.{option_map}
use Rattle.std.specs.Map.{values_of}
use Rattle.th_model.specs.declared.broadcast.BCall.{BCall}
use Rattle.th_model.specs.declared.broadcast.BReply.{BReply}
use Rattle.th_model.specs.declared.broadcast.BReply.TheVariants as BReplies
use Rattle.th_model.specs.declared.watch.WCall.{WCall}
use Rattle.th_model.specs.declared.watch.WReply.{WReply}
use Rattle.th_model.specs.declared.watch.WReply.TheVariants as WReplies
use Rattle.th_lines.specs.declared.reply.Reply.{Reply}
use Rattle.th_registry.specs.declared.channel.Channel.{Channel}
use Rattle.th_registry.specs.declared.channel.Channel.TheVariants.{Broadcast, Watch}
use Rattle.th_registry.specs.declared.outcome.NoEvent.{NoEvent}
use Rattle.th_registry.specs.Calls.{Bytes}
use Rattle.th_registry.specs.Events.{Event, Outcome, Binds, Subscribes, Sends, Asks, Receives, Resubscribes, DropsTx, DropsRx, broadcast_call, broadcast_made_tx, broadcast_made_rx, broadcast_outcome, ended_or, is_broadcast_done, is_end, is_watch_done, watch_call, watch_made_tx, watch_made_rx, watch_outcome}
use Rattle.th_registry.specs.Hub.{Machines, Noted, On, Topics, broadcast_event, came, channel_event, channel_receipt, on_channel, receipt_on, receipted, say, watch_event}
use Rattle.th_session.specs.Script.{answered, reply_of}
use Rattle.th_session.specs.Table.{replied, replied_broadcast, replied_watch}

-- what is told, whatever the event was to come to: a sender, a receiver, or the end of a handle
abbrev AreTold : Outcome → Outcome → Outcome → Reply → Type 0
AreTold sender receiver end reply = (replied (Ok sender) ≡ reply) × (replied (Ok receiver) ≡ reply) × (replied (Ok end) ≡ reply)

made : (r : BReply Bytes) →
    AreTold (broadcast_made_tx r) (broadcast_made_rx r) (ended_or (is_broadcast_done r) (Broadcast r)) (replied_broadcast r)
made r =
    elim r as
    (λ r. AreTold (broadcast_made_tx r) (broadcast_made_rx r) (ended_or (is_broadcast_done r) (Broadcast r)) (replied_broadcast r))
    [ BReplies.Empty ↦ (refl, refl, refl) | _ ↦ (refl, refl, refl) ]

watch-made : (r : WReply Bytes) →
    AreTold (watch_made_tx r) (watch_made_rx r) (ended_or (is_watch_done r) (Watch r)) (replied_watch r)
watch-made r = elim r as (λ r. AreTold (watch_made_tx r) (watch_made_rx r) (ended_or (is_watch_done r) (Watch r)) (replied_watch r))
    [ WReplies.Done ↦ (refl, refl, refl) | _ ↦ (refl, refl, refl) ]

broadcast-outcome : (event : Event) (reply : BReply Bytes) → replied (Ok (broadcast_outcome event reply)) ≡ replied_broadcast reply
broadcast-outcome Binds reply = (made reply).0
broadcast-outcome (Subscribes start by) reply = (made reply).1
broadcast-outcome (Sends t verb) reply = refl
broadcast-outcome (Asks by question) reply = refl
broadcast-outcome (Receives r verb) reply = refl
broadcast-outcome (Resubscribes r) reply = (made reply).1
broadcast-outcome (DropsTx by) reply = (made reply).2
broadcast-outcome (DropsRx r) reply = (made reply).2

watch-outcome : (event : Event) (reply : WReply Bytes) → replied (Ok (watch_outcome event reply)) ≡ replied_watch reply
watch-outcome Binds reply = (watch-made reply).0
watch-outcome (Subscribes start by) reply = (watch-made reply).1
watch-outcome (Sends t verb) reply = refl
watch-outcome (Asks by question) reply = refl
watch-outcome (Receives r verb) reply = refl
watch-outcome (Resubscribes r) reply = refl
watch-outcome (DropsTx by) reply = (watch-made reply).2
watch-outcome (DropsRx r) reply = (watch-made reply).2

-- of what is said of an event, the reply that its answer tells
abbrev TellsSame : ℕ → Noted → Type 0
TellsSame n noted = reply_of (answered n noted) ≡ Some (replied noted.0)

-- receipts have the reply for which they are made
module _ {B W : Type 0} (m : Machines B W)
    (of : (c : B) (call : BCall Bytes) (reply : BReply Bytes) → (m.broadcast.receipt c call reply).reply ≡ reply)
    (of-watch : (c : W) (call : WCall Bytes) (reply : WReply Bytes) → (m.watch.receipt c call reply).reply ≡ reply)
    (n : ℕ) where
  broadcast-same : (c : B) (event : Event) (said : Result (BReply Bytes) NoEvent) (call : Option (BCall Bytes)) (end : Bool) →
      TellsSame n (came (broadcast_outcome event) said, option_map (λ r. Broadcast r) (cond end None (receipted m.broadcast c said call)))
  broadcast-same c event said call true = refl
  broadcast-same c event (Ok reply) (Some call) false = ap (λ r. Some r)
      (ap replied_broadcast (of c call reply) ∙ sym (broadcast-outcome event reply))
  broadcast-same c event (Ok reply) None false = refl
  broadcast-same c event (Err why) call false = refl

  watch-same : (c : W) (event : Event) (said : Result (WReply Bytes) NoEvent) (call : Option (WCall Bytes)) (end : Bool) →
      TellsSame n (came (watch_outcome event) said, option_map (λ r. Watch r) (cond end None (receipted m.watch c said call)))
  watch-same c event said call true = refl
  watch-same c event (Ok reply) (Some call) false = ap (λ r. Some r)
      (ap replied_watch (of-watch c call reply) ∙ sym (watch-outcome event reply))
  watch-same c event (Ok reply) None false = refl
  watch-same c event (Err why) call false = refl

  channel-same : (c : Channel B W) (event : Event) →
      TellsSame n ((channel_event m.broadcast m.watch c event).0, channel_receipt m.broadcast m.watch c event)
  channel-same (Broadcast c) event = broadcast-same c event (broadcast_event m.broadcast c event).0 (broadcast_call event) (is_end event)
  channel-same (Watch c) event = watch-same c event (watch_event m.watch c event).0 (watch_call event) (is_end event)

  topic-same : (ts : Topics B W) (event : Event) (o : Option (Channel B W)) →
      TellsSame n ((on_channel ts n (λ c. channel_event m.broadcast m.watch c event) o).0, receipt_on m o event)
  topic-same ts event None = refl
  topic-same ts event (Some c) = channel-same c event

  pub event-told : (ts : Topics B W) (event : Event) → TellsSame n (say m ts (On n event)).0
  event-told ts event = topic-same ts event (slice_get (values_of ts) n)

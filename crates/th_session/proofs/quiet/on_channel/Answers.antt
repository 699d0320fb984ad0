use Rattle.std.proofs.Common.{◌∙◌, ℕ, List, Option, Some, false, ap, subst, sym}
use Rattle.std.specs.Prelude.{is_some, nat_eq}
use Rattle.std.specs.Cmp.Lexicographic.{pointwise}
use Rattle.th_model.specs.Handles.{is_sender}
use Rattle.th_model.specs.Places.{place_of}
use Rattle.th_model.specs.WatchMachine.{reader_of}
use Rattle.th_model.specs.declared.broadcast.BCall.{BCall}
use Rattle.th_model.specs.declared.kind.Kind.TheVariants as Kinds
use Rattle.th_model.specs.declared.watch.WCall.{WCall}
use Rattle.th_lines.specs.Output.{AddsOrFails, Output, output}
use Rattle.th_log.specs.Calls.{broadcast_waits, watch_waits}
use Rattle.th_log.specs.Machines as machines
use Rattle.th_registry.specs.Calls.{Bytes}
use Rattle.th_registry.specs.Events.{broadcast_call, watch_call}
use Rattle.th_registry.specs.Outcomes.{KindSays}
use Rattle.th_registry.specs.Pictures.{SeenBroadcast, SeenChannel, SeenWatch}
use Rattle.th_registry.specs.declared.channel.Channel.TheVariants.{Broadcast, Watch}
use Rattle.th_registry.proofs.Keeping.{broadcast-tells, of_broadcast, of_watch, watch-tells}
use Rattle.th_session.specs.Held.{handles_at}
use Rattle.th_session.proofs.Unkept.{broadcast-text, own-called, refuses, tells, watch-text}
use Rattle.th_session.proofs.quiet.on_channel.Goals as goal

pub returns-in-Ok : goal.returns-in-Ok
returns-in-Ok g c = λ limit ts name stands.
    let n = c.args.topic.0 in
    let before : Output = output g.W.Write.contents c.args.writer.now c.args.out.now in
    let after : Output = output g.W.Write.contents c.put_reply.new.writer c.put_reply.new.out in
    let old : SeenBroadcast = c.in-Broadcast.channel in
    let new : SeenBroadcast = c.put_reply.new.channel in
    let there = stands.1 ∙ ap (λ (channel : SeenChannel). Some channel) c.in-Broadcast.is in
    let s = handles_at c.args.session.now.handles n in
    let by = own-called broadcast_call Kinds.Broadcast s c.args.own c.in-Ok.call (sym c.own_call.ensures ∙ c.in-Ok.is) in
    let put = c.put_reply.ensures in
    let P : Option (BCall Bytes) → Type 0 = λ call. KindSays machines.broadcast (λ p tx. is_sender p.senders tx.0)
    (λ p rx. is_some (place_of p.window.places rx.0)) broadcast_waits old false call put.0 new in
    let told = broadcast-tells by.1 by.2 old new put.0 (subst P (sym by.4) put.1) in
    let Q : List ℕ → Type 0 = λ text. AddsOrFails text before after c.put_reply.result in
    tells limit c.args.session.now name c.args.own ts n (Broadcast old) stands.0 there c.put_reply.result by.1 (of_broadcast put.0)
    (Broadcast new) before after by.0 by.3 told (subst Q (broadcast-text n put.0) put.2)

pub returns-in-Err : goal.returns-in-Err
returns-in-Err g c = λ limit ts name stands.
    let before : Output = output g.W.Write.contents c.args.writer.now c.args.out.now in
    let after : Output = output g.W.Write.contents c.append.new.writer c.append.new.self in
    let there = stands.1 ∙ ap (λ (channel : SeenChannel). Some channel) c.in-Broadcast.is in
    refuses limit c.args.session.now name c.args.own ts c.args.topic.0 (Broadcast c.in-Broadcast.channel) stands.0 there c.append.result
    broadcast_call c.in-Err.code before after (sym c.own_call.ensures ∙ c.in-Err.is) c.append.ensures

pub returns-in-Ok-own_call : goal.returns-in-Ok-own_call
returns-in-Ok-own_call g c = λ limit ts name stands.
    let n = c.args.topic.0 in
    let before : Output = output g.W.Write.contents c.args.writer.now c.args.out.now in
    let after : Output = output g.W.Write.contents c.put_reply-in-Ok-own_call.new.writer c.put_reply-in-Ok-own_call.new.out in
    let old : SeenWatch = c.in-Watch.channel in
    let new : SeenWatch = c.put_reply-in-Ok-own_call.new.channel in
    let there = stands.1 ∙ ap (λ (channel : SeenChannel). Some channel) c.in-Watch.is in
    let s = handles_at c.args.session.now.handles n in
    let by = own-called watch_call Kinds.Watch s c.args.own c.in-Ok-own_call.call (sym c.own_call-in-Watch.ensures ∙ c.in-Ok-own_call.is) in
    let put = c.put_reply-in-Ok-own_call.ensures in
    let P : Option (WCall Bytes) → Type 0 = λ call. KindSays (machines.watch (pointwise nat_eq)) (λ p tx. is_sender p.senders tx.0)
    (λ p rx. is_some (reader_of p.readers rx.0)) watch_waits old false call put.0 new in
    let told = watch-tells by.1 by.2 old new put.0 (subst P (sym by.4) put.1) in
    let Q : List ℕ → Type 0 = λ text. AddsOrFails text before after c.put_reply-in-Ok-own_call.result in
    tells limit c.args.session.now name c.args.own ts n (Watch old) stands.0 there c.put_reply-in-Ok-own_call.result by.1 (of_watch put.0)
    (Watch new) before after by.0 by.3 told (subst Q (watch-text n put.0) put.2)

pub returns-in-Err-own_call : goal.returns-in-Err-own_call
returns-in-Err-own_call g c = λ limit ts name stands.
    let before : Output = output g.W.Write.contents c.args.writer.now c.args.out.now in
    let after : Output = output g.W.Write.contents c.append-in-Err-own_call.new.writer c.append-in-Err-own_call.new.self in
    let there = stands.1 ∙ ap (λ (channel : SeenChannel). Some channel) c.in-Watch.is in
    refuses limit c.args.session.now name c.args.own ts c.args.topic.0
    (Watch c.in-Watch.channel) stands.0 there c.append-in-Err-own_call.result
    watch_call c.in-Err-own_call.code before after (sym c.own_call-in-Watch.ensures ∙ c.in-Err-own_call.is) c.append-in-Err-own_call.ensures

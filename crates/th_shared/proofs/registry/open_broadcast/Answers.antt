use Rattle.std.proofs.Common.{◌<◌, ◌≤◌, ap, length, refl, arith}
use Rattle.th_model.specs.declared.making.Making.TheVariants as Makings
use Rattle.th_registry.specs.declared.channel.Channel.TheVariants.{Broadcast}
use Rattle.th_registry.proofs.Openings.{made-none, made-some}
use Rattle.th_shared.specs.OwnSender.{HubTopics}
use Rattle.th_shared.proofs.Opened.{opens-last, opens-no-memory, opens-none, opens-too-many}
use Rattle.th_shared.proofs.registry.open_broadcast.Goals as goal

pub returns-in_default : goal.returns-in_default
returns-in_default c =
    opens-none c.args.topics.now.entries c.args.name c.requires.absent (Makings.BroadcastAt c.args.asked c.args.base)
    (λ m key. made-none m key c.args.asked c.args.base c.in_default.ensures.refused)

pub returns-then-len-ge-MOST_TOPICS : goal.returns-then-len-ge-MOST_TOPICS
returns-then-len-ge-MOST_TOPICS c =
    let ts = c.args.topics.now.entries in
    let full : 1024 ≤ length ts = omega (arith, c.len.ensures.len, c.if-len-ge-MOST_TOPICS.true) in
    opens-too-many ts c.args.name c.requires.absent (Makings.BroadcastAt c.args.asked c.args.base) c.in-Ok.capacity (Broadcast tt)
    (λ m key. made-some m key c.args.asked c.args.base c.in-Ok.capacity (omega arith) c.in-Ok.ensures.in_force) full

pub returns-in_default-broadcast_topic : goal.returns-in_default-broadcast_topic
returns-in_default-broadcast_topic c =
    let ts = c.args.topics.now.entries in
    let room : length ts < 1024 = omega (arith, c.len.ensures.len, c.if-len-ge-MOST_TOPICS.false) in
    opens-no-memory ts c.args.name c.requires.absent (Makings.BroadcastAt c.args.asked c.args.base) c.in-Ok.capacity (Broadcast tt)
    (λ m key. made-some m key c.args.asked c.args.base c.in-Ok.capacity (omega arith) c.in-Ok.ensures.in_force) room ts refl

pub returns-in_default-add : goal.returns-in_default-add
returns-in_default-add c =
    let ts = c.args.topics.now.entries in
    let room : length ts < 1024 = omega (arith, c.len.ensures.len, c.if-len-ge-MOST_TOPICS.false) in
    opens-no-memory ts c.args.name c.requires.absent (Makings.BroadcastAt c.args.asked c.args.base) c.in-Ok.capacity (Broadcast tt)
    (λ m key. made-some m key c.args.asked c.args.base c.in-Ok.capacity (omega arith) c.in-Ok.ensures.in_force) room _
    (ap (λ (t : HubTopics). t.entries) c.in_default-add.ensures.err.1)

pub returns : goal.returns
returns c =
    let ts = c.args.topics.now.entries in
    let room : length ts < 1024 = omega (arith, c.len.ensures.len, c.if-len-ge-MOST_TOPICS.false) in
    opens-last ts c.args.name c.requires.absent (Makings.BroadcastAt c.args.asked c.args.base) c.in-Ok.capacity (Broadcast tt)
    (λ m key. made-some m key c.args.asked c.args.base c.in-Ok.capacity (omega arith) c.in-Ok.ensures.in_force) room
    (Broadcast c.in-Some.topic) refl _ c.in_force-in_force.ensures.value _
    (ap (λ (t : HubTopics). t.entries) c.in-Ok-add.ensures.ok)

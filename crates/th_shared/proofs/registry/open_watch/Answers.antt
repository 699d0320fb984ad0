use Rattle.std.proofs.Common.{◌<◌, ◌≤◌, ap, length, refl, arith}
use Rattle.th_model.specs.declared.making.Making.TheVariants as Makings
use Rattle.th_registry.specs.declared.channel.Channel.TheVariants.{Watch}
use Rattle.th_shared.specs.OwnSender.{HubTopics}
use Rattle.th_shared.proofs.Opened.{opens-last, opens-no-memory, opens-too-many}
use Rattle.th_shared.proofs.registry.open_watch.Goals as goal

pub returns-then-len-ge-MOST_TOPICS : goal.returns-then-len-ge-MOST_TOPICS
returns-then-len-ge-MOST_TOPICS c =
    let ts = c.args.topics.now.entries in
    let full : 1024 ≤ length ts = omega (arith, c.len.ensures.len, c.if-len-ge-MOST_TOPICS.true) in
    opens-too-many ts c.args.name c.requires.absent (Makings.Watch c.args.value) 1 (Watch tt) (λ m key. refl) full

pub returns-in_default : goal.returns-in_default
returns-in_default c =
    let ts = c.args.topics.now.entries in
    let room : length ts < 1024 = omega (arith, c.len.ensures.len, c.if-len-ge-MOST_TOPICS.false) in
    opens-no-memory ts c.args.name c.requires.absent (Makings.Watch c.args.value) 1 (Watch tt) (λ m key. refl) room ts refl

pub returns-in_default-add : goal.returns-in_default-add
returns-in_default-add c =
    let ts = c.args.topics.now.entries in
    let room : length ts < 1024 = omega (arith, c.len.ensures.len, c.if-len-ge-MOST_TOPICS.false) in
    opens-no-memory ts c.args.name c.requires.absent (Makings.Watch c.args.value) 1 (Watch tt) (λ m key. refl) room _
    (ap (λ (t : HubTopics). t.entries) c.in_default-add.ensures.err.1)

pub returns : goal.returns
returns c =
    let ts = c.args.topics.now.entries in
    let room : length ts < 1024 = omega (arith, c.len.ensures.len, c.if-len-ge-MOST_TOPICS.false) in
    opens-last ts c.args.name c.requires.absent (Makings.Watch c.args.value) 1 (Watch tt) (λ m key. refl) room
    (Watch c.in-Some.topic) refl _ refl _ (ap (λ (t : HubTopics). t.entries) c.in-Ok.ensures.ok)

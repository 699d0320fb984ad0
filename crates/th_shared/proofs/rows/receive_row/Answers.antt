use Rattle.std.proofs.Common.{◌∙◌, ap, refl, subst, sym}
use Rattle.th_registry.proofs.InRow.{none_in_row}
use Rattle.th_registry.specs.Events.{Receives}
use Rattle.th_registry.specs.Rows.{MadeInRow, times}
use Rattle.th_shared.specs.declared.handles.TopicReceiver.{TopicReceiver}
use Rattle.th_shared.specs.declared.handles.TopicReceiver.TheVariants.{Live}
use Rattle.th_shared.specs.Numbers.{TopicHandle, receiver}
use Rattle.th_shared.specs.Saying.{Says}
use Rattle.th_shared.proofs.InRow.{broadcast_in_row, watch_in_row}
use Rattle.th_shared.proofs.rows.receive_row.Goals as goal

pub returns-in-Live-Broadcast-clause-row : goal.returns-in-Live-Broadcast-clause-row
returns-in-Live-Broadcast-clause-row g c = λ hub.
    let own = c.in-Live-Broadcast.handle in
    subst (λ (h : TopicReceiver). MadeInRow Says c.args.topic.0 (times c.args.most (Receives (receiver h) c.args.verb))
    c.args.receipts.now.items c.put_broadcast.new.receipts.items hub hub c.put_broadcast.result)
    (sym (c.in-Live-Broadcast.is ∙ ap (λ (h : TopicHandle). Live h) c.in-Live-Broadcast.field-0-is))
    (broadcast_in_row hub c.args.topic.0 (Receives (record { 0 = own.number }) c.args.verb) refl c.args.most own c.receive.new.receiver
    c.receive.new.room.items c.args.receipts.now.items c.put_broadcast.new.receipts.items c.put_broadcast.result (λ _. refl)
    c.receive.ensures.receives c.receive.ensures.few c.put_broadcast.ensures.behind c.put_broadcast.ensures.count)

pub returns-in-Live-Watch-clause-row : goal.returns-in-Live-Watch-clause-row
returns-in-Live-Watch-clause-row g c = λ hub.
    let own = c.in-Live-Watch.handle in
    subst (λ (h : TopicReceiver). MadeInRow Says c.args.topic.0 (times c.args.most (Receives (receiver h) c.args.verb))
    c.args.receipts.now.items c.put_watch.new.receipts.items hub hub c.put_watch.result)
    (sym (c.in-Live-Watch.is ∙ ap (λ (h : TopicHandle). Live h) c.in-Live-Watch.field-0-is))
    (watch_in_row hub c.args.topic.0 (Receives (record { 0 = own.number }) c.args.verb) refl c.args.most own
    c.receive-in-Live-Watch.new.receiver
    c.receive-in-Live-Watch.new.room.items c.args.receipts.now.items c.put_watch.new.receipts.items c.put_watch.result (λ _. refl)
    c.receive-in-Live-Watch.ensures.receives c.receive-in-Live-Watch.ensures.few c.put_watch.ensures.behind c.put_watch.ensures.count)

pub returns-in-Spent-clause-row : goal.returns-in-Spent-clause-row
returns-in-Spent-clause-row g c = λ hub. none_in_row Says c.args.topic.0 _ c.args.receipts.now.items hub

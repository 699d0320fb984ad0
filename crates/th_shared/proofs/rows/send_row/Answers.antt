use Rattle.std.proofs.Common.{subst, sym}
use Rattle.th_registry.proofs.InRow.{none_in_row}
use Rattle.th_registry.specs.Rows.{MadeInRow, sends_of}
use Rattle.th_shared.specs.Numbers.{TopicHandle, sender}
use Rattle.th_shared.specs.Saying.{Says}
use Rattle.th_shared.proofs.InRow.{sends_in_row}
use Rattle.th_shared.proofs.rows.send_row.Goals as goal

pub returns-in-Broadcast-clause-row : goal.returns-in-Broadcast-clause-row
returns-in-Broadcast-clause-row g c = λ hub.
    let own = c.in-Broadcast.handle in
    subst (λ (h : TopicHandle). MadeInRow Says c.args.topic.0 (sends_of (sender h) c.args.values.now.items) c.args.receipts.now.items
    c.put_broadcast.new.receipts.items hub hub c.put_broadcast.result) (sym c.in-Broadcast.is)
    (sends_in_row hub c.args.topic.0 c.args.values.now.items own c.send.new.sender c.send.new.room.items c.args.receipts.now.items
    c.put_broadcast.new.receipts.items c.put_broadcast.result c.send.ensures.sends c.put_broadcast.ensures.behind
    c.put_broadcast.ensures.count)

pub returns-in-Watch-clause-row : goal.returns-in-Watch-clause-row
returns-in-Watch-clause-row g c = λ hub. none_in_row Says c.args.topic.0 _ c.args.receipts.now.items hub

use Rattle.std.proofs.Common.{subst, sym}
use Rattle.th_registry.specs.Events.{Receives}
use Rattle.th_registry.specs.Rows.{MadeInRow, times}
use Rattle.th_shared.specs.Numbers.{receiver}
use Rattle.th_shared.specs.Saying.{AtHub, Says}
use Rattle.th_shared.proofs.desk.SharedDeskDesk.by_receiver_row.Goals as goal

pub returns-clause-row : goal.returns-clause-row
returns-clause-row g c =
    subst (λ (d : AtHub). MadeInRow Says c.args.topic.0 (times c.args.most (Receives
    (receiver c.args.receiver.now) c.args.verb)) c.args.receipts.now.items
    c.receive_row.new.receipts.items c.args.self.now d c.receive_row.result) (sym c.self.view_is)
    (c.receive_row.ensures.row c.args.self.now)

use Rattle.std.proofs.Common.{subst, sym}
use Rattle.th_registry.specs.Rows.{MadeInRow, sends_of}
use Rattle.th_shared.specs.Numbers.{sender}
use Rattle.th_shared.specs.Saying.{AtHub, Says}
use Rattle.th_shared.proofs.desk.SharedDeskDesk.send_row.Goals as goal

pub returns-clause-row : goal.returns-clause-row
returns-clause-row g c =
    subst (λ (d : AtHub). MadeInRow Says c.args.topic.0 (sends_of (sender c.args.sender.now) c.args.values.now.items)
    c.args.receipts.now.items
    c.send_row.new.receipts.items c.args.self.now d c.send_row.result) (sym c.self.view_is) (c.send_row.ensures.row c.args.self.now)

use Rattle.th_registry.specs.Pictures.{DeskSays}
use Rattle.th_registry.proofs.InRow.{none_in_row}
use Rattle.th_registry.proofs.local.LocalDeskDesk.by_receiver_row.Goals as goal

pub returns-clause-row : goal.returns-clause-row
returns-clause-row c = none_in_row DeskSays c.args._topic.0 _ c.args._receipts.now.items c.args.self.now

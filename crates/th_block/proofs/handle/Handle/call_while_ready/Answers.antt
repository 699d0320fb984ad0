use Rattle.std.proofs.Common.{is_some, subst}
use Rattle.std.specs.Arc.{arc_value}
use Rattle.th_block.specs.Handles.{Holder}
use Rattle.th_block.specs.Rows.{CallsInRow}
use Rattle.th_block.proofs.Rows.{called, holder}
use Rattle.th_block.proofs.handle.Handle.call_while_ready.Goals as goal

pub returns-clause-row : goal.returns-clause-row
returns-clause-row g c =
    let i = c.self.inside in
    let seen = c.see_all.ensures in
    subst (λ (old : Holder). CallsInRow old
    (holder i.number (is_some (arc_value i.room).cuts) c.see_all.new.account) c.args.call.now c.all_ready-total.new.receipts.items) c.self.view_is
    (called i.number (is_some (arc_value i.room).cuts) i.account c.all_ready-total.new.account c.see_all.new.account _ _ _ _ _ c.all_ready-total.ensures.row
    c.all_ready-total.ensures.total seen.share seen.eye seen.seen)

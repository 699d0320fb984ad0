use Rattle.std.proofs.Common.{is_some, subst}
use Rattle.std.specs.Arc.{arc_value}
use Rattle.th_block.specs.Handles.{Holder}
use Rattle.th_block.specs.Together.{Takes}
use Rattle.th_block.proofs.Many.{takes}
use Rattle.th_block.proofs.Rows.{holder}
use Rattle.th_block.proofs.handle.Handle.many.Goals as goal

pub returns-clause-taken : goal.returns-clause-taken
returns-clause-taken g c =
    let i = c.self.inside in
    let made = c.many_ready-answer.new in
    let seen = c.see_all.ensures in
    subst (λ (old : Holder). Takes g.O.Kind.ends old (holder i.number (is_some (arc_value i.room).cuts) c.see_all.new.account) c.args.call c.args.limit
    c.args.receipts.now.items made.receipts.items c.in_ok-count.count) c.self.view_is
    (takes g.O.Kind.ends i.number (is_some (arc_value i.room).cuts) i.account made.account c.see_all.new.account c.args.call c.args.limit _ _ _
    c.args.receipts.now.items made.receipts.items c.in_ok-count.count c.in_ok-count.ensures.made
    c.total-total.ensures seen.share seen.eye seen.seen)

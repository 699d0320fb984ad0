use Rattle.std.proofs.Common.{Bool, IfErr, OnOk, ap, is_some, subst}
use Rattle.std.specs.Arc.{arc_value}
use Rattle.th_block.specs.Handles.{Holder, IsFullAsSeen}
use Rattle.th_block.specs.Together.{MakesEach, StopsAt}
use Rattle.th_block.proofs.Many.{calls_of, leaves}
use Rattle.th_block.proofs.Rows.{holder}
use Rattle.th_block.proofs.Waits.{stops}
use Rattle.th_block.proofs.handle.Handle.each.Goals as goal

pub returns-clause-made : goal.returns-clause-made
returns-clause-made g c =
    let i = c.self.inside in
    let made = c.each_ready-awaited in
    let seen = c.see_all.ensures in
    subst (λ (old : Holder). MakesEach (g.Q.Queued.call old.number) old (holder i.number (is_some (arc_value i.room).cuts) c.see_all.new.account)
    c.args.queue.now.items made.new.queue.items c.args.receipts.now.items made.new.receipts.items made.result.1) c.self.view_is
    (leaves (g.Q.Queued.call i.number) made.result.1 made.new.queue.items _ _ made.ensures.row
    (λ over. calls_of (g.Q.Queued.call i.number) i.number (is_some (arc_value i.room).cuts) i.account made.new.account c.see_all.new.account _ _ _ _ over _ _
    c.total-total.ensures seen.share seen.eye seen.seen))

pub returns-clause-stop : goal.returns-clause-stop
returns-clause-stop g c =
    let made = c.each_ready-awaited in
    subst (λ (old : Holder). OnOk made.result.1 (StopsAt g.O.Object.machine.ready (g.Q.Queued.call old.number) made.new.queue.items)) c.self.view_is
    (stops g.O.Object.machine.ready (g.Q.Queued.call c.self.inside.number) made.new.held.log.piece.last made.result.1 made.new.queue.items
    made.ensures.stop)

pub returns-clause-full : goal.returns-clause-full
returns-clause-full g c =
    let made = c.each_ready-awaited in
    subst (λ (old : Holder). IfErr made.result.1 (IsFullAsSeen {C = g.row.O-Call.Denot} old.rolls old.known)) c.self.view_is
    (subst (λ (r : Bool). IfErr made.result.1 (IsFullAsSeen {C = g.row.O-Call.Denot} r c.self.inside.account))
    (ap (λ r. is_some r.cuts) c.deref-room.ensures) made.ensures.seen)

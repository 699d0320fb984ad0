use Rattle.std.proofs.Common.{◌+◌, ◌||◌, List, get_or, ap, drop, sym, ◌∙◌}
use Rattle.th_orders.specs.declared.rests.EventAt.{EventAt}
use Rattle.th_schedule.specs.Untold.{noted}
use Rattle.th_schedule.specs.Woven.{is_same, tells}
use Rattle.th_schedule.proofs.LoopLemmas.{drop-got, one-more}
use Rattle.th_schedule.proofs.gaps.note.Goals as goal

pub loop-event-preserved : goal.loop-event-preserved
loop-event-preserved c = λ e.
    let i = c.loop-event.event-index in
    let rest = drop (i + 1) c.args.session.now in
    let x : EventAt = get_or c.args.session.now i (record { topic = 0; place = 0 }) in
    ap (λ b. b || tells rest e) (c.in_ok-insert.ensures.updates.0 (e.topic, e.place))
    ∙ one-more (is_same x e) (noted c.loop-event.told e) (tells rest e)
    ∙ ap (λ (l : List EventAt). noted c.loop-event.told e || tells l e)
    (sym (drop-got c.args.session.now i (record { topic = 0; place = 0 }) c.loop-event-test.true))
    ∙ c.loop-event.invariant e

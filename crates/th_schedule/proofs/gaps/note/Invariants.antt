use Rattle.std.proofs.Common.{◌≡◌, ◌||◌, drop}
use Rattle.th_orders.specs.declared.rests.EventAt.{EventAt}
use Rattle.th_schedule.specs.Untold.{noted}
use Rattle.th_schedule.specs.Woven.{tells}
use Rattle.th_schedule.proofs.gaps.note.Given as goal

abbrev pub invariant-loop-event : goal.invariant-loop-event
invariant-loop-event l = (e : EventAt) →
    (noted l.told e || tells (drop l.event-index l.session) e) ≡ (noted l.fn.told e || tells l.session e)

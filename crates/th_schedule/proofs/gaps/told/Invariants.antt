use Rattle.std.proofs.Common.{◌≡◌, ◌||◌, drop, map}
use Rattle.th_orders.specs.declared.rests.EventAt.{EventAt}
use Rattle.th_orders.specs.Rests.{events_of}
use Rattle.th_schedule.specs.Untold.{noted}
use Rattle.th_schedule.specs.Woven.{is_told}
use Rattle.th_schedule.proofs.gaps.told.Given as goal

abbrev pub invariant-loop-session : goal.invariant-loop-session
invariant-loop-session l = (e : EventAt) →
    (noted l.told e || is_told (map events_of (drop l.session-index l.sessions)) e) ≡ is_told (map events_of l.sessions) e

use Rattle.std.proofs.Common.{List, map, subst, sym}
use Rattle.th_schedule.specs.Schedule.{Told, told_of}
use Rattle.th_schedule.specs.Strangers.{IsFirstIn, IsStrangerOrShort}
use Rattle.th_schedule.proofs.LoopLemmas.{strange}
use Rattle.th_schedule.proofs.schedules.all_events.Goals as goal

pub returns-in-Err : goal.returns-in-Err
returns-in-Err c =
    let ps = c.args.segments.now in
    subst (λ why. IsStrangerOrShort ps (map told_of c.args.sessions.now) why) (sym c.of_session.ensures)
    (strange ps c.args.sessions.now c.loop-number.number c.index-sessions-number.result c.in-Err.why c.loop-number-test.true
    c.index-sessions-number.is c.loop-number.invariant.entries
    (subst (λ (l : List Told). IsFirstIn ps l c.in-Err.why) c.deref.ensures.value c.in-Err.ensures))

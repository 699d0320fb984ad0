use Rattle.th_check.proofs.Holding.{begins_at_broadcast, begins_at_watch}
use Rattle.th_check.proofs.point.begin.Goals as goal

pub returns-in-Ok : goal.returns-in-Ok
returns-in-Ok c =
    begins_at_broadcast _ _ c.in-Broadcast-Broadcast.version c.in-Broadcast-Broadcast.parts c.in-Ok.from c.in-Ok.course
    c.in-Broadcast-Broadcast.is-0 c.in-Broadcast-Broadcast.is-1 c.in-Ok.ensures.kept c.in-Ok.ensures.begun

pub returns-in-Ok-begin : goal.returns-in-Ok-begin
returns-in-Ok-begin c =
    begins_at_watch _ _ c.in-Watch-Watch.parts c.in-Ok-begin.from c.in-Ok-begin.course c.in-Watch-Watch.is-0 c.in-Watch-Watch.is-1
    c.in-Ok-begin.ensures.kept c.in-Ok-begin.ensures.begun

use Rattle.std.proofs.Common.{subst}
use Rattle.th_check.specs.declared.point.Spot.{Spot}
use Rattle.th_check.specs.declared.point.Spot.TheVariants as spot
use Rattle.th_check.specs.Judging.{Holds, taken}
use Rattle.th_check.proofs.Holding.{given, takes_broadcast, takes_watch}
use Rattle.th_check.proofs.point.take_line.Goals as goal

pub returns-in-InBroadcast : goal.returns-in-InBroadcast
returns-in-InBroadcast c = λ here held.
    let version = c.in-InBroadcast.version in
    let kept = c.in-InBroadcast._from in
    let course = c.in-InBroadcast.course in
    let new = c.take_line.new.course in
    given here c.args.line c.in-Some.line (taken c.take_line.result (spot.InBroadcast version kept new)) c.in-Some.is
    (takes_broadcast here version kept course new c.in-Some.line.now c.take_line.result c.take_line.ensures
    (subst (λ (s : Spot). Holds here s) c.in-InBroadcast.is held))

pub returns-in-InWatch : goal.returns-in-InWatch
returns-in-InWatch c = λ here held.
    let kept = c.in-InWatch._from in
    let course = c.in-InWatch.course in
    let new = c.take_line-in-InWatch.new.course in
    given here c.args.line c.in-Some.line (taken c.take_line-in-InWatch.result (spot.InWatch kept new)) c.in-Some.is
    (takes_watch here kept course new c.in-Some.line.now c.take_line-in-InWatch.result c.take_line-in-InWatch.ensures
    (subst (λ (s : Spot). Holds here s) c.in-InWatch.is held))

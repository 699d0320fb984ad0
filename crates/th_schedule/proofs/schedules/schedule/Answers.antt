use Rattle.std.proofs.Common.{ap, map, subst, sym, ◌∙◌}
use Rattle.th_orders.specs.Orders.{IsOrder, Nexts, Sessions}
use Rattle.th_orders.specs.Search.{IsUnordered}
use Rattle.th_orders.specs.Rests.{events_of}
use Rattle.th_schedule.specs.Schedule.{IsUnscheduled, told_of}
use Rattle.th_schedule.specs.Untold.{noted}
use Rattle.th_schedule.specs.Woven.{is_told}
use Rattle.th_schedule.proofs.Scheduling.{all-are, all_sessions, scheduled, unordered, unscheduled}
use Rattle.th_schedule.proofs.schedules.schedule.Goals as goal

pub returns-in-Err : goal.returns-in-Err
returns-in-Err c = unscheduled c.args.segments.now (map told_of c.args.sessions.now) c.in-Err.why c.in-Err.ensures

pub returns-in-Ok-order : goal.returns-in-Ok-order
returns-in-Ok-order c =
    let ps = c.args.segments.now in
    let ss = map told_of c.args.sessions.now in
    let made = c.in-Ok.ensures in
    let all = all-are ps ss made.1 (map events_of c.in-Ok.all.items) (map events_of c.add_untold.new.sessions.items)
    (noted c.in-Ok-told.told) made.0
    (λ e. c.in-Ok-told.ensures e ∙ ap (λ l. is_told (map events_of l) e) c.deref.ensures.value) c.in-Ok-add_untold.ensures.added in
    let order = c.in-Ok-order.order.items in
    scheduled ps ss made.1 order c.in-Ok-add_untold.ensures.legal
    (subst (λ (ns : Nexts). IsOrder ns (all_sessions ps ss made.1) order) (c.deref-2.ensures.value ∙ c.in-Ok-starts.ensures)
    (subst (λ (s : Sessions). IsOrder c.deref-2.result.now s order) all c.in-Ok-order.ensures))

pub returns : goal.returns
returns c =
    let ps = c.args.segments.now in
    let ss = map told_of c.args.sessions.now in
    let made = c.in-Ok.ensures in
    let all = all-are ps ss made.1 (map events_of c.in-Ok.all.items) (map events_of c.add_untold.new.sessions.items)
    (noted c.in-Ok-told.told) made.0
    (λ e. c.in-Ok-told.ensures e ∙ ap (λ l. is_told (map events_of l) e) c.deref.ensures.value) c.in-Ok-add_untold.ensures.added in
    let why = c.in-Err-order.why in
    subst (λ w. IsUnscheduled ps ss w) (sym c.in_order.ensures) (unordered ps ss made.1 why
    (subst (λ (ns : Nexts). IsUnordered ns (all_sessions ps ss made.1) why) (c.deref-2.ensures.value ∙ c.in-Ok-starts.ensures)
    (subst (λ (s : Sessions). IsUnordered c.deref-2.result.now s why) all c.in-Err-order.ensures)))

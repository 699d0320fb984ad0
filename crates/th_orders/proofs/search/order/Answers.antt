use Rattle.std.proofs.Common.{map, subst}
use Rattle.th_orders.specs.Orders.{IsHeldUp, IsOrder, Nexts, Sessions}
use Rattle.th_orders.specs.Rests.{events_of}
use Rattle.th_orders.proofs.Searching.{from-none, held-up}
use Rattle.th_orders.proofs.search.order.Goals as goal

pub returns-in-Some : goal.returns-in-Some
returns-in-Some c =
    let e = c.in-Some.field-0-1 in
    let s = c.in-Ok.search in
    let made = c.in-Ok.ensures in
    let along = from-none s.nexts s.rests s.order.items c.run.new.self.order.items c.run.new.self.nexts c.run.new.self.rests made.1
    c.in-Ok-run.ensures.along in
    let up = held-up s.nexts s.rests c.run.new.self.order.items c.run.new.self.nexts c.run.new.self.rests c.in-Some.session e along
    (c.in-Ok-run.ensures.held made.4) c.in-Some.ensures.left c.in-Some.ensures.first in
    subst (λ (ns : Nexts). IsHeldUp ns (map events_of c.args.sessions.items) c.in-Some.session e) made.0
    (subst (λ (ss : Sessions). IsHeldUp s.nexts ss c.in-Some.session e) made.2 up)

pub returns-in-None : goal.returns-in-None
returns-in-None c =
    let s = c.in-Ok.search in
    let made = c.in-Ok.ensures in
    let along = from-none s.nexts s.rests s.order.items c.run.new.self.order.items c.run.new.self.nexts c.run.new.self.rests made.1
    c.in-Ok-run.ensures.along in
    subst (λ (ns : Nexts). IsOrder ns (map events_of c.args.sessions.items) c.run.new.self.order.items) made.0
    (subst (λ (ss : Sessions). IsOrder s.nexts ss c.run.new.self.order.items) made.2
    (c.run.new.self.nexts, c.run.new.self.rests, along, c.in-None.ensures.over))

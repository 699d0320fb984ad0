use Rattle.std.proofs.Common.{sym}
use Rattle.th_orders.specs.Waiting.{waits}
use Rattle.th_orders.proofs.Waking.{wakes-none, wakes-one}
use Rattle.th_orders.proofs.search.Search.wake.Goals as goal

pub returns-in_ok-push-clause-wakes : goal.returns-in_ok-push-clause-wakes
returns-in_ok-push-clause-wakes c = wakes-one c.args.self.now.nexts (waits c.args.self.now.waiting) c.args.topic
    c.args.self.now.due.items c.in-Some.next c.in-Some.ensures.some.0 c.in-Some.ensures.some.1 c.in-Some-get.session.now
    c.push.new.self.items (sym c.in-Some-get.ensures.value) c.in_ok-push.ensures.items

pub returns-in_default-get-clause-wakes : goal.returns-in_default-get-clause-wakes
returns-in_default-get-clause-wakes c = wakes-none c.args.self.now.nexts (waits c.args.self.now.waiting) c.args.topic
    c.args.self.now.due.items c.in-Some.next c.in-Some.ensures.some.0 c.in-Some.ensures.some.1 (sym c.in_default-get.ensures.value)

use Rattle.std.proofs.Common.{arith, sym}
use Rattle.th_orders.specs.Waiting.{waits}
use Rattle.th_orders.proofs.Waking.{noted-others, seen-over, seen-waits}
use Rattle.th_orders.proofs.search.Search.look.Goals as goal

pub returns-in_default-clause-seen : goal.returns-in_default-clause-seen
returns-in_default-clause-seen c = λ all. seen-over c.args.self.now.nexts c.args.self.now.rests c.args.self.now.due.items c.args.session
    (waits c.args.self.now.waiting) all (sym c.in_default.ensures)

pub returns-in_ok-insert-clause-seen : goal.returns-in_ok-insert-clause-seen
returns-in_ok-insert-clause-seen c = λ all. seen-waits c.args.self.now.nexts c.args.self.now.rests c.args.self.now.due.items c.args.session
    (waits c.args.self.now.waiting) c.in-Some.event (waits c.insert.new.self) all (sym c.in-Some.ensures)
    (omega arith) (λ is. (let q = c.if-is_next.ensures.1 is in cc)) c.in_ok-insert.ensures.updates.1
    (noted-others c.args.self.now.waiting c.insert.new.self c.in-Some.event c.args.session c.in_ok-insert.ensures.updates)

use Rattle.std.proofs.Common.{◌+◌, ◌≤◌}
use Rattle.th_orders.specs.Search.{Goes}
use Rattle.th_orders.specs.Waiting.{AreSeenTo, looks_left, waits}
use Rattle.th_orders.proofs.search.Search.run.Given as goal

abbrev pub invariant-loop-session : goal.invariant-loop-session
invariant-loop-session l = record {
  along : Goes l.fn.self.nexts l.fn.self.rests l.fn.self.order.items l.self.nexts l.self.rests l.self.order.items;
  seen : AreSeenTo l.fn.self.nexts l.fn.self.rests l.fn.self.due.items (waits l.fn.self.waiting) →
      AreSeenTo l.self.nexts l.self.rests l.self.due.items (waits l.self.waiting);
  looks : l.looks + looks_left l.self.due.items l.self.rests ≤ looks_left l.fn.self.due.items l.fn.self.rests;
}

abbrev pub decreases-loop-session : goal.decreases-loop-session
decreases-loop-session l = looks_left l.self.due.items l.self.rests

use Rattle.std.proofs.Common.{arith, ◌∙◌}
use Rattle.th_orders.specs.Waiting.{waits}
use Rattle.th_orders.proofs.Searching.{first-within}
use Rattle.th_orders.proofs.Waking.{all-due}
use Rattle.th_orders.proofs.search.Search.new.Goals as goal

pub returns : goal.returns
returns c = (
  c.in_ok-nexts.ensures,
  c.new-4.ensures.items,
  c.in_ok-rests.ensures,
  c.in_ok-due.ensures.len ∙ c.len.ensures,
  all-due c.in_ok-nexts.nexts c.in_ok-rests.rests c.in_ok-due.due.items (waits c.new-3.result)
      (λ k e f. c.in_ok-due.ensures.all k (omega (arith, c.len.ensures, first-within c.in_ok-rests.rests k e f))),
)

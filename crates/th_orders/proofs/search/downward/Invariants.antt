use Rattle.std.proofs.Common.{◌≡◌, ℕ, ◌+◌, ◌<◌, ◌≤◌, length}
use Rattle.th_orders.specs.Waiting.{IsDue}
use Rattle.th_orders.proofs.search.downward.Given as goal

abbrev pub invariant-loop-number : goal.invariant-loop-number
invariant-loop-number l = record {
  len : length l.all.items ≡ l.number;
  within : l.number ≤ l.fn.count;
  all : (k : ℕ) → k < l.fn.count → l.fn.count ≤ k + l.number → IsDue l.all.items k;
}

use Rattle.std.proofs.Common.{◌-◌, ◌<◌, ◌≤◌, ℕ, length, get_or}
use Rattle.std.specs.Map.{keys_of}
use Rattle.th_numbered.proofs.by_number.find.Given as goal

abbrev pub invariant-loop-low : goal.invariant-loop-low
invariant-loop-low g l = record {
  last : l.high ≤ length l.list.items;
  below : (j : ℕ) → j < l.low → get_or (keys_of l.list.items) j 0 < l.n;
  above : (j : ℕ) → l.high ≤ j → j < length l.list.items → l.n < get_or (keys_of l.list.items) j 0;
  order : l.low ≤ l.high;
}

abbrev pub decreases-loop-low : goal.decreases-loop-low
decreases-loop-low g l = l.high - l.low

use Rattle.std.proofs.Common.{◌≡◌, ℕ, ◌+◌, ◌-◌, ◌<◌, ◌≤◌, length, get_or}
use Rattle.th_model.specs.Places.{to_come}
use Rattle.th_ring.specs.Readers.{first_at}
use Rattle.th_ring.proofs.readers.count_readers.Given as goal

abbrev pub invariant-loop-at : goal.invariant-loop-at
invariant-loop-at l = record {
  size : length l.counts.items ≡ l.tail - l.low;
  done : (k : ℕ) → k < l.at → get_or l.counts.items k 0 ≡ to_come l.fn.places.entries (l.low + k);
  rest : (k : ℕ) → l.at ≤ k → k < l.tail - l.low → get_or l.counts.items k 0 ≡ first_at l.low l.fn.places.entries (l.low + k);
  none : l.at ≡ 0 → l.so_far ≡ 0;
  sum : 0 < l.at → l.so_far ≡ to_come l.fn.places.entries (l.low + l.at - 1);
}

use Rattle.std.proofs.Common.{◌≡◌, ℕ, ◌+◌, ◌-◌, ◌<◌, length, get_or}
use Rattle.th_ring.specs.Readers.{first_at}
use Rattle.th_ring.proofs.readers.count_first.Given as goal

abbrev pub invariant-loop-place : goal.invariant-loop-place
invariant-loop-place l = record {
  size : length l.counts.items ≡ l.tail - l.low;
  each : (k : ℕ) → k < l.tail - l.low →
      get_or l.counts.items k 0 + first_at l.low l.place-iterator (l.low + k) ≡ first_at l.low l.fn.places.entries (l.low + k);
}

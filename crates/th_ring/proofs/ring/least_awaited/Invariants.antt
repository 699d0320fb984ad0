use Rattle.std.proofs.Common.{◌-◌, ◌≤◌}
use Rattle.th_model.specs.Places.{low_of}
use Rattle.th_ring.proofs.ring.least_awaited.Given as goal

abbrev pub invariant-loop-low : goal.invariant-loop-low
invariant-loop-low g l = record {
  above : l.low ≤ low_of l.tail l.capacity l.fn.places.entries;
  below : low_of l.tail l.capacity l.fn.places.entries ≤ l.high;
  first : l.tail - l.capacity ≤ l.low;
  last : l.high ≤ l.tail;
}

abbrev pub decreases-loop-low : goal.decreases-loop-low
decreases-loop-low g l = l.high - l.low

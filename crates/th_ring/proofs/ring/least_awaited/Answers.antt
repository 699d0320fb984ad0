use Rattle.std.proofs.Common.{◌+◌, ◌-◌, ◌/◌, ℕ, arith}
use Rattle.th_model.proofs.PlaceLemmas.{low_of-le}
use Rattle.th_ring.proofs.Counts.{low_of-ge, low-awaited, low-past}
use Rattle.th_ring.proofs.Calls.{count_at}
use Rattle.th_ring.proofs.ring.least_awaited.Goals as goal

pub loop-low-init : goal.loop-low-init
loop-low-init g c = record {
  above = omega (arith, c.saturating_sub-low.ensures, low_of-ge c.args.tail c.args.capacity c.args.places.now.entries);
  below = low_of-le _ _ _;
  first = omega (arith, c.saturating_sub-low.ensures);
  last = omega arith;
}

pub loop-low-preserved-then-index-eq0 : goal.loop-low-preserved-then-index-eq0
loop-low-preserved-then-index-eq0 g c =
    let middle : ℕ = c.loop-low.low + (c.loop-low.high - c.loop-low.low) / 2 in
    let count =
    count_at c.args.capacity c.args.tail c.args.slots.now.items c.args.places.now.entries c.requires middle c.low_bits-at.result
    c.index.result.now c.low_bits-at.ensures c.index.ensures (omega arith) (omega arith) in
    let past =
    low-past c.args.tail c.args.capacity c.args.places.now.entries middle (omega arith) (omega (arith, count, c.if-index-eq0.true)) in
    record { above = omega (arith, past); below = c.loop-low.invariant.below; first = omega arith; last = c.loop-low.invariant.last }

pub loop-low-preserved : goal.loop-low-preserved
loop-low-preserved g c =
    let middle : ℕ = c.loop-low.low + (c.loop-low.high - c.loop-low.low) / 2 in
    let count =
    count_at c.args.capacity c.args.tail c.args.slots.now.items c.args.places.now.entries c.requires middle c.low_bits-at.result
    c.index.result.now c.low_bits-at.ensures c.index.ensures (omega arith) (omega arith) in
    record {
      above = c.loop-low.invariant.above;
      below = low-awaited c.args.tail c.args.capacity c.args.places.now.entries middle (omega arith)
          (omega (arith, count, c.if-index-eq0.false));
      first = c.loop-low.invariant.first;
      last = omega arith;
    }

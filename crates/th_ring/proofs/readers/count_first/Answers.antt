use Rattle.std.proofs.Common.{◌-◌, arith}
use Rattle.th_ring.proofs.Counting.{counted_less, count-fits}
use Rattle.th_ring.proofs.readers.count_first.Goals as goal

pub overflow_add-index_mut : goal.overflow_add-index_mut
overflow_add-index_mut c =
    let steps = c.in-Some.ensures.steps in
    let all = rw steps at c.loop-place.invariant.each in
    omega (
      arith,
      count-fits c.args.low (c.args.tail - c.args.low) (c.max-first.result - c.args.low) c.index_mut.result.now
          (c.in-Some.field-0-0.now, c.in-Some.place.now) c.next.new.self c.args.places.now.entries c.loop-place.counts.items
          c.loop-place.invariant.size all (omega (arith, c.max-first.ensures)) (omega (arith, c.if-first-tail.true)) c.index_mut.ensures.value,
      c.len.ensures.len,
      c.len.ensures.small,
    )

pub loop-place-preserved : goal.loop-place-preserved
loop-place-preserved c =
    let steps = c.in-Some.ensures.steps in
    let i = rw steps at c.loop-place.invariant in
    record {
      size = i.size;
      each =
          counted_less c.args.low (c.args.tail - c.args.low) 0 0 (c.in-Some.field-0-0.now, c.in-Some.place.now) c.next.new.self
          c.args.places.now.entries c.loop-place.counts.items i.size i.each (omega (arith, c.if-first-tail.false, c.max-first.ensures));
    }

use Rattle.std.proofs.Common.{◌≡◌, ◌+◌, ◌-◌, ◌∙◌, ap, arith}
use Rattle.std.proofs.lemmas.List.{length-set}
use Rattle.th_model.specs.Places.{to_come}
use Rattle.th_ring.proofs.Counting.{summed, sum-fits, done-more, rest-less}
use Rattle.th_ring.proofs.readers.count_readers.Goals as goal

pub overflow_add-so_far : goal.overflow_add-so_far
overflow_add-so_far c =
    let i = c.loop-at.invariant in
    omega (
      arith,
      sum-fits c.args.low (c.args.tail - c.args.low) c.loop-at.at c.loop-at.so_far c.index.result.now c.args.places.now.entries
          c.loop-at.counts.items i.size (omega arith) i.done i.rest i.none i.sum c.index.ensures,
      c.len.ensures.len,
      c.len.ensures.small,
    )

pub loop-at-preserved : goal.loop-at-preserved
loop-at-preserved c =
    let i = c.loop-at.invariant in
    let low = c.args.low in
    let n = c.args.tail - low in
    let at = c.loop-at.at in
    let ps = c.args.places.now.entries in
    let xs = c.loop-at.counts.items in
    record {
      size = length-set xs at (c.loop-at.so_far + c.index.result.now) ∙ i.size;
      done = done-more low n at c.loop-at.so_far c.index.result.now ps xs i.size (omega arith) i.done i.rest i.none i.sum c.index.ensures;
      rest = rest-less low n at c.loop-at.so_far c.index.result.now ps xs i.size (omega arith) i.done i.rest i.none i.sum c.index.ensures;
      none = λ e. absurd (omega (arith, e));
      sum = λ _.
          let here : low + at ≡ low + (at + 1) - 1 = omega arith in
          summed low n at c.loop-at.so_far c.index.result.now ps xs i.size (omega arith) i.done i.rest i.none i.sum c.index.ensures
          ∙ ap (to_come ps) here;
    }

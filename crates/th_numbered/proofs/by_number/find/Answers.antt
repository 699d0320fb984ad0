use Rattle.std.proofs.Common.{ℕ, ◌+◌, ◌-◌, ◌/◌, ◌<◌, length, get_or, arith}
use Rattle.std.specs.Map.{keys_of}
use Rattle.th_numbered.proofs.Lemmas.{all_behind, all_below, at_least, found_at, key_is, length-keys, room_at}
use Rattle.th_numbered.proofs.by_number.find.Goals.{then-ahead-high+else-index-n, else-ahead-high}
use Rattle.th_numbered.proofs.by_number.find.Goals as goal

pub returns-then-n-first : goal.returns-then-n-first
returns-then-n-first g c =
    let ss = c.args.list.now.items in
    let some : 0 < length ss = omega (arith, c.len-high.ensures, c.if-high-eq0.false) in
    let first = key_is ss 0 c.index.result.now some c.index.ensures in
    room_at c.args.n ss 0 (omega arith) (λ j lt. absurd (omega arith))
    (λ j from lt. all_behind (keys_of ss) 0 c.args.n c.requires (omega (arith, first, c.if-n-first.true)) j from
    (omega (arith, lt, length-keys ss)))

pub returns-then-index-n : goal.returns-then-index-n
returns-then-index-n g c = found_at c.args.n c.args.list.now.items _ c.index-then-ahead-high.result.now c.requires
    (omega (arith, c.if-ahead-high.true, c.len-high.ensures)) c.index-then-ahead-high.ensures c.if-index-n.true

pub loop-low-init : goal.loop-low-init
loop-low-init g c =
    let ss = c.args.list.now.items in
    let some : 0 < length ss = omega (arith, c.len-high.ensures, c.if-high-eq0.false) in
    let first = key_is ss 0 c.index.result.now some c.index.ensures in
    elim c.if-ahead-high.branch [
      | then-ahead-high+else-index-n w ↦
          (let guess : ℕ = c.args.n - c.index.result.now.0 in
          let within : guess < length ss = omega (arith, w.if-ahead-high, c.len-high.ensures) in
          let key = key_is ss guess w.index-then-ahead-high.result.now within w.index-then-ahead-high.ensures in
          let least = at_least (keys_of ss) guess c.requires (omega (arith, within, length-keys ss)) in
          let more : c.args.n < get_or (keys_of ss) guess 0 = omega (arith, key, least, first, c.if-n-first.false, w.if-index-n) in
          record {
            last = omega (arith, w.high-is, within);
            below = λ j lt. absurd (omega arith);
            above = λ j from lt. all_behind (keys_of ss) guess c.args.n c.requires more j (omega (arith, w.high-is, from))
                (omega (arith, lt, length-keys ss));
            order = omega arith;
          })
      | else-ahead-high w ↦ record {
        last = omega (arith, w.high-is, c.len-high.ensures);
        below = λ j lt. absurd (omega arith);
        above = λ j from lt. absurd (omega (arith, w.high-is, c.len-high.ensures, from, lt));
        order = omega arith;
      }
    ]

pub returns-then-number-n : goal.returns-then-number-n
returns-then-number-n g c = found_at c.args.n c.args.list.now.items _ c.index-in-loop-low.result.now c.requires
    (omega (arith, c.loop-low-test.true, c.loop-low.invariant.last)) c.index-in-loop-low.ensures c.if-number-n.true

pub loop-low-preserved-then-number-n-2 : goal.loop-low-preserved-then-number-n-2
loop-low-preserved-then-number-n-2 g c =
    let ss = c.args.list.now.items in
    let i = c.loop-low.invariant in
    let middle : ℕ = c.loop-low.low + (c.loop-low.high - c.loop-low.low) / 2 in
    let within : middle < length ss = omega (arith, c.loop-low-test.true, i.last) in
    let key = key_is ss middle c.index-in-loop-low.result.now within c.index-in-loop-low.ensures in
    record {
      last = i.last;
      below = all_below (keys_of ss) middle c.args.n c.requires (omega (arith, within, length-keys ss))
          (omega (arith, key, c.if-number-n-2.true));
      above = i.above;
      order = omega (arith, c.loop-low-test.true);
    }

pub loop-low-preserved : goal.loop-low-preserved
loop-low-preserved g c =
    let ss = c.args.list.now.items in
    let i = c.loop-low.invariant in
    let middle : ℕ = c.loop-low.low + (c.loop-low.high - c.loop-low.low) / 2 in
    let within : middle < length ss = omega (arith, c.loop-low-test.true, i.last) in
    let key = key_is ss middle c.index-in-loop-low.result.now within c.index-in-loop-low.ensures in
    let more : c.args.n < get_or (keys_of ss) middle 0 = omega (arith, key, c.if-number-n.false, c.if-number-n-2.false) in
    record {
      last = omega (arith, within);
      below = i.below;
      above = λ j from lt. all_behind (keys_of ss) middle c.args.n c.requires more j from (omega (arith, lt, length-keys ss));
      order = omega arith;
    }

pub returns : goal.returns
returns g c =
    let i = c.loop-low.invariant in
    room_at c.args.n c.args.list.now.items c.loop-low.low (omega (arith, i.order, i.last)) i.below
    (λ j from lt. i.above j (omega (arith, c.loop-low-test.false, i.order, from)) lt)

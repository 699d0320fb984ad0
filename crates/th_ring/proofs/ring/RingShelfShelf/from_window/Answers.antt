use Rattle.std.proofs.Common.{◌≡◌, ◌-◌, length, sym, ap, ◌∙◌, arith}
use Rattle.th_ring.proofs.Counts.{low_of-ge}
use Rattle.th_ring.proofs.Calls.{ring_of_parts, window_of_parts}
use Rattle.th_ring.proofs.ring.RingShelfShelf.from_window.Goals as goal

pub fill-requires-clause-window : goal.fill-requires-clause-window
fill-requires-clause-window g c =
    let w = c.tail-tail.ensures.sound in
    omega (
      arith,
      w.low,
      w.kept,
      low_of-ge c.args.parts.tail c.args.parts.capacity c.args.parts.places,
      c.tail-tail.ensures.tail,
      c.capacity-capacity.ensures,
      c.len.ensures,
      ap length c.kept.ensures,
      ap length c.into_parts-kept.ensures.kept,
    )

pub invariant_of-result : goal.invariant_of-result
invariant_of-result g c =
    let w = c.tail-tail.ensures.sound in
    let kept = c.into_parts-kept.ensures.kept in
    let low : c.tail-tail.result - c.len.result ≡ c.args.parts.low =
    omega (arith, w.kept, c.tail-tail.ensures.tail, c.len.ensures, ap length c.kept.ensures) in
    let same : c.into_parts-kept.result.1.entries ≡ c.in-Ok-copied_from.own.entries =
    c.into_parts-kept.ensures.places ∙ sym (c.in-Ok-copied_from.ensures ∙ c.places.ensures) in
    rw (← same)
    (ring_of_parts c.args.parts w _ _ _ _ _ c.capacity-capacity.ensures c.tail-tail.ensures.tail low kept c.into_parts-kept.ensures.places
    c.in-Ok.slots.items c.fill.new.slots.items c.in-Ok.ensures c.fill.ensures.size c.fill.ensures.filled c.fill.ensures.others)

pub returns-clause-ok : goal.returns-clause-ok
returns-clause-ok g c =
    let w = c.tail-tail.ensures.sound in
    let kept = c.into_parts-kept.ensures.kept in
    let low : c.tail-tail.result - c.len.result ≡ c.args.parts.low =
    omega (arith, w.kept, c.tail-tail.ensures.tail, c.len.ensures, ap length c.kept.ensures) in
    let same : c.into_parts-kept.result.1.entries ≡ c.in-Ok-copied_from.own.entries =
    c.into_parts-kept.ensures.places ∙ sym (c.in-Ok-copied_from.ensures ∙ c.places.ensures) in
    rw (← same)
    (window_of_parts c.args.parts w _ _ _ _ _ c.capacity-capacity.ensures c.tail-tail.ensures.tail low kept
    c.into_parts-kept.ensures.places c.in-Ok.slots.items c.fill.new.slots.items c.in-Ok.ensures c.fill.ensures.size c.fill.ensures.filled
    c.fill.ensures.others)

use Rattle.std.proofs.Common.{◌≡◌, ◌+◌, ◌-◌, ◌<◌, length, drop, slice_get, ap, ◌∙◌, arith}
use Rattle.std.proofs.lemmas.List.{length-set, length-drop, drop-drop, get_or_default}
use Rattle.th_model.specs.Places.{to_come}
use Rattle.th_model.proofs.WindowLemmas.{slice_get-drop}
use Rattle.th_ring.specs.Ring.{filled_slot}
use Rattle.th_ring.proofs.Values.{first-popped}
use Rattle.th_ring.proofs.Calls.{done_more, rest_less, filled-is}
use Rattle.th_ring.proofs.ring.fill.Goals as goal

pub loop-i-preserved : goal.loop-i-preserved
loop-i-preserved g c =
    let i = c.loop-i.invariant in
    let k = c.loop-i.i - c.args.low in
    let here : k + 0 ≡ k = omega arith in
    let next : k + 1 ≡ c.loop-i.i + 1 - c.args.low = omega arith in
    let some : 0 < length c.loop-i.kept.items = omega (arith, ap length i.values, length-drop k c.args.kept.items, c.requires.values) in
    let value =
    first-popped c.pop_front-value.result c.loop-i.kept.items c.pop_front-value.new.self.items some
    (λ h. c.pop_front-value.ensures.variant.1 (omega (arith, h, c.loop-i.kept.ok))) c.pop_front-value.ensures.items
    ∙ ap (λ l. slice_get l 0) i.values ∙ slice_get-drop k c.args.kept.items 0 ∙ ap (slice_get c.args.kept.items) here in
    let at : c.args.low + k ≡ c.loop-i.i = omega arith in
    let count =
    c.index.ensures ∙ get_or_default c.args.counts.now.items k c.index.result.now 0 (omega (arith, c.requires.counts.size))
    ∙ c.requires.counts.each k (omega arith) ∙ ap (to_come c.args.places.now.entries) at in
    let is = filled-is c.args.low c.args.kept.items c.args.places.now.entries c.loop-i.i _ _ value count in
    record {
      size = length-set c.loop-i.slots.items c.low_bits-at.result _ ∙ i.size;
      values =
          c.pop_front-value.ensures.rest ∙ ap (drop 1) i.values ∙ drop-drop 1 k c.args.kept.items ∙ ap (λ n. drop n c.args.kept.items) next;
      done =
          done_more c.args.capacity c.args.low c.args.tail c.loop-i.i c.low_bits-at.result c.loop-i.slots.items c.args.slots.now.items
          i.size c.requires.capacity.1 (omega arith) (omega arith) c.requires.window c.low_bits-at.ensures
          (filled_slot c.args.low c.args.kept.items c.args.places.now.entries) i.done i.rest _ is;
      rest =
          rest_less c.args.capacity c.args.low c.args.tail c.loop-i.i c.low_bits-at.result c.loop-i.slots.items c.args.slots.now.items
          i.size c.requires.capacity.1 (omega arith) (omega arith) c.requires.window c.low_bits-at.ensures
          (filled_slot c.args.low c.args.kept.items c.args.places.now.entries) i.done i.rest _ is;
    }

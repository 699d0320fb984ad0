use Rattle.std.proofs.Common.{ap, ◌∙◌, arith}
use Rattle.std.proofs.lemmas.List.{length-set}
use Rattle.th_ring.specs.Slot.{more_one}
use Rattle.th_ring.specs.Ring.{slot_at}
use Rattle.th_ring.proofs.Calls.{slot_yet, done_more, rest_less}
use Rattle.th_ring.proofs.ring.wait_from.Goals as goal

pub loop-i-preserved : goal.loop-i-preserved
loop-i-preserved g c =
    let i = c.loop-i.invariant in
    let now =
    slot_yet c.args.capacity c.args.first c.args.tail c.loop-i.i c.low_bits-at.result c.loop-i.slots.items c.args.slots.now.items i.size
    c.requires.capacity.1 (omega arith) (omega arith) c.requires.window c.low_bits-at.ensures
    (λ k. more_one (slot_at c.args.slots.now.items c.args.capacity k)) i.done i.rest c.index_mut.result.now c.index_mut.ensures.value in
    let is = c.wait.ensures ∙ ap more_one now in
    record {
      size = length-set c.loop-i.slots.items c.low_bits-at.result _ ∙ i.size;
      done =
          done_more c.args.capacity c.args.first c.args.tail c.loop-i.i c.low_bits-at.result c.loop-i.slots.items c.args.slots.now.items
          i.size c.requires.capacity.1 (omega arith) (omega arith) c.requires.window c.low_bits-at.ensures
          (λ k. more_one (slot_at c.args.slots.now.items c.args.capacity k)) i.done i.rest c.wait.new.slot is;
      rest =
          rest_less c.args.capacity c.args.first c.args.tail c.loop-i.i c.low_bits-at.result c.loop-i.slots.items c.args.slots.now.items
          i.size c.requires.capacity.1 (omega arith) (omega arith) c.requires.window c.low_bits-at.ensures
          (λ k. more_one (slot_at c.args.slots.now.items c.args.capacity k)) i.done i.rest c.wait.new.slot is;
    }

pub returns-clause-others : goal.returns-clause-others
returns-clause-others g c = λ k a b out. c.loop-i.invariant.rest k a b (λ le. omega (arith, out le))

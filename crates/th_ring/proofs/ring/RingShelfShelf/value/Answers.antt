use Rattle.std.proofs.Common.{◌∙◌, sym, ap, arith}
use Rattle.th_ring.proofs.Calls.{value_in, value_out, slot_is}
use Rattle.th_ring.proofs.ring.RingShelfShelf.value.Goals as goal
use Rattle.th_ring.proofs.ring.RingShelfShelf.value.Goals.{then-position-self-via-then-position-self, then-position-self-via-else-position-self+then-position-saturating_sub}

pub returns-then-position-self : goal.returns-then-position-self
returns-then-position-self g c =
    rw (← c.self.view_is) (sym (value_out _ _ _ _ c.self.invariant c.args.position (elim c.then-position-self.branch [
      | then-position-self-via-then-position-self w ↦ λ lt. absurd (omega arith)
      | then-position-self-via-else-position-self+then-position-saturating_sub w ↦ λ lt. omega (arith, w.saturating_sub.ensures)
    ])))

pub returns : goal.returns
returns g c =
    let item =
    slot_is c.self.inside.capacity c.self.inside.slots.items c.self.invariant.size c.self.invariant.is_capacity.1 c.args.position
    c.low_bits.result c.low_bits.ensures c.index.result.now c.index.ensures in
    rw (← c.self.view_is)
    (c.as_ref.ensures.value ∙ ap (λ (s : _). s.value) item
    ∙ sym (value_in _ _ _ _ c.self.invariant c.args.position (omega (arith, c.saturating_sub.ensures)) (omega arith)))

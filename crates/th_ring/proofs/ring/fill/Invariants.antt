use Rattle.std.proofs.Common.{◌≡◌, ℕ, ◌+◌, ◌-◌, ◌<◌, ◌≤◌, length, drop}
use Rattle.th_ring.specs.Ring.{slot_at, filled_slot}
use Rattle.th_ring.proofs.ring.fill.Given as goal

abbrev pub invariant-loop-i : goal.invariant-loop-i
invariant-loop-i g l = record {
  size : length l.slots.items ≡ l.capacity;
  values : l.kept.items ≡ drop (l.i - l.low) l.fn.kept.items;
  done : (k : ℕ) → l.low ≤ k → k < l.i → slot_at l.slots.items l.capacity k ≡ filled_slot l.low l.fn.kept.items l.fn.places.entries k;
  rest : (k : ℕ) → l.tail ≤ k + l.capacity → k < l.low + l.capacity → (l.low ≤ k → l.i ≤ k) →
      slot_at l.slots.items l.capacity k ≡ slot_at l.fn.slots.items l.capacity k;
}

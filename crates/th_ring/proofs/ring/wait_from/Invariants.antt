use Rattle.std.proofs.Common.{◌≡◌, ℕ, ◌+◌, ◌<◌, ◌≤◌, length}
use Rattle.th_ring.specs.Slot.{more_one}
use Rattle.th_ring.specs.Ring.{slot_at}
use Rattle.th_ring.proofs.ring.wait_from.Given as goal

abbrev pub invariant-loop-i : goal.invariant-loop-i
invariant-loop-i g l = record {
  size : length l.slots.items ≡ l.capacity;
  done : (k : ℕ) → l.first ≤ k → k < l.i → slot_at l.slots.items l.capacity k ≡ more_one (slot_at l.fn.slots.items l.capacity k);
  rest : (k : ℕ) → l.tail ≤ k + l.capacity → k < l.first + l.capacity → (l.first ≤ k → l.i ≤ k) →
      slot_at l.slots.items l.capacity k ≡ slot_at l.fn.slots.items l.capacity k;
}

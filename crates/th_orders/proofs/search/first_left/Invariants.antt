use Rattle.std.proofs.Common.{◌≡◌, ℕ, ◌<◌, None, length, slice_get}
use Rattle.th_orders.specs.Orders.{first_of}
use Rattle.th_orders.proofs.search.first_left.Given as goal

abbrev pub invariant-loop-session : goal.invariant-loop-session
invariant-loop-session l = record {
  end : l.session-end ≡ length l.rests;
  over : (k : ℕ) → k < l.session → first_of (slice_get l.rests k) ≡ None;
}

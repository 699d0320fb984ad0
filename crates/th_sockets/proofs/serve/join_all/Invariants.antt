use Rattle.std.proofs.Common.{◌≡◌, ℕ, ◌+◌, ◌<◌, ◌≤◌}
use Rattle.std.specs.Prelude.{get_or, length, vec_capacity, vec_items, vec_len}
use Rattle.std.specs.PromisedHandle.{KeepsAt}
use Rattle.std.specs.Vec.Iter.{into_iter_items, into_iter_len}
use Rattle.th_sockets.proofs.serve.join_all.Given as goal

abbrev pub invariant-loop-handle : goal.invariant-loop-handle
invariant-loop-handle g l =
    let done = vec_len l.ended in
    let rest = l.handle-iterator in
    let first = l.initial.handle-iterator in
    record {
      counted : done + into_iter_len rest ≡ into_iter_len first;
      later : (k : ℕ) (d : _) → k < into_iter_len rest →
          get_or (into_iter_items rest) k d ≡ get_or (into_iter_items first) (done + k) d;
      kept : (k : ℕ) (x : _) → k < length (vec_items l.ended) →
          KeepsAt g.P.Promise (into_iter_items first) k (get_or (vec_items l.ended) k x);
      room : into_iter_len first ≤ vec_capacity l.ended;
    }

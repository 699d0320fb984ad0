use Rattle.std.proofs.Common.{◌≡◌, ◌≤◌}
use Rattle.std.specs.Prelude.{vec_capacity, vec_len}
use Rattle.th_server.proofs.keep_serving.start_workers.Given as goal

abbrev pub invariant-loop-place : goal.invariant-loop-place
invariant-loop-place g l = record {
  counted : vec_len l.workers ≡ l.place;
  room : l.places ≤ vec_capacity l.workers;
}

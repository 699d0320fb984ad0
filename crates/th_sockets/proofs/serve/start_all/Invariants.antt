use Rattle.std.proofs.Common.{◌≡◌, ◌≤◌}
use Rattle.std.specs.Prelude.{vec_capacity, vec_items, vec_len}
use Rattle.th_sockets.specs.Terms.{AreOnTerms}
use Rattle.th_sockets.proofs.serve.start_all.Given as goal

abbrev pub invariant-loop-before : goal.invariant-loop-before
invariant-loop-before g l = record {
  counted : vec_len l.threads ≡ l.before;
  room : l.sessions ≤ vec_capacity l.threads;
  terms : AreOnTerms l.fn.gate l.fn.keeping l.fn.bounds (vec_items l.threads);
}

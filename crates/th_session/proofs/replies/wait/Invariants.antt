use Rattle.std.proofs.Common.{◌≡◌}
use Rattle.th_session.proofs.replies.wait.Given as goal

abbrev pub invariant-loop : goal.invariant-loop
invariant-loop g l = record { session : l.session ≡ l.fn.session; desk : l.desk ≡ l.fn.desk }

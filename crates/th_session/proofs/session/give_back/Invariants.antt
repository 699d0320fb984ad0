use Rattle.std.proofs.Common.{◌≡◌}
use Rattle.th_session.proofs.session.give_back.Given as goal

abbrev pub invariant-loop-topic : goal.invariant-loop-topic
invariant-loop-topic g l = l.desk ≡ l.fn.desk

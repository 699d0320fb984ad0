use Rattle.th_lines.proofs.OutputLemmas.{waiting_front}
use Rattle.th_session.proofs.replies.Replies.enter.Goals as goal

pub returns-in-Err-clause-wrote : goal.returns-in-Err-clause-wrote
returns-in-Err-clause-wrote g c = waiting_front c.loop.invariant.said c.in-Err.ensures.wrote

use Rattle.th_traces.proofs.BroadcastSpelling.{reply_of-found, reply_of-again}
use Rattle.th_traces.proofs.laws.one_spelling_of_broadcast_replies.Goals as goal

pub returns : goal.returns
returns c = record { found = reply_of-found; again = reply_of-again }

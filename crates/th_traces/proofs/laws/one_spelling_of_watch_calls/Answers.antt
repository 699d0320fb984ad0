use Rattle.th_traces.proofs.WatchSpelling.{call_of-found, call_of-again}
use Rattle.th_traces.proofs.laws.one_spelling_of_watch_calls.Goals as goal

pub returns : goal.returns
returns c = record { found = call_of-found; again = call_of-again }

use Rattle.th_traces.proofs.Further.{last-is}
use Rattle.th_traces.proofs.groups.last_id.Goals as goal

pub returns-in-Some : goal.returns-in-Some
returns-in-Some c = last-is c.args.numbers.now.keys c.in-Some.last.now c.in-Some.ensures.last

use Rattle.th_traces.proofs.Further.{last-key}
use Rattle.th_traces.proofs.groups.last_key.Goals as goal

pub returns-in-Some : goal.returns-in-Some
returns-in-Some g c = last-key c.args.entries.now.entries (c.in-Some.last.now, c.in-Some.field-0-1.now) c.in-Some.ensures.last

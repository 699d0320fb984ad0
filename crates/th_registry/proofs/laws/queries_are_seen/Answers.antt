use Rattle.th_registry.proofs.Seeing.{says_what_is_seen, stays_proper}
use Rattle.th_registry.proofs.laws.queries_are_seen.Goals as goal

pub returns-clause-said : goal.returns-clause-said
returns-clause-said c = says_what_is_seen

pub returns-clause-proper : goal.returns-clause-proper
returns-clause-proper c = stays_proper

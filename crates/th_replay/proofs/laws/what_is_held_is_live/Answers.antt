use Rattle.th_replay.proofs.Living as living
use Rattle.th_replay.proofs.laws.what_is_held_is_live.Goals as goal

pub returns-clause-live : goal.returns-clause-live
returns-clause-live c = living.what_is_held_is_live

pub returns-clause-apart : goal.returns-clause-apart
returns-clause-apart c = living.what_is_held_is_not_shared

pub returns-clause-not_held : goal.returns-clause-not_held
returns-clause-not_held c = living.not_held_is_exact

use Rattle.th_registry.proofs.LiveReplies as replies
use Rattle.th_registry.proofs.LiveTopics as live
use Rattle.th_registry.proofs.laws.handles_live_until_spent.Goals as goal

pub returns-clause-stay : goal.returns-clause-stay
returns-clause-stay c = live.handles_stay_live

pub returns-clause-new : goal.returns-clause-new
returns-clause-new c = live.new_handles_are_new

pub returns-clause-served : goal.returns-clause-served
returns-clause-served c = replies.live_handles_are_served

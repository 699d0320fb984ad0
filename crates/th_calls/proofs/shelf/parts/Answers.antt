use Rattle.th_calls.proofs.Empty.{empty-window}
use Rattle.th_calls.proofs.shelf.parts.Goals as goal

pub new-requires-3 : goal.new-requires-3
new-requires-3 c = rw (c.new.ensures.items, c.new-2.ensures.empty) (empty-window c.args.capacity c.args.tail c.in_force.ensures.capacity)

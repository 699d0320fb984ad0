use Rattle.th_calls.proofs.Empty.{empty-window}
use Rattle.th_calls.proofs.bcast.parts.Goals as goal

pub new-window-requires : goal.new-window-requires
new-window-requires c =
    rw (c.new.ensures.items, c.new-2.ensures.empty) (empty-window c.args.capacity c.args.tail c.in_force.ensures.capacity)

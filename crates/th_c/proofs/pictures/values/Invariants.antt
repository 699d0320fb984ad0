use Rattle.std.proofs.Common.{◌≡◌, ◌++◌, map}
use Rattle.std.specs.VecDeque.Iter.{deque_iter_rest}
use Rattle.th_c.proofs.pictures.values.Given as goal

-- the values so far, as they are spelled
abbrev pub invariant-loop-value : goal.invariant-loop-value
invariant-loop-value g l =
    let spelled = g.T.Payload.spelled in
    l.values.items ++ map spelled (deque_iter_rest l.value-iterator) ≡ map spelled l.fn.kept.items

use Rattle.std.specs.List.{AllByRecursion}
use Rattle.std.specs.VecDeque.Iter.{deque_iter_rest}
use Rattle.th_lines.specs.Commands.{IsValue}
use Rattle.th_check.proofs.printed.are_kept_values.Given as goal

abbrev pub invariant-loop-value : goal.invariant-loop-value
invariant-loop-value l = AllByRecursion IsValue (deque_iter_rest l.value-iterator) → AllByRecursion IsValue l.fn.picture.window.kept

use Rattle.std.proofs.Common.{◌≡◌, [], rules, subst, sym}
use Rattle.std.specs.List.{AllByRecursion}
use Rattle.std.specs.VecDeque.Iter.{deque_iter_rest}
use Rattle.th_lines.specs.Commands.{IsValue}
use Rattle.th_check.proofs.Walking.{empty}
use Rattle.th_check.proofs.printed.are_kept_values.Goals as goal

pub loop-value-init : goal.loop-value-init
loop-value-init c =
    let all : deque_iter_rest c.into_iter-value-iterator.result ≡ c.args.picture.now.window.kept = search rules in
    λ rest. subst (AllByRecursion IsValue) all rest

pub loop-value-preserved : goal.loop-value-preserved
loop-value-preserved c = λ rest.
    c.loop-value.invariant (subst (AllByRecursion IsValue) (sym c.in-Some.ensures.steps) (c.is_value.ensures, rest))

pub returns : goal.returns
returns c =
    let done : deque_iter_rest c.loop-value.value-iterator ≡ [] = empty _ c.in-None.ensures.steps.0 in
    c.loop-value.invariant (subst (AllByRecursion IsValue) (sym done) tt)

use Rattle.std.proofs.Common.{◌+◌, ◌<◌, ◌++◌, [], ◌∷◌, List, ap, append_assoc, arith, sym, ◌∙◌}
use Rattle.th_orders.specs.declared.rests.EventAt.{EventAt}
use Rattle.th_schedule.specs.Untold.{noted}
use Rattle.th_schedule.proofs.LoopLemmas.{one-told, one-untold, rest_from}
use Rattle.th_schedule.proofs.Passing.{at}
use Rattle.th_schedule.proofs.gaps.untold.Goals as goal
use Rattle.th_schedule.proofs.gaps.untold.Goals.{then-not-contains+in_ok-push, else-not-contains}

pub loop-number-preserved : goal.loop-number-preserved
loop-number-preserved c =
    let a = c.args in
    let told = noted a.told.now in
    let i = c.loop-number.number in
    let old = c.loop-number.events.items in
    let e : EventAt = at a.topic (a.first + i) in
    let lt : a.first + i < a.first + a.count = omega (arith, c.loop-number-test.true) in
    let rest : List EventAt = rest_from told a.topic a.first i (a.first + a.count) lt (a.first + (i + 1)) in
    elim c.if-not-contains.branch [
      | then-not-contains+in_ok-push w ↦ record {
        within = omega (arith, c.loop-number-test.true);
        events = ap (λ v. v.items ++ rest) w.events-is ∙ ap (λ (l : List EventAt). l ++ rest) w.in_ok-push.ensures.items
            ∙ append_assoc old (e ∷ []) rest
            ∙ ap (λ (l : List EventAt). old ++ l)
            (one-untold told a.topic a.first i (a.first + a.count) lt (sym w.if-not-contains.ensures))
            ∙ c.loop-number.invariant.events;
      }
      | else-not-contains w ↦ record {
        within = omega (arith, c.loop-number-test.true);
        events = ap (λ v. v.items ++ rest) w.events-is
            ∙ ap (λ (l : List EventAt). old ++ l)
            (one-told told a.topic a.first i (a.first + a.count) lt (sym w.if-not-contains.ensures))
            ∙ c.loop-number.invariant.events;
      }
    ]

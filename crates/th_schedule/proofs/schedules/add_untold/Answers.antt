use Rattle.std.proofs.Common.{◌++◌, [], ◌∷◌, List, ap, append_assoc, arith, map, subst, sym, take, ◌∙◌}
use Rattle.std.specs.List.{AllByRecursion}
use Rattle.th_orders.specs.declared.rests.EventAt.{EventAt}
use Rattle.th_orders.specs.Orders.{Sessions}
use Rattle.th_orders.specs.Rests.{events_of}
use Rattle.th_registry.specs.Legal.{IsLegalSegment}
use Rattle.th_schedule.specs.Hub.{behind, first_of}
use Rattle.th_schedule.specs.Untold.{noted, own, untold_from}
use Rattle.th_schedule.proofs.LoopLemmas.{all-snoc, length-take-of, map-snoc, own-next, take-item}
use Rattle.th_schedule.proofs.schedules.add_untold.Goals as goal

pub loop-topic-preserved : goal.loop-topic-preserved
loop-topic-preserved c =
    let i = c.loop-topic.topic in
    let ps = c.args.segments.now in
    let p = c.index-segments-topic.result in
    let next = sym (take-item ps i p c.loop-topic-test.true c.index-segments-topic.is) in
    let told = noted c.args.told.now in
    let old = c.loop-topic.sessions.items in
    let given = c.args.sessions.now.items in
    let more = untold_from told i c.first-first.result c.count-count.result in
    let step = own-next told (take i ps) p i c.first-first.result c.count-count.result
    (length-take-of ps i c.loop-topic.invariant.within) c.first-first.ensures c.count-count.ensures.count in
    record {
      added = ap (λ l. map events_of l) c.in_ok-push.ensures.items ∙ map-snoc events_of old c.in_ok-events.events
          ∙ ap (λ (l : List EventAt). map events_of old ++ l ∷ []) c.in_ok-events.ensures
          ∙ ap (λ (l : Sessions). l ++ more ∷ []) c.loop-topic.invariant.added
          ∙ append_assoc (map events_of given) (own told 0 (map first_of (take i ps)) (map behind (take i ps))) (more ∷ [])
          ∙ ap (λ (l : Sessions). map events_of given ++ l) (sym step
          ∙ ap (λ qs. own told 0 (map first_of qs) (map behind qs)) next);
      legal = subst (λ l. AllByRecursion IsLegalSegment l) next
          (all-snoc IsLegalSegment (take i ps) p c.loop-topic.invariant.legal c.count-count.ensures.legal);
      within = omega (arith, c.loop-topic-test.true);
    }

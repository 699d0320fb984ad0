use Rattle.std.specs.Prelude.{◌≡◌, ◌+◌, ◌<◌, ℕ, List, get_or, length, vec_items, vec_len}
use Rattle.std.specs.PromisedHandle.{KeepsAt}
use Rattle.std.specs.Vec.Iter.{into_iter_items}
use Rattle.std.proofs.Common.{arith, refl, rules, subst, sym}
use Rattle.th_sockets.proofs.Lists.{each_grown}
use Rattle.th_sockets.proofs.serve.join_all.Goals as goal

-- The handle that is joined stood first among the rest, so it is the one at the next place.
pub loop-handle-preserved : goal.loop-handle-preserved
loop-handle-preserved g c =
    let was = c.loop-handle.invariant in
    let step = c.in-Some.ensures.steps in
    let done = vec_len c.loop-handle.ended in
    let handle = c.in-Some.handle in
    let handles = into_iter_items c.into_iter-handle-iterator.result in
    let Kept = KeepsAt g.P.Promise handles in
    let next : handle ≡ get_or handles done handle = let h = was.later 0 handle in grind rules in
    let here : Kept done c.join.result =
    record { handle = handle; handle_is = next; kept = c.join.ensures } in
    record {
      counted = search rules;
      later = λ k d below. let h = was.later (k + 1) d in grind rules;
      kept = subst (λ (xs : List _). (k : ℕ) (x : _) → k < length xs → Kept k (get_or xs k x))
          (sym c.push_reserved.ensures.items)
          (each_grown Kept (vec_items c.loop-handle.ended) c.join.result was.kept
          (subst (λ n. Kept n c.join.result) c.loop-handle.ended.ok.0 here));
      room = search rules;
    }

pub returns : goal.returns
returns g c =
    let was = c.loop-handle.invariant in
    let began = c.into_iter-handle-iterator.ensures.into_iter_gives in
    let whole : vec_len c.loop-handle.ended ≡ vec_len c.args.threads =
    omega (arith, was.counted, c.in-None.ensures.steps.0, began.1) in
    record {
      all = whole;
      each = λ i x below. (
        refl,
        subst (λ hs. KeepsAt g.P.Promise hs i (get_or (vec_items c.loop-handle.ended) i x)) began.0
            (was.kept i x (omega (arith, whole, c.loop-handle.ended.ok.0, below))),
      );
    }

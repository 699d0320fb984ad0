use Rattle.std.proofs.Common.{◌≡◌, [], arith, rules}
use Rattle.th_model.proofs.PlaceLemmas.{least_le}
use Rattle.th_traces.proofs.broadcast_draft.least_from.Goals as goal

pub loop-place-init : goal.loop-place-init
loop-place-init c =
    let start : c.into_iter-place-iterator.result ≡ c.args.places.now.entries = search rules in
    (rw start (omega (arith, least_le c.args.tail c.args.places.now.entries)), omega arith, omega (arith, c.requires))

pub returns : goal.returns
returns c =
    let done : c.loop-place.place-iterator ≡ [] = c.in-None.ensures.steps.0 in
    let all = rw done at c.loop-place.invariant.0 in
    omega (arith, all, c.loop-place.invariant.1, c.loop-place.invariant.2)

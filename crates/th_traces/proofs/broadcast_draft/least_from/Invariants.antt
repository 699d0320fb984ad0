use Rattle.std.proofs.Common.{◌≡◌, ◌≤◌, min}
use Rattle.th_model.specs.Places.{least_place}
use Rattle.th_traces.proofs.broadcast_draft.least_from.Given as goal

abbrev pub invariant-loop-place : goal.invariant-loop-place
invariant-loop-place l =
    (min l.least (least_place l.tail l.place-iterator) ≡ least_place l.tail l.fn.places.entries) × (l.least ≤ l.tail) × (l.first ≤ l.least)

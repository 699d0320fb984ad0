use Rattle.std.proofs.Common.{◌≡◌, Some, sym, ap, ◌∙◌}
use Rattle.std.specs.Prelude.{slice_get}
use Rattle.th_model.specs.Places.{Places, with_place}
use Rattle.th_shelf.proofs.Copying.{first-of-drop, next-placed, above-next}
use Rattle.th_shelf.proofs.window_copy.copy_places.Goals as goal

pub loop-preserved : goal.loop-preserved
loop-preserved g c =
    let places = (g.S.Shelf.window c.args.shelf.now).places in
    let k = c.loop.counter in
    let rx = c.in-Some.rx.0 in
    let next : slice_get places k ≡ Some (rx, c.in-Some.place) =
    sym (c.in-Some.ensures ∙ (ap (λ (ps : Places). slice_get ps 0) c.loop.invariant.rest ∙ first-of-drop places k)) in
    record {
      front = c.in_ok-insert.ensures.entries
          ∙ (ap (λ (ps : Places). with_place ps rx c.in-Some.place) c.loop.invariant.front
          ∙ next-placed places k (rx, c.in-Some.place) c.requires next);
      rest = above-next places k (rx, c.in-Some.place) c.requires next;
    }

use Rattle.std.proofs.Common.{◌≡◌, take, drop}
use Rattle.std.specs.Option.{option_map}
use Rattle.th_shelf.specs.Receiving.{above}
use Rattle.th_shelf.proofs.window_copy.copy_places.Given as goal

abbrev pub invariant-loop : goal.invariant-loop
invariant-loop g l =
    let places = (g.S.Shelf.window l.shelf).places in
    record {
      front : l.places.entries ≡ take l.counter places;
      rest : above (option_map (λ rx. rx.0) l.last) places ≡ drop l.counter places;
    }

use Rattle.std.proofs.Common.{◌≡◌, ◌+◌, ◌∙◌, Some, ap, arith, map, slice_get}
use Rattle.th_orders.specs.Nexts.{place_of}
use Rattle.th_orders.specs.Orders.{Nexts, advanced}
use Rattle.th_orders.proofs.NextLemmas.{advance-at, told-next}
use Rattle.th_orders.proofs.nexts.NextPlaces.advance.Goals as goal

pub returns : goal.returns
returns c =
    let i = c.self.inside in
    let t = c.args.event.topic in
    let n = c.args.event.place in
    let at : slice_get (map place_of i.places.items) t ≡ Some n = ap (λ (ns : Nexts). slice_get ns t) c.self.view_is ∙ c.requires in
    let next : place_of c.checked_add.result ≡ n + 1 = told-next n c.checked_add.result (omega arith) c.checked_add.ensures in
    advance-at i.places.items t n c.checked_add.result at next ∙ ap (λ (ns : Nexts). advanced ns t) c.self.view_is

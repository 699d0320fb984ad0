use Rattle.std.proofs.Common.{◌≡◌, ◌++◌, drop, map}
use Rattle.th_orders.specs.Nexts.{place_of}
use Rattle.th_orders.proofs.nexts.NextPlaces.new.Given as goal

abbrev pub invariant-loop-start : goal.invariant-loop-start
invariant-loop-start l = map place_of l.places.items ++ drop l.start-index l.starts ≡ l.starts

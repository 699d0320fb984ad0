-- What is empty is sound.
use Rattle.std.proofs.Common.{ℕ, [], arith}
use Rattle.th_model.specs.Limits.{IsCapacity}
use Rattle.th_model.specs.Places.{low_of}
use Rattle.th_model.specs.Window.{IsWindow}
use Rattle.th_shelf.specs.Plain.{queue_window}

pub empty-window : {T : Type 0} (c tail : ℕ) → IsCapacity c → IsWindow {T = T} (queue_window c tail [] [])
unfolding low_of
empty-window c tail h = record { capacity = h; low = omega arith; kept = omega arith; places = tt }

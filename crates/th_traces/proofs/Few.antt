-- A picture has few lines.
use Rattle.std.proofs.Common.{◌≡◌, ◌+◌, ◌-◌, ◌≤◌, max, length, arith}
use Rattle.std.proofs.lemmas.Map.Entries.{length-keys_of}
use Rattle.th_model.specs.BroadcastPicture.{IsSound, Picture}
use Rattle.th_model.specs.Places.{least_place, low_of}
use Rattle.th_model.specs.Window.{IsWindow, Window}

kept-few : {T : Type 0} (w : Window T) → IsWindow w → length w.kept ≤ 65536
unfolding low_of
kept-few w h =
    let low : w.low ≡ max (w.tail - w.capacity) (least_place w.tail w.places) = h.low in
    omega (arith, low, h.kept, h.capacity.2)

pub few-lines : {T : Type 0} (p : Picture T) → IsSound p → length p.senders + length p.window.places + length p.window.kept + 3 ≤ 196609
few-lines p h =
    omega (arith, kept-few p.window h.window, h.handles.by_sender.few, h.handles.by_receiver.few, length-keys_of p.window.places)

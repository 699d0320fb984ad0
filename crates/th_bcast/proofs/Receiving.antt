-- A receive leaves a sound picture, and asks for memory where a value is to be read.
use Rattle.std.proofs.Common.{◌≡◌, ℕ, ◌+◌, ◌-◌, ◌<◌, ◌≤◌, true, false, eqb, ltb, Some, slice_get, refl, ap, ◌∙◌, arith}
use Rattle.std.proofs.lemmas.Bool.Decides.{nat_tests}
use Rattle.th_model.specs.declared.handles.RxId.{RxId}
use Rattle.th_model.specs.declared.broadcast.BCall.TheVariants.{TryRecv}
use Rattle.th_model.specs.BroadcastMachine.{value_reply}
use Rattle.th_model.specs.BroadcastPicture.{Picture, IsSound, TakesMemory, answer, at_place, receive, with_window}
use Rattle.th_model.specs.Places.{place_of}
use Rattle.th_model.specs.Window.{Window, IsToRead, first_of, placed}
use Rattle.th_model.proofs.PlaceLemmas.{low_of-at}
use Rattle.th_model.proofs.WindowLemmas.{slice_get-some}
use Rattle.th_model.proofs.BroadcastSoundness.{sound-placed}
use Rattle.th_shelf.specs.declared.received.Received.{Received}
use Rattle.th_shelf.specs.declared.received.Received.TheVariants.{Nobody, Nothing, Missed, Value}
use Rattle.th_shelf.specs.Receiving.{Receives}
use Rattle.th_bcast.specs.Telling.{reply_to}

module _ {T : Type 0} (p : Picture T) (s : IsSound p) (rx : RxId) where
  -- the answer to a receiver at this place
  at : (i : ℕ) → place_of p.window.places rx.0 ≡ Some i → answer p (TryRecv rx) ≡ receive p rx.0 i
  at i here = ap (λ o. at_place p o (receive p rx.0)) here

  reads : (i : ℕ) → IsToRead p.window rx.0 i
      → receive p rx.0 i ≡ (value_reply (slice_get p.window.kept (i - p.window.low)), with_window p (placed p.window rx.0 (i + 1)))
  reads i r =
      let before : i < p.window.tail = r.sent in
      let inside : p.window.tail - p.window.capacity ≤ i = r.in_window in
      let apart : eqb i p.window.tail ≡ false = grind (arith, nat_tests) in
      let stays : ltb i (p.window.tail - p.window.capacity) ≡ false = grind (arith, nat_tests) in
      rw (apart, stays) refl

  pub received-sound : (found : Received T) (w' : Window T) → Receives p.window rx.0 found w'
      → IsSound (with_window p w')
  received-sound Nobody w' r = rw r.1 s
  received-sound Nothing w' r = rw r.1 s
  received-sound (Missed n) w' r =
      let low = low_of-at p.window.tail p.window.capacity p.window.places rx.0 r.from r.place in
      let behind : r.from < p.window.tail - p.window.capacity = r.behind in
      rw r.moved (sound-placed p s rx.0 (first_of p.window) (rw r.place refl) (omega arith) (omega arith))
  received-sound (Value v) w' r =
      let low = low_of-at p.window.tail p.window.capacity p.window.places rx.0 r.at r.stands.place in
      let inside : p.window.tail - p.window.capacity ≤ r.at = r.stands.in_window in
      let before : r.at < p.window.tail = r.stands.sent in
      rw r.moved (sound-placed p s rx.0 (r.at + 1) (rw r.stands.place refl) (omega arith) (omega arith))

  -- the answer to a receive that finds this
  pub received-answer : (found : Received T) (w' : Window T) → Receives p.window rx.0 found w'
      → answer p (TryRecv rx) ≡ (reply_to p.senders found, with_window p w')
  received-answer Nobody w' r = rw (r.1, r.0) refl
  received-answer Nothing w' r =
      let same : eqb p.window.tail p.window.tail ≡ true = grind (arith, nat_tests) in
      rw (r.1, r.0, same) refl
  received-answer (Missed n) w' r =
      let behind : r.from < p.window.tail - p.window.capacity = r.behind in
      let apart : eqb r.from p.window.tail ≡ false = grind (arith, nat_tests) in
      let before : ltb r.from (p.window.tail - p.window.capacity) ≡ true = grind (arith, nat_tests) in
      rw (r.moved, r.count, r.place, apart, before) refl
  received-answer (Value v) w' r = rw r.moved (at r.at r.stands.place ∙ reads r.at r.stands ∙ rw r.here refl)

  -- memory is asked for where a value is to be read
  pub reading-asks : (i : ℕ) → IsToRead p.window rx.0 i → TakesMemory (answer p (TryRecv rx)).0
  reading-asks i r =
      let low = low_of-at p.window.tail p.window.capacity p.window.places rx.0 i r.place in
      let inside : p.window.tail - p.window.capacity ≤ i = r.in_window in
      let before : i < p.window.tail = r.sent in
      let got = slice_get-some p.window.kept (i - p.window.low) (omega (arith, s.window.low, s.window.kept)) in
      rw (at i r.place ∙ reads i r, got.1) tt

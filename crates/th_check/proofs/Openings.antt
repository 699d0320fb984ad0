-- The pictures of channels that were just opened are known by their handles.
use Rattle.std.proofs.Common.{◌≡◌, ◌∙◌, ℕ, ◌+◌, ◌-◌, ◌≤◌, true, List, [], ◌∷◌, length, refl, sym, ap, subst, arith}
use Rattle.std.specs.Prelude.{◌↔◌, ◌&&◌, ◌==◌, IsTrue, drop, max}
use Rattle.std.proofs.lemmas.Bool.{and_parts, eqb-true}
use Rattle.std.proofs.lemmas.List.{drop_all, nil_from_length}
use Rattle.std.proofs.Math.Nat.{max-eq_right}
use Rattle.th_model.specs.Handles.{AreHandles}
use Rattle.th_model.specs.Places.{Places, low_of}
use Rattle.th_model.specs.Window.{Window}
use Rattle.th_model.specs.BroadcastMachine as bm
use Rattle.th_model.specs.BroadcastPicture as bp
use Rattle.th_model.specs.WatchMachine as wm
use Rattle.th_model.specs.WatchPicture as wp
use Rattle.th_traces.specs.declared.picture.Picture.{Picture}
use Rattle.th_traces.specs.declared.picture.Picture.TheVariants as picture
use Rattle.th_traces.specs.Spelled.{Bytes}
use Rattle.th_check.specs.Joined.{IsOpening, IsSoundPicture, is_first, is_opening}

-- of the numbers below 2 there is one, so a sender has it
one_sender : (next : ℕ) (senders : List ℕ) → AreHandles next senders → length senders ≡ 1 → next ≡ 2 → senders ≡ 1 ∷ []
one_sender next [] are one two = absurd (omega (arith, one))
one_sender next (k ∷ []) are one two = ap (λ (n : ℕ). n ∷ []) (omega (arith, are.given.0.0, are.given.0.1, two))
one_sender next (k ∷ l ∷ later) are one two = absurd (omega (arith, one))

-- what the handles of such a picture are
first_handles : (senders receivers next : ℕ) → IsTrue (is_first senders receivers next) →
    (senders ≡ 1) × (receivers ≡ 0) × (next ≡ 2)
first_handles senders receivers next is =
    let outer = and_parts (senders == 1 && receivers == 0) (next == 2) is in
    let inner = and_parts (senders == 1) (receivers == 0) outer.0 in
    (eqb-true senders 1 inner.0, eqb-true receivers 0 inner.1, eqb-true next 2 outer.1)

-- with no receiver nothing is kept
low_is_tail : (n c : ℕ) → low_of n c [] ≡ n
unfolding low_of
low_is_tail n c = max-eq_right (omega arith)

same_picture : (w : Window Bytes) (senders : List ℕ) (next : ℕ) → w.places ≡ [] → w.low ≡ w.tail → w.kept ≡ [] → senders ≡ 1 ∷ []
    → next ≡ 2 → bp.picture_of w senders next ≡ bp.see (bm.opened w.capacity w.tail)
unfolding bp.see bm.opened
same_picture w senders next places low kept one two =
    let tail : w.tail ≡ w.tail + 0 = omega arith in
    let level : w.low ≡ low_of (w.tail + 0) w.capacity [] = low ∙ tail ∙ sym (low_is_tail (w.tail + 0) w.capacity) in
    let rest : w.kept ≡ drop (low_of (w.tail + 0) w.capacity [] - w.tail) [] = kept ∙ sym (drop_all _ [] (omega arith)) in
    let at : ℕ → ℕ → List Bytes → Places → List ℕ → ℕ → bp.Picture Bytes = λ t l k p s n. bp.picture_of
    (record { capacity = w.capacity; tail = t; low = l; kept = k; places = p }) s n in
    ap (λ (t : ℕ). at t w.low w.kept w.places senders next) tail
    ∙ ap (λ (l : ℕ). at (w.tail + 0) l w.kept w.places senders next) level
    ∙ ap (λ (k : List Bytes). at (w.tail + 0) (low_of (w.tail + 0) w.capacity []) k w.places senders next) rest
    ∙ ap (λ (p : Places).
    at (w.tail + 0) (low_of (w.tail + 0) w.capacity []) (drop (low_of (w.tail + 0) w.capacity [] - w.tail) []) p senders next) places
    ∙ ap (λ (s : List ℕ).
    at (w.tail + 0) (low_of (w.tail + 0) w.capacity []) (drop (low_of (w.tail + 0) w.capacity [] - w.tail) []) [] s next) one
    ∙ ap (λ (n : ℕ).
    at (w.tail + 0) (low_of (w.tail + 0) w.capacity []) (drop (low_of (w.tail + 0) w.capacity [] - w.tail) []) [] (1 ∷ []) n) two

broadcast_opening : (p : bp.Picture Bytes) → bp.IsSound p → IsTrue (is_opening (picture.Broadcast p)) → IsOpening (picture.Broadcast p)
broadcast_opening p sound is =
    let h = first_handles (length p.senders) (length p.window.places) p.next is in
    let places = nil_from_length p.window.places h.1 in
    let low : p.window.low ≡ p.window.tail = sound.window.low ∙ ap (λ (q : Places). low_of p.window.tail p.window.capacity q) places
    ∙ low_is_tail p.window.tail p.window.capacity in
    let kept = nil_from_length p.window.kept (omega (arith, sound.window.kept, low)) in
    same_picture p.window p.senders p.next places low kept (one_sender p.next p.senders sound.handles.by_sender h.0 h.2) h.2

broadcast_begun : (p : bp.Picture Bytes) → IsOpening (picture.Broadcast p) → IsTrue (is_opening (picture.Broadcast p))
unfolding bp.see bm.opened
broadcast_begun p e = subst (λ (q : bp.Picture Bytes). IsTrue (is_opening (picture.Broadcast q))) (sym e) refl

watch_same : (last : Bytes) (version : ℕ) (readers : wm.Kept _) (senders : List ℕ) (next : ℕ) → version ≡ 1 → readers ≡ []
    → senders ≡ 1 ∷ [] → next ≡ 2
    → ◌≡◌ {A = wp.Picture Bytes} (record { version = version; last = last; readers = readers; senders = senders; next = next })
    (wp.see (wm.opened last 1))
unfolding wp.see wm.opened
watch_same last version readers senders next first none one two =
    ap (λ (v : ℕ). record { version = v; last = last; readers = readers; senders = senders; next = next }) first
    ∙ ap (λ r. record { version = 1; last = last; readers = r; senders = senders; next = next }) none
    ∙ ap (λ (s : List ℕ). record { version = 1; last = last; readers = []; senders = s; next = next }) one
    ∙ ap (λ (n : ℕ). record { version = 1; last = last; readers = []; senders = 1 ∷ []; next = n }) two

watch_opening : (p : wp.Picture Bytes) → wp.IsSound p → IsTrue (is_opening (picture.Watch p)) → IsOpening (picture.Watch p)
watch_opening p sound is =
    let parts = and_parts (is_first (length p.senders) (length p.readers) p.next) (p.version == 1) is in
    let h = first_handles (length p.senders) (length p.readers) p.next parts.0 in
    watch_same p.last p.version p.readers p.senders p.next (eqb-true p.version 1 parts.1) (nil_from_length p.readers h.1)
    (one_sender p.next p.senders sound.handles.by_sender h.0 h.2) h.2

watch_begun : (p : wp.Picture Bytes) → IsOpening (picture.Watch p) → IsTrue (is_opening (picture.Watch p))
unfolding wp.see wm.opened
watch_begun p e = subst (λ (q : wp.Picture Bytes). IsTrue (is_opening (picture.Watch q))) (sym e) refl

pub openings : (shown : Picture) → IsSoundPicture shown → IsTrue (is_opening shown) ↔ IsOpening shown
openings (picture.Broadcast p) sound = (broadcast_opening p sound, broadcast_begun p)
openings (picture.Watch p) sound = (watch_opening p sound, watch_begun p)

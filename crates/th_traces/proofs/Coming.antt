-- Which line of a picture is the next, and what is left after it.
use Rattle.std.proofs.Common.{◌≡◌, ℕ, List, [], ◌∷◌, refl}
use Rattle.th_traces.specs.Spelled.{Bytes, PictureFields, kept_line, sender_line, receiver_line, told_by}
use Rattle.th_traces.specs.ToCome.{to_come}
use Rattle.th_traces.specs.declared.stage.Stage.{Stage}
use Rattle.th_traces.specs.declared.stage.Stage.TheVariants.{Body}

-- below the start, of a picture whose front is left so, or so after the next line
module _ (head start head-left start-left : List Bytes) (next : ℕ) where
  abbrev tells : List Bytes → List ℕ → List (ℕ × Bytes) → PictureFields
  tells = told_by head start next

  abbrev left_to_tell : List Bytes → List ℕ → List (ℕ × Bytes) → PictureFields
  left_to_tell = told_by head-left start-left next

  module _ (lines : List Bytes) (stage : Stage) where
    pub kept-next : (kept after : List Bytes) (senders : List ℕ) (receivers : List (ℕ × Bytes)) (value : Bytes) →
        lines ≡ to_come stage (tells kept senders receivers) → stage ≡ Body → kept ≡ value ∷ after →
        lines ≡ kept_line value ∷ to_come stage (left_to_tell after senders receivers)
    kept-next kept after senders receivers value e s k = rw (e, s, k) refl

    pub sender-next : (kept after : List Bytes) (senders left : List ℕ) (receivers : List (ℕ × Bytes)) (tx : ℕ) →
        lines ≡ to_come stage (tells kept senders receivers) → stage ≡ Body → kept ≡ [] → after ≡ [] → senders ≡ tx ∷ left →
        lines ≡ sender_line tx ∷ to_come stage (left_to_tell after left receivers)
    sender-next kept after senders left receivers tx e s k a t = rw (e, s, k, a, t) refl

    pub receiver-next : (kept after : List Bytes) (senders none : List ℕ) (receivers left : List (ℕ × Bytes)) (rx : ℕ × Bytes) →
        lines ≡ to_come stage (tells kept senders receivers) → stage ≡ Body → kept ≡ [] → after ≡ [] → senders ≡ [] → none ≡ [] →
        receivers ≡ rx ∷ left → lines ≡ receiver_line rx ∷ to_come stage (left_to_tell after none left)
    receiver-next kept after senders none receivers left rx e s k a t n r = rw (e, s, k, a, t, n, r) refl

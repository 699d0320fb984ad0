-- What became of a handle in whose place another was asked for.
use Rattle.std.specs.Prelude.{◌≡◌, ℕ, Bool, Option, None, Some}
use Rattle.th_log.specs.Outcome.{Told, counted}
use Rattle.th_seats.specs.Tally.{Part}
use Rattle.th_block.specs.Handles.{Holder, Answered, Beside}
use Rattle.th_block.specs.declared.replaced.Replaced.{Replaced}
use Rattle.th_block.specs.declared.replaced.Replaced.TheVariants.{New, Kept}

-- a share with one event more, or two where a handle was made
abbrev pub counted_twice : {X : Type 0} → Option X → Part → Part
counted_twice None share = counted share
counted_twice (Some _) share = counted (counted share)

module _ {O S A B D C R : Type 0} where
  -- A new handle stands in the old one's place, and the old one's share has two events more; or the
  -- old one was answered and none was made.
  abbrev pub IsReplaced : (R → Option ℕ) → (rolls : Bool) → Holder → Told C R
      → Replaced O S A B D → Type 0
  IsReplaced made_by rolls old r (New h share) =
      (share ≡ counted (counted old.known.share)) × Beside made_by rolls old.known.eye r (Some h)
  IsReplaced made_by rolls old r (Kept h) =
      (h.number ≡ old.number) × (h.rolls ≡ old.rolls) × Answered old.known h.known r.call r
      × Beside made_by rolls old.known.eye r None

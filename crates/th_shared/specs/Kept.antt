-- The shares of the handles that were spent through a desk.
use Rattle.std.specs.Prelude.{◌≡◌, ℕ, ◌≤◌, ◌<◌, Bool, true, false, List, [], ◌∷◌, ◌++◌, Option, None, Some}
use Rattle.th_log.specs.Outcome.{counted}
use Rattle.th_registry.specs.declared.opening.TopicId.{TopicId}
use Rattle.th_seats.specs.Tally.{Part}
use Rattle.th_shared.specs.declared.handles.TopicReceiver.{TopicReceiver}
use Rattle.th_shared.specs.declared.handles.TopicReceiver.TheVariants.{Live, Spent}
use Rattle.th_shared.specs.Numbers.{TopicHandle, known_of}

-- whether a desk keeps them, those that it has, each with its topic, and for how many more there is room
pub record Kept : Type 0 where
  pub keeps : Bool
  pub spent : List (TopicId × Part)
  pub room : ℕ

-- these shares and one more behind them, where they are kept; else that has gone back to its channel
abbrev pub with_spent : (keeps : Bool) → List (TopicId × Part) → TopicId → Part
    → List (TopicId × Part)
with_spent true spent topic share = spent ++ (topic, share) ∷ []
with_spent false spent topic share = spent

-- no share has come and none has gone
abbrev pub Stays : (old new : Kept) → Type 0
Stays old new = (new.keeps ≡ old.keeps) × (new.spent ≡ old.spent) × (old.room ≤ new.room)

-- this share has come
abbrev pub Keeps : (old : Kept) → TopicId → Part → (new : Kept) → Type 0
Keeps old topic share new =
    (new.keeps ≡ old.keeps) × (new.spent ≡ with_spent old.keeps old.spent topic share)

-- where the next share goes: into the list, which has room, or to an owner of its channel
abbrev pub HasPlace : {O : Type 0} → Kept → Option O → Type 0
HasPlace kept None = (kept.keeps ≡ true) × (0 < kept.room)
HasPlace kept (Some owner) = kept.keeps ≡ false

-- the shares once a receiver has asked for another in its place, of which this is left: where it was spent, its own with two
-- events more has come
abbrev pub spent_by_move : (keeps : Bool) → List (TopicId × Part) → TopicId → (old : TopicHandle)
    → (left : TopicReceiver) → List (TopicId × Part)
spent_by_move keeps spent topic old (Spent number) =
    with_spent keeps spent topic (counted (counted (known_of old).share))
spent_by_move keeps spent topic old (Live new) = spent

-- the same of a receiver that may have been spent before
abbrev pub spent_by_receiver : (keeps : Bool) → List (TopicId × Part) → TopicId
    → (old left : TopicReceiver) → List (TopicId × Part)
spent_by_receiver keeps spent topic (Live old) left = spent_by_move keeps spent topic old left
spent_by_receiver keeps spent topic (Spent number) left = spent

-- the shares once a receiver was spent: its own with one event more has come
abbrev pub spent_with : (keeps : Bool) → List (TopicId × Part) → TopicId → TopicReceiver
    → List (TopicId × Part)
spent_with keeps spent topic (Live receiver) =
    with_spent keeps spent topic (counted (known_of receiver).share)
spent_with keeps spent topic (Spent number) = spent

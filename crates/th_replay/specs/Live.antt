-- What the actors of a hub hold.
use Rattle.std.specs.Prelude.{ℕ, ◌≡◌, ◌<◌, ◌⊎◌, Option, Some, None, List, [], length, slice_get, IsSome}
use Rattle.std.specs.Option.{unwrap_or}
use Rattle.std.specs.List.{AllByRecursion}
use Rattle.std.specs.Map.{values_of}
use Rattle.th_registry.specs.Endless.{EndlessTopics}
use Rattle.th_registry.specs.Live.{Handle}
use Rattle.th_session.specs.Held.{Holding, handles_at}
use Rattle.th_session.specs.Live.{Has, AllIsLive}
use Rattle.th_replay.specs.Schedule.{Hub, Actors, most_actors, place_of}

-- each handle that an actor holds is live on its topic
abbrev pub AllAreLive : Hub EndlessTopics → Type 0
AllAreLive hub = AllByRecursion (λ actor. AllIsLive hub.topics actor.1) hub.actors

-- what the actor at this place holds
abbrev pub holding_at : Actors → ℕ → Option Holding
holding_at actors place = slice_get (values_of actors) place

-- no two actors hold the same handle
abbrev pub NoneIsShared : Hub EndlessTopics → Type 0
NoneIsShared hub = (i j : ℕ) (h k : Holding) (n : ℕ) (x : Handle) →
    holding_at hub.actors i ≡ Some h → holding_at hub.actors j ≡ Some k →
    Has (handles_at h n) x → Has (handles_at k n) x → i ≡ j

-- what the actor holds whose place this is; one that has not begun holds nothing
abbrev pub held_at : Actors → Option ℕ → Holding
held_at actors None = []
held_at actors (Some place) = unwrap_or (holding_at actors place) []

-- what the actor of this name holds
abbrev pub held_by : Actors → List ℕ → Holding
held_by actors name = held_at actors (place_of actors name)

-- the actor of this name has begun, or there is room for one more
abbrev pub MayAct : Actors → List ℕ → Type 0
MayAct actors name = IsSome (place_of actors name) ⊎ (length actors < most_actors)

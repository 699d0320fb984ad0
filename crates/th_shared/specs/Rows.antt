-- What is said of the topics under their lock, by the hub's own definitions (th_registry, specs/Hub.antt). Of a channel that
-- threads share nothing is seen but its kind.
use Rattle.std.specs.Prelude.{◌≡◌, ◌++◌, ℕ, Option, Some, None, Result, Ok, Err, MatchOption, map, slice_get}
use Rattle.std.specs.Map.{values_of}
use Rattle.indexmap.specs.IndexMap.{set_value_at}
use Rattle.th_model.specs.declared.making.Making.{Making}
use Rattle.th_registry.specs.Calls.{Bytes}
use Rattle.th_registry.specs.declared.channel.Channel.{Channel}
use Rattle.th_registry.specs.declared.channel.Channel.TheVariants.{Broadcast, Watch}
use Rattle.th_registry.specs.declared.opening.Refusal.{Refusal}
use Rattle.th_registry.specs.declared.outcome.NoEvent.{NoEvent}
use Rattle.th_registry.specs.declared.outcome.NoEvent.TheVariants as NoEvents
use Rattle.th_registry.specs.Kinds.{kind_of}
use Rattle.th_registry.specs.Hub.{Machines, Noted, Open, Says, Topics}

-- topics in order of opening, each with its name and its kind
abbrev pub Rows : Type 0
Rows = Topics (Unit {0}) (Unit {0})

-- what the hub says to an opening, and the topics after it, whatever its channels are: the first refusal that holds, or one
-- topic more at the end; or memory was refused, where nothing else refuses
abbrev pub SaysOpen : (old : Rows) → Bytes → Making → Result ℕ Refusal → (new : Rows) → Type 0
SaysOpen old name making said new =
    (m : Machines (Unit {0}) (Unit {0})) → Says m old (Open name making) said new

module _ {B W : Type 0} where
  abbrev pub bare : Channel B W → Channel (Unit {0}) (Unit {0})
  bare (Broadcast c) = Broadcast tt
  bare (Watch c) = Watch tt

  abbrev pub row : Bytes × Channel B W → Bytes × Channel (Unit {0}) (Unit {0})
  row topic = (topic.0, bare topic.1)

  abbrev pub rows : Topics B W → Rows
  rows ts = map row ts

  -- the topics that were there are as they were, before those that came
  abbrev pub Stay : (old new : Topics B W) → Type 0
  Stay old new = (later : Topics B W) × (new ≡ old ++ later)

  -- a topic is opened as the hub opens it, and all others stay
  abbrev pub Opens : (old : Topics B W) → Bytes → Making → Result ℕ Refusal → (new : Topics B W)
      → Type 0
  Opens old name making said new = SaysOpen (rows old) name making said (rows new) × Stay old new

  -- what is noted of the topic of this number, which changes so while all others stay; or there is none, and nothing changes
  abbrev pub AtTopic : ℕ → (Noted → (old new : Channel B W) → Type 0) → Noted
      → (old new : Topics B W) → Type 0
  AtTopic n does noted old new = MatchOption (slice_get (values_of old) n)
      ((noted ≡ (Err NoEvents.NoTopic, None)) × (new ≡ old))
      (λ c. (after : Channel B W) × does noted c after × (new ≡ set_value_at old n after))

  -- an owner of the channel of this topic is of its kind; or there is no such topic, or there are too many owners
  abbrev pub Owns : {X Y : Type 0} → Option (Bytes × Channel B W) → Result (Channel X Y) NoEvent
      → Type 0
  Owns None said = said ≡ Err NoEvents.NoTopic
  Owns (Some topic) (Ok owner) = kind_of owner ≡ kind_of topic.1
  Owns (Some topic) (Err why) = why ≡ NoEvents.Short

  -- the name of this topic; or there is no such topic, or memory was refused
  abbrev pub IsNamed : Option (Bytes × Channel B W) → Result Bytes NoEvent → Type 0
  IsNamed None said = said ≡ Err NoEvents.NoTopic
  IsNamed (Some topic) (Ok name) = name ≡ topic.0
  IsNamed (Some topic) (Err why) = why ≡ NoEvents.Short

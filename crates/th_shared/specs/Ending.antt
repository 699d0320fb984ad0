-- What is left of a hub's topics once nobody serves them any more.
use Rattle.std.specs.Prelude.{◌≡◌, ◌⊎◌, ℕ, ◌+◌, List, [], ◌∷◌, Option, None, Some, Ok, Err, MatchOption}
use Rattle.th_block.specs.Returned.{Rejoins}
use Rattle.th_log.specs.History.{Log}
use Rattle.th_registry.specs.declared.channel.Channel.{Channel}
use Rattle.th_registry.specs.declared.channel.Channel.TheVariants.{Broadcast, Watch}
use Rattle.th_registry.specs.Calls.{Bytes}
use Rattle.th_registry.specs.Hub.{Topics}
use Rattle.th_seats.specs.Tally.{Part, Tally}
use Rattle.th_shared.specs.declared.ended.Ended.{Ended}
use Rattle.th_shared.specs.declared.ended.Ended.TheVariants as Ends
use Rattle.th_shared.specs.OwnSender.{OwnSender, own_share}

-- A share and one that its channel was given back are one now; or they are not both of its book, and the one that was given
-- back is let go; or there was none.
abbrev pub Joins : (old : Tally) → (own : Part) → (returned : Option Part) → Part → (new : Tally)
    → Type 0
Joins old own None share new = (share ≡ own) × (new ≡ old)
Joins old own (Some returned) share new = Rejoins old own returned (Ok share) new
    ⊎ (Rejoins old own returned (Err (own, returned)) new × (share ≡ own))

module _ {S C R : Type 0} where
  -- What is left of a channel whose first sender has this share: that, and the log of its key, where no handle is left; the
  -- share is joined then with what the channel was given back.
  abbrev pub IsLeft : (own : Part) → Option (Log S C R) → Part → Type 0
  IsLeft own None share = share ≡ own
  IsLeft own (Some log) share = (log.tally.key ≡ own.key)
      × (before : Tally) × (returned : Option Part) × Joins before own returned share log.tally

  -- the same of the hub's own sender
  abbrev pub IsLeftOf : OwnSender → Option (Log S C R) → Part → Type 0
  IsLeftOf own log share = MatchOption (own_share own) ⊥ (λ part. IsLeft part log share)

-- what is left of a topic, under its name and of its kind
abbrev pub IsEnd : Bytes → Channel OwnSender OwnSender → Ended → Type 0
IsEnd name (Broadcast own) (Ends.Broadcast n log share) = (n ≡ name) × IsLeftOf own (Some log) share
IsEnd name (Watch own) (Ends.Watch n log share) = (n ≡ name) × IsLeftOf own (Some log) share
IsEnd name (Broadcast own) (Ends.Held n share) = (n ≡ name) × (own_share own ≡ Some share)
IsEnd name (Watch own) (Ends.Held n share) = (n ≡ name) × (own_share own ≡ Some share)
IsEnd name topic ended = ⊥

-- what is left of each of these topics, in their order
abbrev pub AreEnds : Topics OwnSender OwnSender → List Ended → Type 0
AreEnds [] [] = Unit {0}
AreEnds (topic ∷ topics) (ended ∷ list) = IsEnd topic.0 topic.1 ended × AreEnds topics list
AreEnds topics list = ⊥

-- the share that is left of a topic has this key, and so has the log
abbrev pub HasKey : ℕ → Ended → Type 0
HasKey key (Ends.Broadcast name log share) = (log.tally.key ≡ key) × (share.key ≡ key)
HasKey key (Ends.Watch name log share) = (log.tally.key ≡ key) × (share.key ≡ key)
HasKey key (Ends.Held name share) = share.key ≡ key

-- what is left of topics in order of opening: the first has this key, and each further one the next
abbrev pub AreInOrder : ℕ → List Ended → Type 0
AreInOrder key [] = Unit {0}
AreInOrder key (ended ∷ list) = HasKey key ended × AreInOrder (key + 1) list

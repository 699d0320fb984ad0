-- The hub's own sender of a topic, as the functions see it that are lent the topics under their lock.
use Rattle.std.specs.Prelude.{◌≡◌, ℕ, ◌+◌, Bool, [], ◌∷◌, Option, Some}
use Rattle.std.specs.Option.{option_map, option_or}
use Rattle.th_block.specs.Handles.{Known}
use Rattle.th_registry.specs.declared.channel.Channel.{Channel}
use Rattle.th_registry.specs.declared.channel.Channel.TheVariants.{Broadcast, Watch}
use Rattle.th_registry.specs.Hub.{Topics}
use Rattle.th_seats.specs.Tally.{Part}

-- what it knows of its channel until its end, and its share after it; and whether that channel cuts its log by itself
pub record OwnSender : Type 0 where
  pub live : Option Known
  pub share : Option Part
  pub rolls : Bool

-- its share, until its end and after it
abbrev pub own_share : OwnSender → Option Part
own_share own = option_or (option_map (λ known. known.share) own.live) own.share

-- the key of that share
abbrev pub own_key : Channel OwnSender OwnSender → Option ℕ
own_key (Broadcast own) = option_map (λ share. share.key) (own_share own)
own_key (Watch own) = option_map (λ share. share.key) (own_share own)

-- the own sender of the first of these topics has this key, and that of each further one the next
abbrev pub HaveKeys : ℕ → Topics OwnSender OwnSender → Type 0
HaveKeys key [] = Unit {0}
HaveKeys key (topic ∷ topics) = (own_key topic.1 ≡ Some key) × HaveKeys (key + 1) topics

-- whether its channel cuts its log by itself
abbrev pub own_rolls : Channel OwnSender OwnSender → Bool
own_rolls (Broadcast own) = own.rolls
own_rolls (Watch own) = own.rolls

-- the channels of all these topics do, or none does
abbrev pub RollAlike : (rolls : Bool) → Topics OwnSender OwnSender → Type 0
RollAlike rolls [] = Unit {0}
RollAlike rolls (topic ∷ topics) = (own_rolls topic.1 ≡ rolls) × RollAlike rolls topics

-- the topics of a hub, with their names, in order of opening; and whether they cut their logs by themselves
pub record HubTopics : Type 0 where
  pub entries : Topics OwnSender OwnSender
  pub rolls : Bool

-- What a desk may say that threads share. What other threads do in between cannot be seen at it, so nothing is said of
-- the topics before and after; but each event is one on the topic that was named, and has its receipt (docs/HISTORIES.md).
use Rattle.std.specs.Prelude.{◌≡◌, ℕ, ◌+◌, ◌⊎◌, Bool, true, false, List, Option, Some, None, IsSome, Result, Ok, Err, MatchOption, refl}
use Rattle.std.specs.Coded.{Coded, code_by, coded×, coded_bool, coded_list, coded_ℕ}
use Rattle.std.specs.Option.{option_map}
use denote.RawPtr.{Ptr, coded_ptr}
use Rattle.th_block.specs.Handles.{Holder}
use Rattle.th_model.specs.declared.making.Making.{Making}
use Rattle.th_registry.specs.declared.channel.Channel.TheVariants.{Broadcast, Watch}
use Rattle.th_registry.specs.declared.opening.Refusal.{Refusal}
use Rattle.th_registry.specs.declared.opening.Refusal.TheVariants as Refusals
use Rattle.th_registry.specs.declared.opening.TopicId.{TopicId}
use Rattle.th_registry.specs.declared.outcome.NoEvent.{NoEvent}
use Rattle.th_registry.specs.declared.outcome.NoEvent.TheVariants.{NoTopic, WrongKind, NoSender, NotLive, Blocked, LogFull, Short}
use Rattle.th_registry.specs.Events.{DropsRx, DropsTx, Event, Outcome, EventResult, Own, Resubscribes, broadcast_call, broadcast_outcome, is_by_hub, is_end, watch_call, watch_outcome}
use Rattle.th_registry.specs.History.{ChannelSegment}
use Rattle.th_registry.specs.Hub.{Query, Said, Find, Open, On, Cut, made}
use Rattle.th_registry.specs.Legal.{IsLegalSegment}
use Rattle.th_registry.specs.Pictures.{pictures}
use Rattle.th_registry.specs.Receipts.{ChannelReceipt, Receipt}
use Rattle.th_seats.specs.Tally.{Part, coded_part}

-- a receipt of this call, on the topic of this number, whose channel has the next number as its key
abbrev pub IsOf : {C R : Type 0} → ℕ → Option C → Receipt C R → Type 0
IsOf n call receipt = (call ≡ Some receipt.call) × (receipt.key ≡ n + 1)

-- one event on this topic: its receipt, and what came of it
abbrev pub IsEvent : ℕ → Event → Outcome → ChannelReceipt → Type 0
IsEvent n e outcome (Broadcast r) =
    IsOf n (broadcast_call e) r × (outcome ≡ broadcast_outcome e r.reply)
IsEvent n e outcome (Watch r) = IsOf n (watch_call e) r × (outcome ≡ watch_outcome e r.reply)

-- Why there may be no event. A topic is looked for only for what goes through the hub's own sender, and only that may be
-- spent; any other handle may be one that is not live there. A desk that waits is never blocked, and the end of a handle wants
-- no room and no memory.
abbrev pub MayRefuse : Event → NoEvent → Type 0
MayRefuse e NoTopic = is_by_hub e ≡ true
MayRefuse e WrongKind = (broadcast_call e ≡ None) ⊎ (watch_call e ≡ None)
MayRefuse e NoSender = is_by_hub e ≡ true
MayRefuse e NotLive = is_by_hub e ≡ false
MayRefuse e Blocked = ⊥
MayRefuse e LogFull = is_end e ≡ false
MayRefuse e Short = is_end e ≡ false

-- what is said of an event: it was made, and its receipt is handed out, but for the end of a handle; or it was not, and why
abbrev pub Notes : ℕ → Event → EventResult → Option ChannelReceipt → Type 0
Notes n e (Ok outcome) (Some receipt) = IsEvent n e outcome receipt × (is_end e ≡ false)
Notes n e (Ok outcome) None =
    (receipt : ChannelReceipt) × IsEvent n e outcome receipt × (is_end e ≡ true)
Notes n e (Err why) receipt = (receipt ≡ None) × MayRefuse e why

-- of what is said of a new receiver in the place of an old one: without the old one's share
abbrev pub first : {A B E : Type 0} → Result (A × B) E → Result A E
first (Ok r) = Ok r.0
first (Err why) = Err why

-- the handle beside a reply that tells of this number, or of none
abbrev pub IsNumbered : Option ℕ → Option Holder → Type 0
IsNumbered number handle = MatchOption handle (number ≡ None) (λ h. number ≡ Some h.number)

-- what is said of an opening, for which this would be told: the capacity in force, or 1; the topics' limit and memory
-- are looked at behind the capacity
abbrev pub IsOpened : Option ℕ → Result ℕ Refusal → Type 0
IsOpened told (Ok n) = told ≡ Some n
IsOpened told (Err Refusals.Exists) = Unit {0}
IsOpened told (Err Refusals.BadCapacity) = told ≡ None
IsOpened told (Err why) = IsSome told

-- the number that is told of a new topic
abbrev pub told_of : Making → Option ℕ
told_of making = option_map (λ m. m.0) (made (pictures 1) 1 making)

-- the key of a segment's channel
abbrev pub key_in : ChannelSegment → ℕ
key_in (Broadcast p) = p.key
key_in (Watch p) = p.key

-- what is cut of a topic: a legal history of its very channel; or there is no such topic, or no memory
abbrev pub IsCut : ℕ → Result ChannelSegment NoEvent → Type 0
IsCut n (Ok segment) = IsLegalSegment segment × (key_in segment ≡ n + 1)
IsCut n (Err why) = (why ≡ NoTopic) ⊎ (why ≡ Short)

-- What may be said to a query. Which topics there are changes at any moment, so nothing is said of what is found and listed.
abbrev pub MaySay : (q : Query) → Said q → Type 0
MaySay (Find name) found = Unit {0}
MaySay Query.List topics = Unit {0}
MaySay (Open name making) opened = IsOpened (told_of making) opened
MaySay (On n e) noted = Notes n e noted.0 noted.1
MaySay (Cut n) segment = IsCut n segment

-- what contracts see of a desk: which hub it is of, by where that one's seal lies; whether its topics
-- cut their histories by themselves; whether it keeps the shares of the handles that are spent at it,
-- and those that it has, each with its topic
pub record AtHub : Type 0 where
  pub seal : Ptr
  pub rolls : Bool
  pub keeps : Bool
  pub spent : List (TopicId × Part)

abbrev pub coded_spent : Coded (TopicId × Part)
coded_spent =
    code_by (ℕ × Part) (coded× coded_ℕ coded_part) (λ s. (s.0.0, s.1))
    (λ p. (record { 0 = p.0 }, p.1)) (λ _. refl)

abbrev pub coded_at_hub : Coded AtHub
coded_at_hub =
    code_by (Ptr × (Bool × (Bool × List (TopicId × Part))))
    (coded× coded_ptr (coded× coded_bool (coded× coded_bool (coded_list coded_spent))))
    (λ d. (d.seal, (d.rolls, (d.keeps, d.spent))))
    (λ p. record { seal = p.0; rolls = p.1.0; keeps = p.1.1.0; spent = p.1.1.1 }) (λ _. refl)

-- it is of the same hub, and what becomes of shares there stays
abbrev pub IsAlike : (old new : AtHub) → Type 0
IsAlike old new = (new.seal ≡ old.seal) × (new.rolls ≡ old.rolls) × (new.keeps ≡ old.keeps)

-- whether a handle may be spent by this
abbrev pub may_spend : Query → Bool
may_spend (On n (DropsTx (Own t))) = true
may_spend (On n (DropsRx r)) = true
may_spend (On n (Resubscribes r)) = true
may_spend q = false

-- What a desk says at any moment: it stays at its hub, and has the shares that it had where no handle
-- may have been spent.
pub record Says (old : AtHub) (q : Query) (said : Said q) (new : AtHub) : Type 0 where
  pub hub : IsAlike old new
  pub spent : may_spend q ≡ false → new.spent ≡ old.spent
  pub may : MaySay q said

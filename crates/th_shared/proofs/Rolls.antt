-- Whether the channels of a hub's topics cut their logs by themselves: events keep that.
use Rattle.std.proofs.Common.{◌≡◌, ◌∙◌, ℕ, zero, suc, Bool, [], ◌∷◌, ◌++◌, Option, Some, None, Result, Ok, Err, slice_get, sym, ap}
use Rattle.std.specs.Map.{values_of}
use Rattle.indexmap.specs.IndexMap.{set_value_at}
use Rattle.th_block.specs.Handles.{Known}
use Rattle.th_log.specs.Outcome.{Told}
use Rattle.th_registry.specs.declared.channel.Channel.{Channel}
use Rattle.th_registry.specs.declared.channel.Channel.TheVariants.{Broadcast, Watch}
use Rattle.th_registry.specs.declared.outcome.NoEvent.{NoEvent}
use Rattle.th_registry.specs.Calls.{Bytes}
use Rattle.th_registry.specs.Events.{Event}
use Rattle.th_registry.specs.Hub.{Noted, Topics}
use Rattle.th_seats.specs.Tally.{Part}
use Rattle.th_shared.specs.ByHub.{EndsHub, EntersHub, TopicDoes, TopicEnds}
use Rattle.th_shared.specs.OwnSender.{OwnSender, RollAlike, own_rolls}

module _ {C R : Type 0} (n : ℕ) where
  enters_rolls : (call : Option C) (old new : OwnSender) (said : Result (Told C R) NoEvent) → EntersHub n call old new said →
      new.rolls ≡ old.rolls
  enters_rolls call old new (Ok r) enters = enters.3
  enters_rolls call old new (Err why) enters = ap (λ (own : OwnSender). own.rolls) enters.1

  ended_rolls : (call : C) (done : R) (live : Option Known) (share : Option Part) (rolls : Bool) (new : OwnSender)
      (said : Result (Unit {0}) NoEvent) →
      EndsHub n call done (record { live = live; share = share; rolls = rolls }) new said → new.rolls ≡ rolls
  ended_rolls call done (Some own) share rolls new (Ok _) ends = ap (λ (own : OwnSender). own.rolls) ends.1
  ended_rolls call done None share rolls new (Ok _) ends = absurd ends
  ended_rolls call done (Some own) share rolls new (Err why) ends = ap (λ (own : OwnSender). own.rolls) ends.1
  ended_rolls call done None share rolls new (Err why) ends = ap (λ (own : OwnSender). own.rolls) ends.1

pub does_rolls : (n : ℕ) (e : Event) (noted : Noted) (old new : Channel OwnSender OwnSender) → TopicDoes n e noted old new →
    own_rolls new ≡ own_rolls old
does_rolls n e noted (Broadcast old) (Broadcast new) does = enters_rolls n _ old new does.0 does.2
does_rolls n e noted (Watch old) (Watch new) does = enters_rolls n _ old new does.0 does.2
does_rolls n e noted (Broadcast old) (Watch new) does = absurd does
does_rolls n e noted (Watch old) (Broadcast new) does = absurd does

pub ends_rolls : (n : ℕ) (noted : Noted) (old new : Channel OwnSender OwnSender) → TopicEnds n noted old new →
    own_rolls new ≡ own_rolls old
ends_rolls n noted (Broadcast old) (Broadcast new) ends = ended_rolls n _ _ old.live old.share old.rolls new ends.0 ends.2
ends_rolls n noted (Watch old) (Watch new) ends = ended_rolls n _ _ old.live old.share old.rolls new ends.0 ends.2
ends_rolls n noted (Broadcast old) (Watch new) ends = absurd ends
ends_rolls n noted (Watch old) (Broadcast new) ends = absurd ends

abbrev rolls_in : Bool → Option (Channel OwnSender OwnSender) → Bool
rolls_in rolls None = rolls
rolls_in rolls (Some topic) = own_rolls topic

pub rolls_at : (rolls : Bool) (ts : Topics OwnSender OwnSender) (n : ℕ) (topic : Channel OwnSender OwnSender) →
    slice_get (values_of ts) n ≡ Some topic → RollAlike rolls ts → own_rolls topic ≡ rolls
rolls_at rolls [] n topic at alike = sym (ap (rolls_in rolls) at)
rolls_at rolls (t ∷ ts) zero topic at alike = ap (rolls_in rolls) (sym at) ∙ alike.0
rolls_at rolls (t ∷ ts) (suc n) topic at alike = rolls_at rolls ts n topic at alike.1

-- so one topic may change
pub rolls_set : (rolls : Bool) (ts : Topics OwnSender OwnSender) (n : ℕ) (old new : Channel OwnSender OwnSender) →
    slice_get (values_of ts) n ≡ Some old → own_rolls new ≡ own_rolls old → RollAlike rolls ts → RollAlike rolls (set_value_at ts n new)
rolls_set rolls [] n old new at same alike = tt
rolls_set rolls (t ∷ ts) zero old new at same alike = (same ∙ ap (rolls_in rolls) (sym at) ∙ alike.0, alike.1)
rolls_set rolls (t ∷ ts) (suc n) old new at same alike = (alike.0, rolls_set rolls ts n old new at same alike.1)

-- and one more may come at the end
pub rolls_more : (rolls : Bool) (ts : Topics OwnSender OwnSender) (name : Bytes) (topic : Channel OwnSender OwnSender) →
    RollAlike rolls ts → own_rolls topic ≡ rolls → RollAlike rolls (ts ++ (name, topic) ∷ [])
rolls_more rolls [] name topic alike own = (own, tt)
rolls_more rolls (t ∷ ts) name topic alike own = (alike.0, rolls_more rolls ts name topic alike.1 own)

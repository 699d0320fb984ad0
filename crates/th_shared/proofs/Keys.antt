-- The keys of the shares of the hub's own senders: events keep them.
use Rattle.std.proofs.Common.{◌≡◌, ◌∙◌, ℕ, Bool, zero, suc, ◌+◌, [], ◌∷◌, ◌++◌, length, Option, Some, None, Result, Ok, Err, slice_get, sym, ap, arith}
use Rattle.std.specs.Map.{values_of}
use Rattle.std.specs.Option.{option_map}
use Rattle.indexmap.specs.IndexMap.{set_value_at}
use Rattle.th_block.specs.Handles.{Known}
use Rattle.th_log.specs.Outcome.{Told}
use Rattle.th_registry.specs.declared.channel.Channel.{Channel}
use Rattle.th_registry.specs.declared.channel.Channel.TheVariants.{Broadcast, Watch}
use Rattle.th_registry.specs.declared.outcome.NoEvent.{NoEvent}
use Rattle.th_registry.specs.Calls.{Bytes}
use Rattle.th_registry.specs.Events.{Event}
use Rattle.th_registry.specs.Hub.{Noted, Topics}
use Rattle.th_seats.specs.Tally.{Part}
use Rattle.th_shared.specs.ByHub.{EndsHub, EntersHub, OwnMade, TopicDoes, TopicEnds}
use Rattle.th_shared.specs.OwnSender.{HaveKeys, OwnSender, own_key, own_share}

abbrev key_in : OwnSender → Option ℕ
key_in own = option_map (λ (share : Part). share.key) (own_share own)

-- by an event through the hub's own sender
module _ {C R : Type 0} (n : ℕ) where
  made_key : (old new : Option Known) (before after : Option Part) (rolls rolls' : Bool) (r : Told C R) → OwnMade old new r →
      key_in (record { live = new; share = after; rolls = rolls' }) ≡ key_in (record { live = old; share = before; rolls = rolls })
  made_key (Some old) (Some new) before after rolls rolls' r made = ap (λ (share : Part). Some share.key) made.share
  made_key (Some old) None before after rolls rolls' r made = absurd made
  made_key None new before after rolls rolls' r made = absurd made

  enters_key : (call : Option C) (old new : OwnSender) (said : Result (Told C R) NoEvent) → EntersHub n call old new said →
      key_in new ≡ key_in old
  enters_key call old new (Ok r) enters = made_key old.live new.live old.share new.share old.rolls new.rolls r enters.1
  enters_key call old new (Err why) enters = ap key_in enters.1

  ended_key : (call : C) (done : R) (live : Option Known) (share : Option Part) (rolls : Bool) (new : OwnSender) (said : Result
      (Unit {0}) NoEvent) →
      EndsHub n call done (record { live = live; share = share; rolls = rolls }) new said →
      key_in new ≡ key_in (record { live = live; share = share; rolls = rolls })
  ended_key call done (Some own) share rolls new (Ok _) ends = ap key_in ends.1
  ended_key call done None share rolls new (Ok _) ends = absurd ends
  ended_key call done (Some own) share rolls new (Err why) ends = ap key_in ends.1
  ended_key call done None share rolls new (Err why) ends = ap key_in ends.1

pub does_key : (n : ℕ) (e : Event) (noted : Noted) (old new : Channel OwnSender OwnSender) → TopicDoes n e noted old new →
    own_key new ≡ own_key old
does_key n e noted (Broadcast old) (Broadcast new) does = enters_key n _ old new does.0 does.2
does_key n e noted (Watch old) (Watch new) does = enters_key n _ old new does.0 does.2
does_key n e noted (Broadcast old) (Watch new) does = absurd does
does_key n e noted (Watch old) (Broadcast new) does = absurd does

pub ends_key : (n : ℕ) (noted : Noted) (old new : Channel OwnSender OwnSender) → TopicEnds n noted old new → own_key new ≡ own_key old
ends_key n noted (Broadcast old) (Broadcast new) ends = ended_key n _ _ old.live old.share old.rolls new ends.0 ends.2
ends_key n noted (Watch old) (Watch new) ends = ended_key n _ _ old.live old.share old.rolls new ends.0 ends.2
ends_key n noted (Broadcast old) (Watch new) ends = absurd ends
ends_key n noted (Watch old) (Broadcast new) ends = absurd ends

abbrev key_at : Option (Channel OwnSender OwnSender) → Option ℕ
key_at None = None
key_at (Some topic) = own_key topic

-- so one topic may change
pub keys_set : (key : ℕ) (ts : Topics OwnSender OwnSender) (n : ℕ) (old new : Channel OwnSender OwnSender) →
    slice_get (values_of ts) n ≡ Some old → own_key new ≡ own_key old → HaveKeys key ts → HaveKeys key (set_value_at ts n new)
keys_set key [] n old new at same keys = tt
keys_set key (t ∷ ts) zero old new at same keys = (same ∙ ap key_at (sym at) ∙ keys.0, keys.1)
keys_set key (t ∷ ts) (suc n) old new at same keys = (keys.0, keys_set (key + 1) ts n old new at same keys.1)

-- and one more may come at the end
pub keys_more : (key : ℕ) (ts : Topics OwnSender OwnSender) (name : Bytes) (topic : Channel OwnSender OwnSender) →
    HaveKeys key ts → own_key topic ≡ Some (length ts + key) → HaveKeys key (ts ++ (name, topic) ∷ [])
keys_more key [] name topic keys own = (own ∙ ap (λ (k : ℕ). Some k) (omega arith), tt)
keys_more key (t ∷ ts) name topic keys own =
    (keys.0, keys_more (key + 1) ts name topic keys.1 (own ∙ ap (λ (k : ℕ). Some k) (omega arith)))

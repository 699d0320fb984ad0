-- The histories of the hub's topics are kept, whatever is asked.
use Rattle.std.proofs.Common.{◌≡◌, ℕ, zero, suc, ◌+◌, ◌<◌, ◌^◌, Bool, true, false, cond, nat_lt, nat_le, List, [], ◌∷◌, ◌++◌, length, Option, Some, None, is_some, slice_get, Result, Ok, Err, refl}
use Rattle.std.specs.Prelude.{IfOk}
use Rattle.std.specs.Option.{option_map}
use Rattle.std.specs.Map.{values_of}
use Rattle.std.proofs.lemmas.Bool.{ltb-true}
use Rattle.indexmap.specs.IndexMap.{set_value_at}
use Rattle.th_model.specs.Limits.{capacity_of}
use Rattle.th_model.specs.declared.making.Making.{Making}
use Rattle.th_model.specs.declared.making.Making.TheVariants as Makings
use Rattle.th_model.proofs.BroadcastProperness.{cond_case}
use Rattle.th_registry.specs.declared.channel.Channel.TheVariants.{Broadcast, Watch}
use Rattle.th_registry.specs.declared.opening.Refusal.TheVariants as Refusals
use Rattle.th_registry.specs.declared.outcome.NoEvent.{NoEvent}
use Rattle.th_registry.specs.Calls.{Bytes}
use Rattle.th_registry.specs.Hub.{Query, Find, On, Open, Cut, most_topics, find, on_channel, added, made}
use Rattle.th_registry.specs.Hub as hub
use Rattle.th_registry.specs.Endless.{EndlessChannel, EndlessTopics, endless, IsProperChannel, AreProper}
use Rattle.th_registry.specs.Legal.{IsKeptChannel, AreKept, HistoriesStayKept, HistoriesAreKept, IsLegalSegment, CutsAreLegal, after}
use Rattle.th_registry.proofs.LegalChannel.{kept-broadcast-opened, kept-watch-opened, kept-event, kept-cut}
use Rattle.th_registry.proofs.LiveTopics.{step, cut, at-topic, Opened}
use Rattle.th_registry.proofs.Seeing.{is_capacity, stays_proper}

module _ (limit : ℕ) where
  kept-set : (ts : EndlessTopics) (n : ℕ) (c : EndlessChannel) → AreKept limit ts → IsKeptChannel limit c →
      AreKept limit (set_value_at ts n c)
  kept-set [] n c h k = tt
  kept-set (t ∷ ts) zero c h k = (k, h.1)
  kept-set (t ∷ ts) (suc n) c h k = (h.0, kept-set ts n c h.1 k)

  -- what is done with a topic's channel
  kept-on : {A : Type 0} (done : EndlessChannel → Result A NoEvent × EndlessChannel) →
      ((c : EndlessChannel) → IsProperChannel c → IsKeptChannel limit c → IsKeptChannel limit (done c).1) →
      (ts : EndlessTopics) (n : ℕ) (o : Option EndlessChannel) → slice_get (values_of ts) n ≡ o → AreProper ts → AreKept limit ts →
      AreKept limit (on_channel ts n done o).1
  kept-on done stay ts n None at p h = h
  kept-on done stay ts n (Some c) at p h =
      kept-set ts n (done c).1 h (stay c (at-topic IsProperChannel ts n c p at) (at-topic (IsKeptChannel limit) ts n c h at))

  -- an opening

  abbrev IsKeptMade : Option (ℕ × EndlessChannel) → Type 0
  IsKeptMade None = Unit {0}
  IsKeptMade (Some new) = IsKeptChannel limit new.1

  module _ (first : 0 < limit) (key : ℕ) where
    abbrev opened_as : ℕ → ℕ → ℕ × EndlessChannel
    opened_as base c = (c, Broadcast ((endless limit).broadcast_opened c base key))

    kept-made_of : (asked base : ℕ) (o : Option ℕ) → capacity_of asked ≡ o → base < 2 ^ 64 → IsKeptMade (option_map (opened_as base) o)
    kept-made_of asked base None is fits = tt
    kept-made_of asked base (Some c) is fits = kept-broadcast-opened limit c base key (is_capacity asked c is) fits first

    kept-broadcast-made : (asked base : ℕ) → IsKeptMade (hub.made_broadcast (endless limit) key asked base)
    kept-broadcast-made asked base = cond_case IsKeptMade (nat_lt base (2 ^ 64)) _ _
        (λ fits. kept-made_of asked base (capacity_of asked) refl (ltb-true base (2 ^ 64) fits)) (λ _. tt)

    kept-made : (making : Making) → IsKeptMade (made (endless limit) key making)
    kept-made (Makings.Broadcast asked) = kept-broadcast-made asked 0
    kept-made (Makings.BroadcastAt asked base) = kept-broadcast-made asked base
    kept-made (Makings.Watch value) = kept-watch-opened limit value key first

  kept-append : (ts : EndlessTopics) (name : Bytes) (c : EndlessChannel) → AreKept limit ts → IsKeptChannel limit c →
      AreKept limit (ts ++ (name, c) ∷ [])
  kept-append [] name c h k = (k, tt)
  kept-append (t ∷ ts) name c h k = (h.0, kept-append ts name c h.1 k)

  kept-added : (ts : EndlessTopics) (name : Bytes) (exists : Bool) (o : Option (ℕ × EndlessChannel)) → AreKept limit ts → IsKeptMade o →
      AreKept limit (cond {A = Opened} exists (Err Refusals.Exists, ts) (added ts name o)).1
  kept-added ts name true o h k = h
  kept-added ts name false None h k = h
  kept-added ts name false (Some new) h k =
      cond_case (λ (s : Opened). AreKept limit s.1) (nat_le most_topics (length ts)) (Err Refusals.TooManyTopics, ts)
      (Ok new.0, ts ++ (name, new.1) ∷ []) (λ _. h) (λ _. kept-append ts name new.1 h k)

pub histories_stay_kept : HistoriesStayKept
histories_stay_kept limit ts (Find name) first p h = h
histories_stay_kept limit ts hub.List first p h = h
histories_stay_kept limit ts (Open name making) first p h =
    kept-added limit ts name (is_some (find ts name)) (made (endless limit) (length ts + 1) making) h
    (kept-made limit first (length ts + 1) making)
histories_stay_kept limit ts (On n event) first p h =
    kept-on limit (step event) (λ c q k. kept-event limit c q k event) ts n (slice_get (values_of ts) n) refl p h
histories_stay_kept limit ts (Cut n) first p h = kept-on limit cut (kept-cut limit) ts n (slice_get (values_of ts) n) refl p h

reached : (limit : ℕ) (ts : EndlessTopics) (qs : List Query) → 0 < limit → AreProper ts → AreKept limit ts →
    AreKept limit (after limit ts qs)
reached limit ts [] first p h = h
reached limit ts (q ∷ qs) first p h =
    reached limit (hub.say (endless limit) ts q).1 qs first (stays_proper limit ts q p) (histories_stay_kept limit ts q first p h)

pub histories_are_kept : HistoriesAreKept
histories_are_kept limit qs first = reached limit [] qs first tt tt

-- the segment of a history that is kept

legal-segment : (limit : ℕ) (c : EndlessChannel) → IsKeptChannel limit c → IfOk (cut c).0 IsLegalSegment
legal-segment limit (Broadcast h) k = k.legal
legal-segment limit (Watch h) k = k.legal

legal-on : (limit : ℕ) (ts : EndlessTopics) (n : ℕ) (o : Option EndlessChannel) → slice_get (values_of ts) n ≡ o → AreKept limit ts →
    IfOk (on_channel ts n cut o).0 IsLegalSegment
legal-on limit ts n None at h = tt
legal-on limit ts n (Some c) at h = legal-segment limit c (at-topic (IsKeptChannel limit) ts n c h at)

pub cuts_are_legal : CutsAreLegal
cuts_are_legal limit ts n h = legal-on limit ts n (slice_get (values_of ts) n) refl h

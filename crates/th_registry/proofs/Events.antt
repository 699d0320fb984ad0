-- An event of a topic is an event of its channel.
use Rattle.std.proofs.Common.{◌≡◌, ℕ, zero, suc, inl, inr, List, [], ◌∷◌, Option, Some, None, slice_get, Result, refl, sym, ap, subst, ◌∙◌}
use Rattle.std.specs.Prelude.{is_ok}
use Rattle.std.proofs.lemmas.Option.{same_Some}
use Rattle.std.specs.Option.{option_map}
use Rattle.std.specs.Map.{values_of}
use Rattle.indexmap.specs.IndexMap.{set_value_at}
use Rattle.th_model.specs.declared.handles.TxId.{TxId}
use Rattle.th_model.specs.declared.verb.Question.{Question}
use Rattle.th_model.specs.declared.verb.Start.{Start}
use Rattle.th_registry.specs.declared.outcome.NoEvent.{NoEvent}
use Rattle.th_registry.specs.Calls.{Bytes}
use Rattle.th_registry.specs.Events.{Event, Asks, Subscribes, any_sender, takes_memory}
use Rattle.th_registry.specs.declared.opening.Found.{Found}
use Rattle.th_registry.specs.History.{ChannelSegment}
use Rattle.th_registry.specs.Hub.{Find, On, Cut, Noted, find, written, on_channel, channel_event, cut_channel, receipt_on, Says}
use Rattle.th_registry.specs.Outcomes.{ChannelCuts, ChannelTells}
use Rattle.th_registry.specs.Pictures.{Desk, DeskSays, SeenChannel, SeenTopics, pictures, seen_broadcast, seen_watch}

-- the value that is there is set again
pub set-same : {K X : Type 0} (es : List (K × X)) (i : ℕ) (w : X) → slice_get (values_of es) i ≡ Some w → set_value_at es i w ≡ es
set-same [] i w h = refl
set-same (e ∷ es) zero w h = ap (λ x. (e.0, x) ∷ es) (sym (same_Some e.1 w h))
set-same (e ∷ es) (suc i) w h = ap (λ rest. e ∷ rest) (set-same es i w h)

module _ (limit : ℕ) where
  -- the topic that is found is what is said
  pub finds : (ts : SeenTopics) (name : Bytes) (found : Option Found) → find ts name ≡ found → Says (pictures limit) ts (Find name) found ts
  finds ts name found e = inl (λ i. (e i, ts))

  -- what its channel tells is what the topic says
  abbrev noted : SeenTopics → ℕ → Event → Option SeenChannel → Noted × SeenTopics
  noted ts topic e o =
      let s = on_channel ts topic (λ d. channel_event seen_broadcast seen_watch d e) o in
      ((s.0, receipt_on (pictures limit) o e), s.1)

  pub topic-says : {c new : SeenChannel} {said : Noted} (ts : SeenTopics) (topic : ℕ) (e : Event) →
      slice_get (values_of ts) topic ≡ Some c → ChannelTells c e said new →
      Says (pictures limit) ts (On topic e) said (set_value_at ts topic new)
  topic-says ts topic e there (inl eq) = inl (ap (noted ts topic e) there ∙ ap (written ts topic) eq)
  topic-says {c = c} ts topic e there (inr h) = inr (
    h.0,
    ap (set_value_at ts topic) h.1 ∙ set-same ts topic c there,
    ap (λ o. takes_memory e (noted ts topic e o).0.0) there ∙ h.2,
  )

  -- and what it cuts is the topic's segment
  pub topic-cuts : {c new : SeenChannel} {segment : Result ChannelSegment NoEvent} (ts : SeenTopics) (topic : ℕ) →
      slice_get (values_of ts) topic ≡ Some c → ChannelCuts c segment new →
      Says (pictures limit) ts (Cut topic) segment (set_value_at ts topic new)
  topic-cuts ts topic there (inl eq) =
      inl (ap (on_channel ts topic (cut_channel seen_broadcast seen_watch)) there ∙ ap (written ts topic) eq)
  topic-cuts {c = c} ts topic there (inr h) = inr (
    h.0,
    ap (set_value_at ts topic) h.1 ∙ set-same ts topic c there,
    ap (λ o. is_ok (on_channel ts topic (cut_channel seen_broadcast seen_watch) o).0) there ∙ h.2,
  )

-- the same of a desk that holds these topics
abbrev desk_of : ℕ → SeenTopics → Desk
desk_of limit ts = record { limit = limit; topics = ts }

pub desk-says : {c new : SeenChannel} {said : Noted} {limit : ℕ} {ts : SeenTopics} {old : Desk} (topic : ℕ) (e : Event) →
    desk_of limit ts ≡ old →
    slice_get (values_of ts) topic ≡ Some c → ChannelTells c e said new →
    DeskSays old (On topic e) said (desk_of limit (set_value_at ts topic new))
desk-says {new = new} {said = said} {limit = limit} {ts = ts} topic e same there tells =
    let P : Desk → Type 0 = λ old. DeskSays old (On topic e) said (desk_of limit (set_value_at ts topic new)) in
    subst P same (refl, topic-says limit ts topic e there tells)

pub desk-cuts : {c new : SeenChannel} {segment : Result ChannelSegment NoEvent} {limit : ℕ} {ts : SeenTopics} {old : Desk} (topic : ℕ) →
    desk_of limit ts ≡ old →
    slice_get (values_of ts) topic ≡ Some c → ChannelCuts c segment new →
    DeskSays old (Cut topic) segment (desk_of limit (set_value_at ts topic new))
desk-cuts {new = new} {segment = segment} {limit = limit} {ts = ts} topic same there cuts =
    let P : Desk → Type 0 = λ old. DeskSays old (Cut topic) segment (desk_of limit (set_value_at ts topic new)) in
    subst P same (refl, topic-cuts limit ts topic there cuts)

module _ {old new : Desk} {told : Noted} (topic : ℕ) where
  -- by the number of a sender, which is the sender itself
  pub subscribes-own : (start : Start) (sender : Option TxId) → DeskSays old (On topic (Subscribes start (any_sender sender))) told new →
      DeskSays old (On topic (Subscribes start (any_sender (option_map (λ t. t) sender)))) told new
  subscribes-own start None h = h
  subscribes-own start (Some t) h = h

  pub asks-own : (sender : Option TxId) (question : Question) → DeskSays old (On topic (Asks (any_sender sender) question)) told new →
      DeskSays old (On topic (Asks (any_sender (option_map (λ t. t) sender)) question)) told new
  asks-own None question h = h
  asks-own (Some t) question h = h

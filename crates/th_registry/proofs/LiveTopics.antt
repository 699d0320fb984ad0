-- The handles of the hub's topics that are live after a query.
use Rattle.std.proofs.Common.{◌≡◌, ℕ, zero, suc, ◌+◌, ◌<◌, ◌^◌, inl, inr, Bool, true, false, cond, nat_lt, nat_le, [], ◌∷◌, ◌++◌, length, Option, Some, None, is_some, slice_get, Result, Ok, Err, refl, sym, ap, subst, ◌∙◌, arith}
use Rattle.std.specs.Option.{option_map}
use Rattle.std.specs.List.{AllByRecursion}
use Rattle.std.specs.Map.{values_of}
use Rattle.std.proofs.lemmas.Bool.{false≢true}
use Rattle.std.proofs.lemmas.Bool.Decides.{eqb_tells}
use Rattle.std.proofs.lemmas.Option.{none-some, same_Some}
use Rattle.indexmap.specs.IndexMap.{set_value_at}
use Rattle.th_model.specs.Limits.{capacity_of}
use Rattle.th_model.specs.BroadcastMachine as broadcast
use Rattle.th_model.specs.WatchMachine as watch
use Rattle.th_model.specs.declared.making.Making.{Making}
use Rattle.th_model.specs.declared.making.Making.TheVariants as Makings
use Rattle.th_model.proofs.BroadcastProperness.{cond_case}
use Rattle.th_registry.specs.declared.channel.Channel.TheVariants.{Broadcast}
use Rattle.th_registry.specs.declared.opening.Refusal.{Refusal}
use Rattle.th_registry.specs.declared.opening.Refusal.TheVariants as Refusals
use Rattle.th_registry.specs.declared.outcome.NoEvent.{NoEvent}
use Rattle.th_registry.specs.Calls.{Bytes, tx}
use Rattle.th_registry.specs.Events.{Event, EventResult}
use Rattle.th_registry.specs.History.{ChannelSegment}
use Rattle.th_registry.specs.Hub.{Query, Find, List, Open, On, Cut, most_topics, find, on_channel, added, channel_event, cut_channel, say}
use Rattle.th_registry.specs.Hub as hub
use Rattle.th_registry.specs.Endless.{EndlessChannel, EndlessTopics, endless, endless_broadcast, endless_watch, IsProperChannel, AreProper}
use Rattle.th_registry.specs.Live.{Handle, Sender, is_live, is_live_on, IsLive, new_handle, Ends}
use Rattle.th_registry.specs.Laws.{HandlesStayLive, NewHandlesAreNew}
use Rattle.th_registry.proofs.LiveNumbers.{lives, number_of}
use Rattle.th_registry.proofs.LiveChannel.{numbers, lives-is_live, channel_follows, cut_stands}

-- what an event does to a channel
abbrev pub step : Event → EndlessChannel → EventResult × EndlessChannel
step event c = channel_event endless_broadcast endless_watch c event

-- and what the cutting of its segment does
abbrev pub cut : EndlessChannel → Result ChannelSegment NoEvent × EndlessChannel
cut c = cut_channel endless_broadcast endless_watch c

-- the channel of a topic

pub set-here : (ts : EndlessTopics) (n : ℕ) (c d : EndlessChannel) → slice_get (values_of ts) n ≡ Some c →
    slice_get (values_of (set_value_at ts n d)) n ≡ Some d
set-here [] n c d e = absurd (none-some c e)
set-here (t ∷ ts) zero c d e = refl
set-here (t ∷ ts) (suc n) c d e = set-here ts n c d e

pub set-elsewhere : (ts : EndlessTopics) (n m : ℕ) (d : EndlessChannel) → (m ≡ n → ⊥) →
    slice_get (values_of (set_value_at ts n d)) m ≡ slice_get (values_of ts) m
set-elsewhere [] n m d ne = refl
set-elsewhere (t ∷ ts) zero zero d ne = absurd (ne refl)
set-elsewhere (t ∷ ts) zero (suc m) d ne = refl
set-elsewhere (t ∷ ts) (suc n) zero d ne = refl
set-elsewhere (t ∷ ts) (suc n) (suc m) d ne = set-elsewhere ts n m d (λ e. ne (ap suc e))

pub at-topic : (P : EndlessChannel → Type 0) (ts : EndlessTopics) (n : ℕ) (c : EndlessChannel) → AllByRecursion (λ topic. P topic.1) ts →
    slice_get (values_of ts) n ≡ Some c → P c
at-topic P [] n c h e = absurd (none-some c e)
at-topic P (t ∷ ts) zero c h e = subst P (same_Some t.1 c e) h.0
at-topic P (t ∷ ts) (suc n) c h e = at-topic P ts n c h.1 e

-- a handle that stays live on the channel of a topic stays so on the topics
stay-set : (ts : EndlessTopics) (topic n : ℕ) (x : Handle) (c d : EndlessChannel) → slice_get (values_of ts) topic ≡ Some c →
    (n ≡ topic → is_live c x ≡ true → is_live d x ≡ true) → IsLive ts n x → IsLive (set_value_at ts topic d) n x
stay-set ts topic n x c d at stays h = elim (eqb_tells n topic) [
  | inl e ↦
      let before : is_live c x ≡ true = sym (ap (λ o. is_live_on o x) (ap (slice_get (values_of ts)) e.1 ∙ at)) ∙ h in
      ap (λ o. is_live_on o x) (ap (slice_get (values_of (set_value_at ts topic d))) e.1 ∙ set-here ts topic c d at) ∙ stays e.1 before
  | inr ne ↦ ap (λ o. is_live_on o x) (set-elsewhere ts topic n d ne.1) ∙ h
]

-- an event

stay-on : (ts : EndlessTopics) (topic : ℕ) (event : Event) (n : ℕ) (x : Handle) (o : Option EndlessChannel) →
    slice_get (values_of ts) topic ≡ o → AreProper ts →
    ((n ≡ topic) × Ends event (on_channel ts topic (step event) o).0 x → ⊥) → IsLive ts n x →
    IsLive (on_channel ts topic (step event) o).1 n x
stay-on ts topic event n x None at proper kept h = h
stay-on ts topic event n x (Some c) at proper kept h =
    let follows = channel_follows c event (at-topic IsProperChannel ts topic c proper at) in
    stay-set ts topic n x c (step event c).1 at
    (λ e live. sym (lives-is_live (step event c).1 x) ∙ follows.stays x (λ k. kept (e, k)) (lives-is_live c x ∙ live)) h

-- the handle that it made is live, was not so before, and has the channel's next number
new-on : (ts : EndlessTopics) (topic : ℕ) (event : Event) (x : Handle) (o : Option EndlessChannel) → slice_get (values_of ts) topic ≡ o →
    AreProper ts →
    new_handle (on_channel ts topic (step event) o).0 ≡ Some x → IsLive (on_channel ts topic (step event) o).1 topic x
    × (IsLive ts topic x → ⊥)
new-on ts topic event x None at proper e = absurd (none-some x e)
new-on ts topic event x (Some c) at proper e =
    let follows = channel_follows c event (at-topic IsProperChannel ts topic c proper at) in
    let new = follows.fresh x e in (
      ap (λ o. is_live_on o x) (set-here ts topic c (step event c).1 at) ∙ sym (lives-is_live (step event c).1 x) ∙ new.0,
      λ h. false≢true (sym (sym (lives-is_live c x) ∙ new.1) ∙ sym (ap (λ o. is_live_on o x) at) ∙ h),
    )

-- a cut

stay-cut : (ts : EndlessTopics) (topic n : ℕ) (x : Handle) (o : Option EndlessChannel) → slice_get (values_of ts) topic ≡ o →
    IsLive ts n x → IsLive (on_channel ts topic cut o).1 n x
stay-cut ts topic n x None at h = h
stay-cut ts topic n x (Some c) at h = stay-set ts topic n x c (cut c).1 at
    (λ _ live. sym (lives-is_live (cut c).1 x) ∙ ap (λ ns. lives ns x) (cut_stands c) ∙ lives-is_live c x ∙ live) h

-- an opening

stay-append : (ts : EndlessTopics) (t : Bytes × EndlessChannel) (n : ℕ) (x : Handle) → IsLive ts n x → IsLive (ts ++ t ∷ []) n x
stay-append [] t n x h = absurd (false≢true h)
stay-append (u ∷ ts) t zero x h = h
stay-append (u ∷ ts) t (suc n) x h = stay-append ts t n x h

abbrev pub Opened : Type 0
Opened = Result ℕ Refusal × EndlessTopics

stay-open : (ts : EndlessTopics) (name : Bytes) (exists : Bool) (o : Option (ℕ × EndlessChannel)) (n : ℕ) (x : Handle) → IsLive ts n x →
    IsLive (cond {A = Opened} exists (Err Refusals.Exists, ts) (added ts name o)).1 n x
stay-open ts name true o n x h = h
stay-open ts name false None n x h = h
stay-open ts name false (Some new) n x h =
    cond_case (λ (s : Opened). IsLive s.1 n x) (nat_le most_topics (length ts)) (Err Refusals.TooManyTopics, ts)
    (Ok new.0, ts ++ (name, new.1) ∷ []) (λ _. h) (λ _. stay-append ts (name, new.1) n x h)

pub handles_stay_live : HandlesStayLive
handles_stay_live limit ts (Find name) n x proper kept h = h
handles_stay_live limit ts List n x proper kept h = h
handles_stay_live limit ts (Open name making) n x proper kept h =
    stay-open ts name (is_some (find ts name)) (hub.made (endless limit) (length ts + 1) making) n x h
handles_stay_live limit ts (On topic event) n x proper kept h =
    stay-on ts topic event n x (slice_get (values_of ts) topic) refl proper kept h
handles_stay_live limit ts (Cut topic) n x proper kept h = stay-cut ts topic n x (slice_get (values_of ts) topic) refl h

pub new_handles_are_new : NewHandlesAreNew
new_handles_are_new limit ts n event x proper e = new-on ts n event x (slice_get (values_of ts) n) refl proper e

-- numbers begin at 2 beside the hub's own sender, so no new handle is this sender

abbrev pub hubs_sender : Handle
hubs_sender = Sender (tx 1)

abbrev IsNumbered : EndlessChannel → Type 0
IsNumbered c = 1 < (numbers c).next

abbrev pub AreNumbered : EndlessTopics → Type 0
AreNumbered ts = AllByRecursion (λ topic. IsNumbered topic.1) ts

numbered-set : (ts : EndlessTopics) (n : ℕ) (d : EndlessChannel) → AreNumbered ts → IsNumbered d → AreNumbered (set_value_at ts n d)
numbered-set [] n d h p = tt
numbered-set (t ∷ ts) zero d h p = (p, h.1)
numbered-set (t ∷ ts) (suc n) d h p = (h.0, numbered-set ts n d h.1 p)

numbered-on : (ts : EndlessTopics) (topic : ℕ) (event : Event) (o : Option EndlessChannel) → slice_get (values_of ts) topic ≡ o →
    AreProper ts → AreNumbered ts →
    AreNumbered (on_channel ts topic (step event) o).1
numbered-on ts topic event None at proper h = h
numbered-on ts topic event (Some c) at proper h =
    let follows = channel_follows c event (at-topic IsProperChannel ts topic c proper at) in
    let before : 1 < (numbers c).next = at-topic IsNumbered ts topic c h at in
    numbered-set ts topic (step event c).1 h (omega (arith, before, follows.later))

numbered-cut : (ts : EndlessTopics) (topic : ℕ) (o : Option EndlessChannel) → slice_get (values_of ts) topic ≡ o → AreNumbered ts →
    AreNumbered (on_channel ts topic cut o).1
numbered-cut ts topic None at h = h
numbered-cut ts topic (Some c) at h =
    numbered-set ts topic (cut c).1 h (subst (λ ns. 1 < ns.next) (sym (cut_stands c)) (at-topic IsNumbered ts topic c h at))

numbered-append : (ts : EndlessTopics) (name : Bytes) (c : EndlessChannel) → AreNumbered ts → IsNumbered c →
    AreNumbered (ts ++ (name, c) ∷ [])
numbered-append [] name c h p = (p, tt)
numbered-append (t ∷ ts) name c h p = (h.0, numbered-append ts name c h.1 p)

abbrev IsNumberedMade : Option (ℕ × EndlessChannel) → Type 0
IsNumberedMade None = Unit {0}
IsNumberedMade (Some x) = IsNumbered x.1

module _ (limit key : ℕ) where
  abbrev opened_as : ℕ → ℕ → ℕ × EndlessChannel
  opened_as base c = (c, Broadcast ((endless limit).broadcast_opened c base key))

  numbered-made_of : (base : ℕ) (b : Bool) (o : Option ℕ) → IsNumberedMade (cond b (option_map (opened_as base) o) None)
  unfolding broadcast.opened
  numbered-made_of base true None = tt
  numbered-made_of base true (Some c) = omega arith
  numbered-made_of base false o = tt

  numbered-made : (making : Making) → IsNumberedMade (hub.made (endless limit) key making)
  unfolding watch.opened
  numbered-made (Makings.Broadcast asked) = numbered-made_of 0 (nat_lt 0 (2 ^ 64)) (capacity_of asked)
  numbered-made (Makings.BroadcastAt asked base) = numbered-made_of base (nat_lt base (2 ^ 64)) (capacity_of asked)
  numbered-made (Makings.Watch value) = omega arith

numbered-open : (ts : EndlessTopics) (name : Bytes) (exists : Bool) (o : Option (ℕ × EndlessChannel)) → AreNumbered ts → IsNumberedMade o →
    AreNumbered (cond {A = Opened} exists (Err Refusals.Exists, ts) (added ts name o)).1
numbered-open ts name true o h p = h
numbered-open ts name false None h p = h
numbered-open ts name false (Some new) h p =
    cond_case (λ (s : Opened). AreNumbered s.1) (nat_le most_topics (length ts)) (Err Refusals.TooManyTopics, ts)
    (Ok new.0, ts ++ (name, new.1) ∷ []) (λ _. h) (λ _. numbered-append ts name new.1 h p)

pub stays_numbered : (limit : ℕ) (ts : EndlessTopics) (q : Query) → AreProper ts → AreNumbered ts → AreNumbered (say (endless limit) ts q).1
stays_numbered limit ts (Find name) proper h = h
stays_numbered limit ts List proper h = h
stays_numbered limit ts (Open name making) proper h =
    numbered-open ts name (is_some (find ts name)) (hub.made (endless limit) (length ts + 1) making) h
    (numbered-made limit (length ts + 1) making)
stays_numbered limit ts (On topic event) proper h = numbered-on ts topic event (slice_get (values_of ts) topic) refl proper h
stays_numbered limit ts (Cut topic) proper h = numbered-cut ts topic (slice_get (values_of ts) topic) refl h

not-hubs : (ts : EndlessTopics) (topic : ℕ) (event : Event) (x : Handle) (o : Option EndlessChannel) → slice_get (values_of ts) topic ≡ o →
    AreProper ts → AreNumbered ts →
    new_handle (on_channel ts topic (step event) o).0 ≡ Some x → x ≡ hubs_sender → ⊥
not-hubs ts topic event x None at proper h e k = none-some x e
not-hubs ts topic event x (Some c) at proper h e k =
    let follows = channel_follows c event (at-topic IsProperChannel ts topic c proper at) in
    let before : 1 < (numbers c).next = at-topic IsNumbered ts topic c h at in
    let same : 1 ≡ (numbers c).next = sym (ap number_of k) ∙ (follows.fresh x e).2 in
    omega (arith, before, same)

pub new_handles_are_not_the_hubs : (limit : ℕ) (ts : EndlessTopics) (n : ℕ) (event : Event) (x : Handle) → AreProper ts → AreNumbered ts →
    new_handle (say (endless limit) ts (On n event)).0.0 ≡ Some x → x ≡ hubs_sender → ⊥
new_handles_are_not_the_hubs limit ts n event x proper h e k = not-hubs ts n event x (slice_get (values_of ts) n) refl proper h e k

-- What an actor's own sender or receiver does, of which nothing is kept but its entry in the topic's log.
use Rattle.std.proofs.Common.{◌≡◌, ◌⊎◌, ◌∙◌, ℕ, zero, suc, inl, inr, Bool, true, false, cond, [], ◌∷◌, Option, Some, None, Result, Ok, Err, slice_get, ap, refl, subst, sym}
use Rattle.std.specs.Prelude.{if◌then◌else◌, nat_eq, position}
use Rattle.std.specs.Cmp.Lexicographic.{pointwise}
use Rattle.std.specs.Map.{keys_of, values_of}
use Rattle.std.proofs.lemmas.Option.{same_Some}
use Rattle.indexmap.specs.IndexMap.{set_value_at}
use Rattle.th_model.specs.declared.handles.RxId.{RxId}
use Rattle.th_model.specs.declared.handles.TxId.{TxId}
use Rattle.th_model.specs.declared.kind.Kind.{Kind}
use Rattle.th_lines.specs.Output.{AddsOrFails, Output}
use Rattle.th_lines.specs.Replies.{spell}
use Rattle.th_lines.specs.declared.command.Action.{Action}
use Rattle.th_lines.specs.declared.command.Command.TheVariants.{On}
use Rattle.th_lines.specs.declared.reply.Code.{Code}
use Rattle.th_lines.specs.declared.reply.Code.TheVariants as Codes
use Rattle.th_lines.specs.declared.reply.Reply.TheVariants.{Bye, Refused}
use Rattle.th_registry.specs.declared.opening.Found.{Found}
use Rattle.th_registry.specs.declared.outcome.NoEvent.{NoEvent}
use Rattle.th_registry.specs.declared.outcome.NoEvent.TheVariants as NoEvents
use Rattle.th_registry.specs.Calls.{Bytes, receives, sends}
use Rattle.th_registry.specs.Events.{Event, Receives, Sends, EventResult}
use Rattle.th_registry.specs.Hub.{Find, found_at, found_in}
use Rattle.th_registry.specs.Keeping.{IsLeft}
use Rattle.th_registry.specs.Kinds.{kind_of}
use Rattle.th_registry.specs.Outcomes.{ChannelTells}
use Rattle.th_registry.specs.Pictures.{Desk, DeskSays, SeenChannel, SeenTopics, pictures}
use Rattle.th_registry.specs.Receipts.{BroadcastReceipt, ChannelReceipt, WatchReceipt}
use Rattle.th_registry.specs.Typed.{replied}
use Rattle.th_registry.proofs.Events.{desk-says, finds, set-same}
use Rattle.th_registry.proofs.Keeping.{IsOwn, of_broadcast, of_watch}
use Rattle.th_session.specs.declared.handles.Handles.{Handles}
use Rattle.th_session.specs.declared.quiet.Own.{Own}
use Rattle.th_session.specs.declared.quiet.Own.TheVariants.{Receiver, Sender}
use Rattle.th_session.specs.Answer.{said}
use Rattle.th_session.specs.Held.{Holding, handles_at}
use Rattle.th_session.specs.Kept.{Kept, having}
use Rattle.th_session.specs.Quiet.{PutsQuietly, action_of, by_held, own_call, reply_or_none}
use Rattle.th_session.specs.Script.{Answer, Plays, Replied, Say, acting, answered, at_topic, kept}
use Rattle.th_session.specs.Step.{Steps}
use Rattle.th_session.specs.Table.{is_for, judged, own, replied_broadcast, replied_watch}
use Rattle.th_session.proofs.Playing.{plays-by, plays-not}
use Rattle.th_session.proofs.Runs.{desk_steps}

-- what is answered to an event is not the answer to `QUIT`
no-bye : (n : ℕ) (told : Result ChannelReceipt NoEvent) → answered n (replied told) ≡ Replied Bye → ⊥
no-bye n told = elim told as (λ told. answered n (replied told) ≡ Replied Bye → ⊥)
    [ Err NoEvents.NoTopic ↦ λ e. (let bad : ⊥ = cc in bad) | _ ↦ λ e. (let bad : ⊥ = cc in bad) ]

-- nor is a refusal
refused-no-bye : (code : Code) → Replied (Refused code) ≡ Replied Bye → ⊥
refused-no-bye code e = let bad : ⊥ = cc in bad

-- what came of an event whose receipt nobody keeps, where there was none, and where there was one
module _ {A R : Type 0} (reply : A → R) where
  pub left-none : (told : Result A NoEvent) (kept : Result (Unit {0}) NoEvent) (why : NoEvent) (last : Option R) →
      kept ≡ Err why → IsLeft reply told kept last → told ≡ Err why
  left-none (Ok receipt) (Ok _) why last e left = absurd (let bad : ⊥ = cc in bad)
  left-none (Ok receipt) (Err reason) why last e left = absurd left
  left-none (Err other) (Ok _) why last e left = absurd left
  left-none (Err other) (Err reason) why last e left = let same : other ≡ why = cc in ap (λ (x : NoEvent). Err x) same

  pub left-one : (told : Result A NoEvent) (kept : Result (Unit {0}) NoEvent) (last : Option R) →
      kept ≡ Ok tt → IsLeft reply told kept last → (receipt : A) × (told ≡ Ok receipt) × (last ≡ Some (reply receipt))
  left-one (Ok receipt) (Ok _) last e left = (receipt, refl, left)
  left-one (Ok receipt) (Err reason) last e left = absurd left
  left-one (Err other) (Ok _) last e left = absurd left
  left-one (Err other) (Err reason) last e left = absurd (let bad : ⊥ = cc in bad)

-- the text of what came of an event
pub broadcast-text : (n : ℕ) (came : Result BroadcastReceipt NoEvent) →
    spell (reply_or_none replied_broadcast came) ≡ said (answered n (replied (of_broadcast came)))
broadcast-text n (Ok receipt) = refl
broadcast-text n (Err why) = refl

pub watch-text : (n : ℕ) (came : Result WatchReceipt NoEvent) →
    spell (reply_or_none replied_watch came) ≡ said (answered n (replied (of_watch came)))
watch-text n (Ok receipt) = refl
watch-text n (Err why) = refl

-- the first reason why an own handle has no call
module _ {H C : Type 0} (call : H → Option C) (event : H → Event) where
  refused-by : (fits : Bool) (held : Option H) (code : Code) → (if fits then by_held held call else Err Codes.WrongKind) ≡ Err code →
      ((fits ≡ false) × (code ≡ Codes.WrongKind)) ⊎ ((fits ≡ true) × (own held event ≡ Err code))
  refused-by false held code e = inl (refl, (let same : code ≡ Codes.WrongKind = cc in same))
  refused-by true None code e = inr (refl, (let same : Codes.NotHeld ≡ code = cc in ap (λ (c : Code). Err c) same))
  refused-by true (Some handle) code e = absurd (let bad : ⊥ = cc in bad)

  -- or its call is that of its event
  called-by : (fits : Bool) (held : Option H) (made : Option C) → (if fits then by_held held call else Err Codes.WrongKind) ≡ Ok made →
      (fits ≡ true) × (handle : H) × (own held event ≡ Ok (event handle)) × (call handle ≡ made)
  called-by false held made e = absurd (let bad : ⊥ = cc in bad)
  called-by true None made e = absurd (let bad : ⊥ = cc in bad)
  called-by true (Some handle) made e = (refl, handle, refl, (let same : call handle ≡ made = cc in same))

module _ {C : Type 0} (call_of : Event → Option C) (kind : Kind) (s : Handles TxId RxId) where
  abbrev called : Own → Result (Option C) Code
  called it = own_call (λ verb t. call_of (Sends t verb)) (λ verb r. call_of (Receives r verb)) kind it s

  pub own-refused : (it : Own) (code : Code) → called it ≡ Err code →
      ((is_for kind (action_of it) ≡ false) × (code ≡ Codes.WrongKind))
      ⊎ ((is_for kind (action_of it) ≡ true) × (judged (action_of it) s ≡ Err code))
  own-refused (Sender verb) code e = refused-by (λ (t : TxId). call_of (Sends t verb)) (λ t. Sends t verb) (sends kind verb) s.sender code e
  own-refused (Receiver verb) code e =
      refused-by (λ (r : RxId). call_of (Receives r verb)) (λ r. Receives r verb) (receives kind verb) s.receiver code e

  pub own-called : (it : Own) (made : Option C) → called it ≡ Ok made →
      (is_for kind (action_of it) ≡ true) × (event : Event) × IsOwn event × (judged (action_of it) s ≡ Ok event) × (call_of event ≡ made)
  own-called (Sender verb) made e =
      let by = called-by (λ (t : TxId). call_of (Sends t verb)) (λ t. Sends t verb) (sends kind verb) s.sender made e in
      (by.0, Sends by.1 verb, tt, by.2, by.3)
  own-called (Receiver verb) made e =
      let by = called-by (λ (r : RxId). call_of (Receives r verb)) (λ r. Receives r verb) (receives kind verb) s.receiver made e in
      (by.0, Receives by.1 verb, tt, by.2, by.3)

-- what is held stays as it is
kept-own : (it : Own) (told : EventResult) (n : ℕ) (h : Holding) → h ≡ kept (action_of it) told n h
kept-own (Sender verb) told n h = refl
kept-own (Receiver verb) told n h = refl

-- the channel of a topic that is there
found-in : (m : ℕ) (ts : SeenTopics) (n : ℕ) (channel : SeenChannel) → slice_get (values_of ts) n ≡ Some channel →
    found_in m (slice_get ts n) ≡ Some (record { topic = record { 0 = m }; kind = kind_of channel })
found-in m [] n channel there = absurd (let bad : ⊥ = cc in bad)
found-in m (topic ∷ ts) zero channel there =
    let found : SeenChannel → Option Found = λ channel. Some (record { topic = record { 0 = m }; kind = kind_of channel }) in
    ap found (same_Some topic.1 channel there)
found-in m (topic ∷ ts) (suc n) channel there = found-in m ts n channel there

module _ (limit : ℕ) (had : Kept) (name : Bytes) (it : Own) (ts : SeenTopics) where
  abbrev action : Action
  action = action_of it

  abbrev desk : SeenTopics → Desk
  desk topics = record { limit = limit; topics = topics }

  abbrev Stepped : Answer → SeenTopics → Type 0
  Stepped answer new = Steps (pictures limit) had ts (On name action) answer (having had answer had.handles) new

  quietly : (found : Option Found) (answer : Answer) (new : SeenTopics) → DeskSays (desk ts) (Find name) found (desk ts) →
      Plays DeskSays (at_topic action had.handles found) (desk ts) answer had.handles (desk new) → Stepped answer new
  quietly found answer new says plays = (desk_steps had (On name action) (desk ts) answer (having had answer had.handles) (desk new)
      ((found, desk ts, says, plays), (refl, refl))).1

  -- no topic of this name
  pub lacks : {A F : Type 0} (result : Result A F) (before after : Output) → position (pointwise nat_eq name) (keys_of ts) ≡ None →
      AddsOrFails (spell (Refused Codes.NoTopic)) before after result → PutsQuietly limit had ts (On name action) ts before after result
  lacks result before after none text =
      let answer = Replied (Refused Codes.NoTopic) in
      let says : DeskSays (desk ts) (Find name) None (desk ts) = (refl, finds limit ts name None (ap (found_at ts) none)) in
      (answer, quietly None answer ts says (refl, refl, refl), refused-no-bye Codes.NoTopic, text)

  module _ (n : ℕ) (channel : SeenChannel) (at : position (pointwise nat_eq name) (keys_of ts) ≡ Some n)
      (there : slice_get (values_of ts) n ≡ Some channel) where
    abbrev found : Found
    found = record { topic = record { 0 = n }; kind = kind_of channel }

    says-found : DeskSays (desk ts) (Find name) (Some found) (desk ts)
    says-found = (refl, finds limit ts name (Some found) (ap (found_at ts) at ∙ found-in n ts n channel there))

    -- of the kind
    fitting : (answer : Answer) (new : SeenTopics) → is_for (kind_of channel) action ≡ true →
        Plays DeskSays (acting action n had.handles) (desk ts) answer had.handles (desk new) → Stepped answer new
    fitting answer new fits plays =
        let P : Bool → Type 0 = λ fits. Plays DeskSays (cond fits (acting action n had.handles)
        (Say (Refused Codes.WrongKind) had.handles)) (desk ts) answer had.handles (desk new) in
        quietly (Some found) answer new says-found (subst P (sym fits) plays)

    refusing : (code : Code) →
        ((is_for (kind_of channel) action ≡ false) × (code ≡ Codes.WrongKind))
        ⊎ ((is_for (kind_of channel) action ≡ true) × (judged action (handles_at had.handles n) ≡ Err code)) →
        Stepped (Replied (Refused code)) ts
    refusing code (inl wrong) =
        let answer = Replied (Refused Codes.WrongKind) in
        let P : Bool → Type 0 = λ fits. Plays DeskSays (cond fits (acting action n had.handles)
        (Say (Refused Codes.WrongKind) had.handles)) (desk ts) answer had.handles (desk ts) in
        let step = quietly (Some found) answer ts says-found (subst P (sym wrong.0) (refl, refl, refl)) in
        subst (λ (code : Code). Stepped (Replied (Refused code)) ts) (sym wrong.1) step
    refusing code (inr lacks) = fitting (Replied (Refused code)) ts lacks.0
        (plays-not DeskSays action n had.handles had.handles (desk ts) lacks.1 refl)

    -- a refusal
    pub refuses : {C A F : Type 0} (result : Result A F) (call_of : Event → Option C) (code : Code) (before after : Output) →
        called call_of (kind_of channel) (handles_at had.handles n) it ≡ Err code → AddsOrFails (spell (Refused code)) before after result →
        PutsQuietly limit had ts (On name action) (set_value_at ts n channel) before after result
    refuses result call_of code before after none text =
        let why = own-refused call_of (kind_of channel) (handles_at had.handles n) it code none in
        let same = sym (set-same ts n channel there) in (
          Replied (Refused code),
          subst (λ (new : SeenTopics). Stepped (Replied (Refused code)) new) same (refusing code why),
          refused-no-bye code,
          text,
        )

    -- an event, and what came of it
    pub tells : {A F : Type 0} (result : Result A F) (event : Event) (came : Result ChannelReceipt NoEvent) (new : SeenChannel)
        (before after : Output) → is_for (kind_of channel) action ≡ true → judged action (handles_at had.handles n) ≡ Ok event →
        ChannelTells channel event (replied came) new → AddsOrFails (said (answered n (replied came))) before after result →
        PutsQuietly limit had ts (On name action) (set_value_at ts n new) before after result
    tells result event came new before after fits judgement told text =
        let answer = answered n (replied came) in
        let w = desk-says n event refl there told in
        let plays = plays-by DeskSays action n had.handles had.handles (replied came) (desk ts) (desk (set_value_at ts n new))
        judgement w refl (kept-own it (replied came).0 n had.handles) in
        (answer, fitting answer (set_value_at ts n new) fits plays, no-bye n came, text)

-- One who holds only what is live is refused for a handle that is not held exactly where it lacks one.
use Rattle.std.proofs.Common.{◌≡◌, ℕ, Bool, true, false, cond, Option, Some, None, Result, Ok, Err, refl, sym, ap, subst, ◌∙◌}
use Rattle.std.proofs.lemmas.Bool.{false≢true}
use Rattle.th_model.specs.declared.handles.TxId.{TxId}
use Rattle.th_model.specs.declared.handles.RxId.{RxId}
use Rattle.th_model.specs.declared.broadcast.BReply.TheVariants as BReplies
use Rattle.th_model.specs.declared.watch.WReply.TheVariants as WReplies
use Rattle.th_lines.specs.declared.command.Action.{Action}
use Rattle.th_lines.specs.declared.command.Action.TheVariants as Actions
use Rattle.th_lines.specs.declared.reply.Code.{Code}
use Rattle.th_lines.specs.declared.reply.Code.TheVariants as Codes
use Rattle.th_lines.specs.declared.reply.Reply.{Reply}
use Rattle.th_lines.specs.declared.reply.Reply.TheVariants.{Refused}
use Rattle.th_registry.specs.declared.opening.Found.{Found}
use Rattle.th_registry.specs.declared.channel.Channel.TheVariants.{Broadcast, Watch}
use Rattle.th_registry.specs.declared.outcome.NoEvent.TheVariants as NoEvents
use Rattle.th_registry.specs.Events.{Event, Binds, Subscribes, Sends, Asks, Receives, Resubscribes, DropsTx, DropsRx, Hub, Own, any_sender, EventResult}
use Rattle.th_registry.specs.Events as events
use Rattle.th_registry.specs.Hub.{say, On}
use Rattle.th_registry.specs.Endless.{EndlessTopics, endless}
use Rattle.th_registry.specs.Live.{Handle, Sender, Receiver, AskedBy, lacks_handle}
use Rattle.th_registry.proofs.LiveReplies.{live_handles_are_served}
use Rattle.th_session.specs.declared.handles.Handles.{Handles}
use Rattle.th_session.specs.Table.{is_for, judged, own, unless_held, replied}
use Rattle.th_session.specs.Held.{Holding, handles_at}
use Rattle.th_session.specs.Live.{Has, IsHeldLive}
use Rattle.th_session.specs.Script.{Answer, Ask, Give, Say, Script, answered, at_topic, by_event, kept, reply_of, run}
use Rattle.th_session.specs.Laws.{Lacks, WhatIsLackingIsExact}
use Rattle.th_session.proofs.Replying.{event-told}
use Rattle.th_session.proofs.Rooms.{run-in-room}
use Rattle.th_session.proofs.Order.{what_is_lacking_comes_next}

-- the answer is that the handle is not held
abbrev is_not_held : Option Reply → Bool
is_not_held (Some (Refused Codes.NotHeld)) = true
is_not_held reply = false

told-not-held : (told : EventResult) → is_not_held (Some (replied told)) ≡ lacks_handle told
told-not-held told = elim told as (λ told. is_not_held (Some (replied told)) ≡ lacks_handle told) [
  | Ok (events.Replied (Broadcast BReplies.Empty)) ↦ refl
  | Ok (events.Replied (Watch (WReplies.Modified true))) ↦ refl
  | Ok (events.Replied (Watch (WReplies.Shown v true))) ↦ refl
  | Ok (events.Replied (Watch (WReplies.Changed true))) ↦ refl
  | Ok (events.Replied (Watch (WReplies.Gone true))) ↦ refl
  | Err NoEvents.NoTopic ↦ refl
  | _ ↦ refl
]

-- which event it is

-- an event is asked for by what is held
abbrev IsOfHeld : Handles TxId RxId → Event → Type 0
IsOfHeld s event = (x : Handle) → AskedBy event x → Has s x

own-held : {H : Type 0} (handle : H → Handle) (s : Handles TxId RxId) (o : Option H) (event : H → Event) (e : Event) →
    ((h : H) (x : Handle) → AskedBy (event h) x → x ≡ handle h) → ((h : H) → o ≡ Some h → Has s (handle h)) → own o event ≡ Ok e →
    IsOfHeld s e
own-held handle s None event e asks has is x k = absurd (let no : ⊥ = cc in no)
own-held handle s (Some h) event e asks has is x k =
    let same : event h ≡ e = cc in
    subst (Has s) (sym (asks h x (subst (λ (z : Event). AskedBy z x) (sym same) k))) (has h refl)

-- of an event that may go through the hub's own sender
by-any : (s : Handles TxId RxId) (o : Option TxId) (event : Option TxId → Event) → ((x : Handle) → AskedBy (event None) x → ⊥) →
    ((t : TxId) (x : Handle) → AskedBy (event (Some t)) x → x ≡ Sender t) →
    ((t : TxId) → o ≡ Some t → Has s (Sender t)) → IsOfHeld s (event o)
by-any s None event none some has x k = absurd (none x k)
by-any s (Some t) event none some has x k = subst (Has s) (sym (some t x k)) (has t refl)

unless-held : {H : Type 0} (s : Handles TxId RxId) (o : Option H) (event e : Event) → IsOfHeld s event → unless_held o event ≡ Ok e →
    IsOfHeld s e
unless-held s None event e h is = subst (IsOfHeld s) (let same : event ≡ e = cc in same) h
unless-held s (Some x) event e h is = absurd (let no : ⊥ = cc in no)

abbrev always : Event → Result Event Code
always event = Ok event

is-same : (s : Handles TxId RxId) (event e : Event) → IsOfHeld s event → always event ≡ Ok e → IsOfHeld s e
is-same s event e h is = subst (IsOfHeld s) (let same : event ≡ e = cc in same) h

judged-held : (action : Action) (s : Handles TxId RxId) (e : Event) → judged action s ≡ Ok e → IsOfHeld s e
judged-held Actions.Bind s e is = unless-held s s.sender Binds e (λ x k. absurd k) is
judged-held Actions.Unbind s e is = own-held (λ t. Sender t) s s.sender (λ t. DropsTx (Own t)) e (λ t x k. k) (λ t h. h) is
judged-held (Actions.Subscribe start) s e is = unless-held s s.receiver (Subscribes start (any_sender s.sender)) e
    (by-any s s.sender (λ o. Subscribes start (any_sender o)) (λ x k. k) (λ t x k. k) (λ t h. h)) is
judged-held Actions.Unsubscribe s e is = own-held (λ r. Receiver r) s s.receiver (λ r. DropsRx r) e (λ r x k. k) (λ r h. h) is
judged-held Actions.Resubscribe s e is = own-held (λ r. Receiver r) s s.receiver (λ r. Resubscribes r) e (λ r x k. k) (λ r h. h) is
judged-held (Actions.BySender verb) s e is = own-held (λ t. Sender t) s s.sender (λ t. Sends t verb) e (λ t x k. k) (λ t h. h) is
judged-held (Actions.Ask question) s e is = is-same s (Asks (any_sender s.sender) question) e
    (by-any s s.sender (λ o. Asks (any_sender o) question) (λ x k. k) (λ t x k. k) (λ t h. h)) is
judged-held (Actions.ByReceiver verb) s e is = own-held (λ r. Receiver r) s s.receiver (λ r. Receives r verb) e (λ r x k. k) (λ r h. h) is
judged-held Actions.End s e is = is-same s (DropsTx Hub) e (λ x k. absurd k) is

-- where it is none for want of a handle, the asker lacks it
own-lacks : {H : Type 0} (o : Option H) (event : H → Event) → own o event ≡ Err Codes.NotHeld → o ≡ None
own-lacks None event e = refl
own-lacks (Some h) event e = absurd (let no : ⊥ = cc in no)

unless-lacks : {H : Type 0} (o : Option H) (event : Event) → unless_held o event ≡ Err Codes.NotHeld → ⊥
unless-lacks None event e = cc
unless-lacks (Some h) event e = cc

judged-lacks : (action : Action) (s : Handles TxId RxId) → judged action s ≡ Err Codes.NotHeld → Lacks action s
judged-lacks Actions.Bind s e = absurd (unless-lacks s.sender Binds e)
judged-lacks Actions.Unbind s e = own-lacks s.sender (λ t. DropsTx (Own t)) e
judged-lacks (Actions.Subscribe start) s e = absurd (unless-lacks s.receiver (Subscribes start (any_sender s.sender)) e)
judged-lacks Actions.Unsubscribe s e = own-lacks s.receiver (λ r. DropsRx r) e
judged-lacks Actions.Resubscribe s e = own-lacks s.receiver (λ r. Resubscribes r) e
judged-lacks (Actions.BySender verb) s e = own-lacks s.sender (λ t. Sends t verb) e
judged-lacks (Actions.Ask question) s e = absurd (let no : ⊥ = cc in no)
judged-lacks (Actions.ByReceiver verb) s e = own-lacks s.receiver (λ r. Receives r verb) e
judged-lacks Actions.End s e = absurd (let no : ⊥ = cc in no)

-- the question for an action's event
abbrev pub asking : Action → Holding → ℕ → Event → Script
asking action h n event = Ask (On n event) (λ noted. Give (answered n noted) (kept action noted.0 n h))

module _ (limit : ℕ) (ts : EndlessTopics) (h : Holding) (action : Action) (n : ℕ) (live : IsHeldLive ts h n) where
  -- the reply where this is why there is no event, or which event it is
  by-judgement : (j : Result Event Code) → judged action (handles_at h n) ≡ j →
      reply_of (run (endless limit) ts (by_event action n h j)).0 ≡ Some (Refused Codes.NotHeld) → Lacks action (handles_at h n)
  by-judgement (Err code) j r = judged-lacks action (handles_at h n)
      (j ∙ ap (λ (k : Code). Err k) (let same : code ≡ Codes.NotHeld = cc in same))
  by-judgement (Ok event) j r =
      let held : IsOfHeld (handles_at h n) event = judged-held action (handles_at h n) event j in
      let served : lacks_handle (say (endless limit) ts (On n event)).0.0 ≡ false =
      live_handles_are_served limit ts n event (λ x k. live x (held x k)) in
      let reply = sym (ap (λ (end : Answer × Holding × EndlessTopics). reply_of end.0)
      (run-in-room (endless limit) ts action h (asking action h n event))) ∙ r in
      absurd (false≢true (sym (told-not-held (say (endless limit) ts (On n event)).0.0 ∙ served)
      ∙ ap is_not_held (sym (event-told (endless limit) (λ c call reply. refl) (λ c call reply. refl) n ts event) ∙ reply)))

  by-kind : (right : Bool) → right ≡ true → reply_of (run (endless limit) ts
      (cond right (by_event action n h (judged action (handles_at h n))) (Say (Refused Codes.WrongKind) h))).0
      ≡ Some (Refused Codes.NotHeld) → Lacks action (handles_at h n)
  by-kind true is r = by-judgement (judged action (handles_at h n)) refl r
  by-kind false is r = absurd (false≢true is)

pub what_is_lacking_is_exact : WhatIsLackingIsExact
what_is_lacking_is_exact limit ts h name action t e right live = (
  λ r. by-kind limit ts h action t.topic.0 live (is_for t.kind action) right
      (sym (ap (λ (found : Option Found). reply_of (run (endless limit) ts (at_topic action h found)).0) e) ∙ r),
  what_is_lacking_comes_next (endless limit) ts h name action t e right,
)

-- What every actor holds stays live, whichever command one of them gives.
use Rattle.std.proofs.Common.{◌≡◌, ℕ, ◌<◌, ◌⊎◌, inl, inr, Bool, true, false, cond, [], ◌∷◌, List, Option, Some, None, Result, Ok, Err, refl, sym, ap, subst, ◌∙◌, arith}
use Rattle.std.specs.Option.{unwrap_or}
use Rattle.std.specs.List.{AllByRecursion}
use Rattle.std.specs.Map.{keys_of, lookup}
use Rattle.std.specs.Ordering.{nat_cmp, match_ordering, is_eq}
use Rattle.std.specs.declared.cmp.Ordering.TheVariants.{Less, Equal, Greater}
use Rattle.std.specs.BTreeMap.{insert_entry, is_at}
use Rattle.std.proofs.lemmas.Bool.Decides.{eqb_tells}
use Rattle.std.proofs.lemmas.Cmp.{ranked}
use Rattle.std.proofs.lemmas.Option.{none-some, same_Some}
use Rattle.th_model.specs.declared.handles.TxId.{TxId}
use Rattle.th_model.specs.declared.handles.RxId.{RxId}
use Rattle.th_model.specs.Handles.{IsRising}
use Rattle.th_model.proofs.PlaceLemmas.{not_at, is_at_self, all_below}
use Rattle.th_model.specs.declared.verb.Start.{Start}
use Rattle.th_lines.specs.declared.command.Action.{Action}
use Rattle.th_lines.specs.declared.command.Action.TheVariants as Actions
use Rattle.th_lines.specs.declared.command.Command.{Command}
use Rattle.th_lines.specs.declared.command.Command.TheVariants as Commands
use Rattle.th_lines.specs.declared.reply.Code.{Code}
use Rattle.th_lines.specs.declared.reply.Code.TheVariants as Codes
use Rattle.th_lines.specs.declared.reply.Reply.TheVariants.{Refused}
use Rattle.th_registry.specs.declared.opening.Found.{Found}
use Rattle.th_registry.specs.declared.outcome.NoEvent.{NoEvent}
use Rattle.th_registry.specs.Events.{Event, Binds, Subscribes, Sends, Asks, Receives, Resubscribes, DropsTx, DropsRx, Hub, Own, By, any_sender, EventResult, NewTx, NewRx}
use Rattle.th_registry.specs.Events as events
use Rattle.th_registry.specs.Hub.{Query, Open, On, Cut, find, say}
use Rattle.th_registry.specs.History.{ChannelSegment}
use Rattle.th_registry.specs.Hub as hub
use Rattle.th_registry.specs.Endless.{EndlessTopics, endless, AreProper}
use Rattle.th_registry.specs.Live.{Handle, Sender, Receiver, IsLive, new_handle, Ends, EndsOn}
use Rattle.th_registry.proofs.Seeing.{stays_proper}
use Rattle.th_registry.proofs.LiveTopics.{AreNumbered, hubs_sender, handles_stay_live, new_handles_are_new, new_handles_are_not_the_hubs, stays_numbered}
use Rattle.th_session.specs.declared.handles.Handles.{Handles}
use Rattle.th_session.specs.Table.{is_for, judged, own, unless_held}
use Rattle.th_session.specs.Held.{Holding, nothing, handles_of, handles_at, with_handles}
use Rattle.th_session.specs.Live.{Has, AllIsLive}
use Rattle.th_session.specs.Script.{Answer, Script, Say, Ask, run, by_event, acting, at_topic, kept, script, shown, traced, spend_sender, spend_receiver, spend_all}
use Rattle.th_session.proofs.Live.{asking}
use Rattle.th_session.proofs.Rooms.{run-in-room}
use Rattle.th_session.proofs.HoldLemmas.{lookup-insert}

-- entries by numbers

module _ {X : Type 0} where
  lookup-elsewhere : (es : List (ℕ × X)) (n : ℕ) (x : X) (m : ℕ) → (m ≡ n → ⊥) →
      lookup (is_at (nat_cmp m)) (insert_entry nat_cmp es n x) ≡ lookup (is_at (nat_cmp m)) es
  lookup-elsewhere [] n x m ne = rw (not_at m n ne) refl
  lookup-elsewhere (e ∷ es) n x m ne = elim (nat_cmp n e.0) as
      (λ r. r ≡ nat_cmp n e.0 → lookup (is_at (nat_cmp m)) (match_ordering r ((n, x) ∷ e ∷ es) ((e.0, x) ∷ es)
      (e ∷ insert_entry nat_cmp es n x)) ≡ lookup (is_at (nat_cmp m)) (e ∷ es)) [
        | Less ↦ λ o. rw (not_at m n ne) refl
        | Equal ↦ λ o. (let same : n ≡ e.0 = ranked n e.0 Equal o in rw (not_at m e.0 (λ k. ne (k ∙ sym same))) refl)
        | Greater ↦ λ o. ap (cond (is_eq (nat_cmp m e.0)) (Some e.1)) (lookup-elsewhere es n x m ne)
      ] refl

  all-insert : (P : ℕ → Type 0) (es : List (ℕ × X)) (n : ℕ) (x : X) → AllByRecursion P (keys_of es) → P n →
      AllByRecursion P (keys_of (insert_entry nat_cmp es n x))
  all-insert P [] n x h p = (p, tt)
  all-insert P (e ∷ es) n x h p = elim (nat_cmp n e.0) as (λ r.
      AllByRecursion P (keys_of (match_ordering r ((n, x) ∷ e ∷ es) ((e.0, x) ∷ es) (e ∷ insert_entry nat_cmp es n x)))) [
        | Less ↦ (p, h)
        | Equal ↦ h
        | Greater ↦ (h.0, all-insert P es n x h.1 p)
      ]

  rising-insert : (es : List (ℕ × X)) (n : ℕ) (x : X) → IsRising (keys_of es) → IsRising (keys_of (insert_entry nat_cmp es n x))
  rising-insert [] n x h = (tt, tt)
  rising-insert (e ∷ es) n x h = elim (nat_cmp n e.0) as (λ r. r ≡ nat_cmp n e.0 →
      IsRising (keys_of (match_ordering r ((n, x) ∷ e ∷ es) ((e.0, x) ∷ es) (e ∷ insert_entry nat_cmp es n x)))) [
        | Less ↦ λ o. (let lt : n < e.0 = ranked n e.0 Less o in ((lt, all_below e.0 n (keys_of es) lt h.0), h))
        | Equal ↦ λ o. h
        | Greater ↦ λ o. (let gt : e.0 < n = ranked n e.0 Greater o in (all-insert (λ k. e.0 < k) es n x h.0 gt, rising-insert es n x h.1))
      ] refl

  -- what is below all keys is none of them
  lookup-below : (es : List (ℕ × X)) (n : ℕ) → AllByRecursion (λ k. n < k) (keys_of es) → lookup (is_at (nat_cmp n)) es ≡ None
  lookup-below [] n h = refl
  lookup-below (e ∷ es) n h = rw (not_at n e.0 (λ k. omega (arith, h.0, k))) (lookup-below es n h.1)

-- handles

own-here : (h : Holding) (n : ℕ) (s : Handles TxId RxId) → handles_at (with_handles h n s) n ≡ s
own-here h n s = ap (λ o. unwrap_or o nothing) (lookup-insert h n s)

own-elsewhere : (h : Holding) (n m : ℕ) (s : Handles TxId RxId) → (m ≡ n → ⊥) → handles_at (with_handles h n s) m ≡ handles_at h m
own-elsewhere h n m s ne = ap (λ o. unwrap_or o nothing) (lookup-elsewhere h n s m ne)

pub has-nothing : (x : Handle) → Has nothing x → ⊥
has-nothing (Sender t) e = none-some t e
has-nothing (Receiver r) e = none-some r e

-- what one actor holds is live, and none of it is the hub's own sender
pub record Lives (ts : EndlessTopics) (h : Holding) : Type 0 where
  pub rising : IsRising (keys_of h)
  pub live : AllIsLive ts h
  pub own : (n : ℕ) (x : Handle) → Has (handles_at h n) x → x ≡ hubs_sender → ⊥

-- a live handle of topic n that is neither the hub's nor held by this actor
pub record IsOthers (ts : EndlessTopics) (h : Holding) (n : ℕ) (x : Handle) : Type 0 where
  pub live : IsLive ts n x
  pub own : x ≡ hubs_sender → ⊥
  pub apart : Has (handles_at h n) x → ⊥

-- the topics are proper, and no new number is the hub's sender's
pub record AreSound (ts : EndlessTopics) : Type 0 where
  pub proper : AreProper ts
  pub numbered : AreNumbered ts

-- Afterwards what the actor holds is live, if it was so before, and each live handle that was another's still is.
pub record Keeps (h : Holding) (ts : EndlessTopics) (h' : Holding) (ts' : EndlessTopics) : Type 0 where
  pub sound : AreSound ts'
  pub lives : Lives ts' h'
  pub others : (n : ℕ) (x : Handle) → IsOthers ts h n x → IsOthers ts' h' n x

pub sound_after : (limit : ℕ) (ts : EndlessTopics) (q : Query) → AreSound ts → AreSound (say (endless limit) ts q).1
sound_after limit ts q s = record { proper = stays_proper limit ts q s.proper; numbered = stays_numbered limit ts q s.proper s.numbered }

nothing-changed : (ts : EndlessTopics) (h : Holding) → AreSound ts → Lives ts h → Keeps h ts h ts
nothing-changed ts h s l = record { sound = s; lives = l; others = λ n x o. o }

-- a query that ends no handle, by an actor that holds the same then
asked : (limit : ℕ) (ts : EndlessTopics) (h : Holding) (q : Query) → AreSound ts → Lives ts h →
    ((n : ℕ) (x : Handle) → EndsOn q (say (endless limit) ts q).0 n x → ⊥) → Keeps h ts h (say (endless limit) ts q).1
asked limit ts h q s l none = record {
  sound = sound_after limit ts q s;
  lives = record {
    rising = l.rising;
    live = λ n x has. handles_stay_live limit ts q n x s.proper (none n x) (l.live n x has);
    own = l.own;
  };
  others = λ n x o. record { live = handles_stay_live limit ts q n x s.proper (none n x) o.live; own = o.own; apart = o.apart };
}

-- an event, and what is kept then

-- How what is held on topic n has changed by what was said of the event: nothing is held but what was held and has not
-- ended, and what was made; and what has ended was held, or was the hub's sender.
pub record Changes (h : Holding) (n : ℕ) (event : Event) (told : EventResult) (h' : Holding) : Type 0 where
  pub rising : IsRising (keys_of h) → IsRising (keys_of h')
  pub elsewhere : (m : ℕ) → (m ≡ n → ⊥) → handles_at h' m ≡ handles_at h m
  pub held : (x : Handle) → Has (handles_at h' n) x → (Has (handles_at h n) x × ((x ≡ hubs_sender → ⊥) → Ends event told x → ⊥))
      ⊎ (new_handle told ≡ Some x)
  pub ended : (x : Handle) → Ends event told x → Has (handles_at h n) x ⊎ (x ≡ hubs_sender)

module _ (limit : ℕ) (ts : EndlessTopics) (h : Holding) (n : ℕ) (event : Event) (h' : Holding) (s : AreSound ts) (l : Lives ts h)
    (c : Changes h n event (say (endless limit) ts (On n event)).0.0 h') where
  abbrev answer : EventResult
  answer = (say (endless limit) ts (On n event)).0.0

  abbrev later : EndlessTopics
  later = (say (endless limit) ts (On n event)).1

  stays : (m : ℕ) (x : Handle) → ((m ≡ n) × Ends event answer x → ⊥) → IsLive ts m x → IsLive later m x
  stays m x kept live = handles_stay_live limit ts (On n event) m x s.proper kept live

  still-here : (x : Handle) → Has (handles_at h' n) x → IsLive later n x × (x ≡ hubs_sender → ⊥)
  still-here x has = elim (c.held x has) [
    | inl k ↦ (stays n x (λ e. k.1 (l.own n x k.0) e.1) (l.live n x k.0), l.own n x k.0)
    | inr new ↦ (
      (new_handles_are_new limit ts n event x s.proper
          new).0,
      new_handles_are_not_the_hubs limit ts n event x s.proper s.numbered new,
    )
  ]

  still : (m : ℕ) (x : Handle) → Has (handles_at h' m) x → IsLive later m x × (x ≡ hubs_sender → ⊥)
  still m x has = elim (eqb_tells m n) [
    | inl e ↦ (let here = still-here x (subst (λ k. Has (handles_at h' k) x) e.1 has) in
        (subst (λ k. IsLive later k x) (sym e.1) here.0, here.1))
    | inr ne ↦ (let before : Has (handles_at h m) x = subst (λ handles. Has handles x) (c.elsewhere m ne.1) has in
        (stays m x (λ e. ne.1 e.0) (l.live m x before), l.own m x before))
  ]

  -- another's handle has not ended, and was not made
  not-ended : (m : ℕ) (x : Handle) → IsOthers ts h m x → (m ≡ n) × Ends event answer x → ⊥
  not-ended m x o e = elim (c.ended x e.1) [
    | inl has ↦ o.apart (subst (λ k. Has (handles_at h k) x) (sym e.0) has)
    | inr is ↦ o.own is
  ]

  apart-here : (x : Handle) → IsOthers ts h n x → Has (handles_at h' n) x → ⊥
  apart-here x o has = elim (c.held x has) [
    | inl k ↦ o.apart k.0
    | inr new ↦ (new_handles_are_new limit ts n event x s.proper new).1 o.live
  ]

  apart : (m : ℕ) (x : Handle) → IsOthers ts h m x → Has (handles_at h' m) x → ⊥
  apart m x o has = elim (eqb_tells m n) [
    | inl e ↦ apart-here x (subst (λ k. IsOthers ts h k x) e.1 o) (subst (λ k. Has (handles_at h' k) x) e.1 has)
    | inr ne ↦ o.apart (subst (λ handles. Has handles x) (c.elsewhere m ne.1) has)
  ]

  event-keeps : Keeps h ts h' later
  event-keeps = record {
    sound = sound_after limit ts (On n event) s;
    lives = record { rising = c.rising l.rising; live = λ m x has. (still m x has).0; own = λ m x has. (still m x has).1 };
    others = λ m x o. record { live = stays m x (not-ended m x o) o.live; own = o.own; apart = apart m x o };
  }

-- what each action keeps

abbrev always : Event → Result Event Code
always event = Ok event

-- the same is held, and nothing held has ended
same-held : (h : Holding) (n : ℕ) (event : Event) (told : EventResult) → ((x : Handle) → Ends event told x → x ≡ hubs_sender) →
    Changes h n event told h
same-held h n event told ends = record {
  rising = λ r. r;
  elsewhere = λ m ne. refl;
  held = λ x has. inl (has, λ own e. own (ends x e));
  ended = λ x e. inr (ends x e);
}

-- these handles are held
module _ (h : Holding) (n : ℕ) (event : Event) (told : EventResult) (s : Handles TxId RxId) where
  new-handles : ((x : Handle) → Has s x → (Has (handles_at h n) x × ((x ≡ hubs_sender → ⊥) → Ends event told x → ⊥))
      ⊎ (new_handle told ≡ Some x)) →
      ((x : Handle) → Ends event told x → Has (handles_at h n) x ⊎ (x ≡ hubs_sender)) → Changes h n event told (with_handles h n s)
  new-handles held ended = record {
    rising = rising-insert h n s;
    elsewhere = λ m ne. own-elsewhere h n m s ne;
    held = λ x has. held x (subst (λ handles. Has handles x) (own-here h n s) has);
    ended = ended;
  }

module _ (h : Holding) (n : ℕ) where
  bind-changes : (told : EventResult) → Changes h n Binds told (kept Actions.Bind told n h)
  bind-changes (Ok (NewTx t)) = new-handles h n Binds (Ok (NewTx t)) (record { sender = Some t; receiver = (handles_at h n).receiver }) held
      (λ x e. absurd e)
    where
      held : (x : Handle) → Has (record { sender = Some t; receiver = (handles_at h n).receiver }) x →
          (Has (handles_at h n) x × ((x ≡ hubs_sender → ⊥) → Ends Binds (Ok (NewTx t)) x → ⊥)) ⊎ (new_handle (Ok (NewTx t)) ≡ Some x)
      held (Sender q) e = inr (ap (λ z. Some (Sender z)) (same_Some t q e))
      held (Receiver q) e = inl (e, λ own k. k)
  bind-changes (Ok (NewRx r)) = same-held h n Binds (Ok (NewRx r)) (λ x e. absurd e)
  bind-changes (Ok events.Ended) = same-held h n Binds (Ok events.Ended) (λ x e. absurd e)
  bind-changes (Ok (events.Replied reply)) = same-held h n Binds (Ok (events.Replied reply)) (λ x e. absurd e)
  bind-changes (Err why) = same-held h n Binds (Err why) (λ x e. absurd e)

  unbind-changes : (told : EventResult) (t : TxId) → (handles_at h n).sender ≡ Some t →
      Changes h n (DropsTx (Own t)) told (kept Actions.Unbind told n h)
  unbind-changes (Ok outcome) t has = new-handles h n (DropsTx (Own t)) (Ok outcome)
      (record { sender = None; receiver = (handles_at h n).receiver }) held (λ x e. inl (subst (Has (handles_at h n)) (sym e) has))
    where
      held : (x : Handle) → Has (record { sender = None; receiver = (handles_at h n).receiver }) x →
          (Has (handles_at h n) x × ((x ≡ hubs_sender → ⊥) → Ends (DropsTx (Own t)) (Ok outcome) x → ⊥))
          ⊎ (new_handle (Ok outcome) ≡ Some x)
      held (Sender q) e = absurd (none-some q e)
      held (Receiver q) e = inl (e, λ own k. let no : ⊥ = cc in no)
  unbind-changes (Err why) t has = same-held h n (DropsTx (Own t)) (Err why) (λ x e. absurd e)

  subscribe-changes : (told : EventResult) (start : Start) (by : By) →
      Changes h n (Subscribes start by) told (kept (Actions.Subscribe start) told n h)
  subscribe-changes (Ok (NewRx r)) start by = new-handles h n (Subscribes start by) (Ok (NewRx r))
      (record { sender = (handles_at h n).sender; receiver = Some r }) held (λ x e. absurd e)
    where
      held : (x : Handle) → Has (record { sender = (handles_at h n).sender; receiver = Some r }) x →
          (Has (handles_at h n) x × ((x ≡ hubs_sender → ⊥) → Ends (Subscribes start by) (Ok (NewRx r)) x → ⊥))
          ⊎ (new_handle (Ok (NewRx r)) ≡ Some x)
      held (Sender q) e = inl (e, λ own k. k)
      held (Receiver q) e = inr (ap (λ z. Some (Receiver z)) (same_Some r q e))
  subscribe-changes (Ok (NewTx t)) start by = same-held h n (Subscribes start by) (Ok (NewTx t)) (λ x e. absurd e)
  subscribe-changes (Ok events.Ended) start by = same-held h n (Subscribes start by) (Ok events.Ended) (λ x e. absurd e)
  subscribe-changes (Ok (events.Replied reply)) start by = same-held h n (Subscribes start by) (Ok (events.Replied reply)) (λ x e. absurd e)
  subscribe-changes (Err why) start by = same-held h n (Subscribes start by) (Err why) (λ x e. absurd e)

  unsubscribe-changes : (told : EventResult) (r : RxId) → (handles_at h n).receiver ≡ Some r →
      Changes h n (DropsRx r) told (kept Actions.Unsubscribe told n h)
  unsubscribe-changes (Ok outcome) r has = new-handles h n (DropsRx r) (Ok outcome)
      (record { sender = (handles_at h n).sender; receiver = None }) held (λ x e. inl (subst (Has (handles_at h n)) (sym e) has))
    where
      held : (x : Handle) → Has (record { sender = (handles_at h n).sender; receiver = None }) x →
          (Has (handles_at h n) x × ((x ≡ hubs_sender → ⊥) → Ends (DropsRx r) (Ok outcome) x → ⊥)) ⊎ (new_handle (Ok outcome) ≡ Some x)
      held (Sender q) e = inl (e, λ own k. let no : ⊥ = cc in no)
      held (Receiver q) e = absurd (none-some q e)
  unsubscribe-changes (Err why) r has = same-held h n (DropsRx r) (Err why) (λ x e. absurd e)

  resubscribe-changes : (told : EventResult) (r : RxId) → (handles_at h n).receiver ≡ Some r →
      Changes h n (Resubscribes r) told (kept Actions.Resubscribe told n h)
  resubscribe-changes (Ok (NewRx new)) r has = new-handles h n (Resubscribes r) (Ok (NewRx new))
      (record { sender = (handles_at h n).sender; receiver = Some new }) held (λ x e. inl (subst (Has (handles_at h n)) (sym e) has))
    where
      held : (x : Handle) → Has (record { sender = (handles_at h n).sender; receiver = Some new }) x →
          (Has (handles_at h n) x × ((x ≡ hubs_sender → ⊥) → Ends (Resubscribes r) (Ok (NewRx new)) x → ⊥))
          ⊎ (new_handle (Ok (NewRx new)) ≡ Some x)
      held (Sender q) e = inl (e, λ own k. let no : ⊥ = cc in no)
      held (Receiver q) e = inr (ap (λ z. Some (Receiver z)) (same_Some new q e))
  resubscribe-changes (Ok (NewTx t)) r has = same-held h n (Resubscribes r) (Ok (NewTx t)) (λ x e. absurd e)
  resubscribe-changes (Ok events.Ended) r has = same-held h n (Resubscribes r) (Ok events.Ended) (λ x e. absurd e)
  resubscribe-changes (Ok (events.Replied reply)) r has = same-held h n (Resubscribes r) (Ok (events.Replied reply)) (λ x e. absurd e)
  resubscribe-changes (Err why) r has = same-held h n (Resubscribes r) (Err why) (λ x e. absurd e)

  end-changes : (told : EventResult) → Changes h n (DropsTx Hub) told (kept Actions.End told n h)
  end-changes (Ok outcome) = same-held h n (DropsTx Hub) (Ok outcome) (λ x e. e)
  end-changes (Err why) = same-held h n (DropsTx Hub) (Err why) (λ x e. absurd e)

  module _ (told : EventResult) (event : Event) (h' : Holding) where
    own-changes : {H : Type 0} (o : Option H) (f : H → Event) → ((handle : H) → o ≡ Some handle → Changes h n (f handle) told h') →
        own o f ≡ Ok event → Changes h n event told h'
    own-changes None f c is = absurd (let no : ⊥ = cc in no)
    own-changes (Some handle) f c is = subst (λ e. Changes h n e told h') (let same : f handle ≡ event = cc in same) (c handle refl)

    unless-changes : {H : Type 0} (o : Option H) (e : Event) → Changes h n e told h' → unless_held o e ≡ Ok event →
        Changes h n event told h'
    unless-changes None e c is = subst (λ e. Changes h n e told h') (let same : e ≡ event = cc in same) c
    unless-changes (Some handle) e c is = absurd (let no : ⊥ = cc in no)

    always-changes : (e : Event) → Changes h n e told h' → always e ≡ Ok event → Changes h n event told h'
    always-changes e c is = subst (λ e. Changes h n e told h') (let same : e ≡ event = cc in same) c

  action-changes : (action : Action) (event : Event) (told : EventResult) → judged action (handles_at h n) ≡ Ok event →
      Changes h n event told (kept action told n h)
  action-changes Actions.Bind event told is = unless-changes told event (kept Actions.Bind told n h) (handles_at h n).sender Binds
      (bind-changes told) is
  action-changes Actions.Unbind event told is = own-changes told event (kept Actions.Unbind told n h) (handles_at h n).sender
      (λ t. DropsTx (Own t)) (unbind-changes told) is
  action-changes (Actions.Subscribe start) event told is =
      unless-changes told event (kept (Actions.Subscribe start) told n h) (handles_at h n).receiver
      (Subscribes start (any_sender (handles_at h n).sender)) (subscribe-changes told start (any_sender (handles_at h n).sender)) is
  action-changes Actions.Unsubscribe event told is = own-changes told event (kept Actions.Unsubscribe told n h) (handles_at h n).receiver
      (λ r. DropsRx r) (unsubscribe-changes told) is
  action-changes Actions.Resubscribe event told is = own-changes told event (kept Actions.Resubscribe told n h) (handles_at h n).receiver
      (λ r. Resubscribes r) (resubscribe-changes told) is
  action-changes (Actions.BySender verb) event told is = own-changes told event h (handles_at h n).sender (λ t. Sends t verb)
      (λ t e. same-held h n (Sends t verb) told (λ x k. absurd k)) is
  action-changes (Actions.Ask question) event told is = always-changes told event h (Asks (any_sender (handles_at h n).sender) question)
      (same-held h n (Asks (any_sender (handles_at h n).sender) question) told (λ x k. absurd k)) is
  action-changes (Actions.ByReceiver verb) event told is = own-changes told event h (handles_at h n).receiver (λ r. Receives r verb)
      (λ r e. same-held h n (Receives r verb) told (λ x k. absurd k)) is
  action-changes Actions.End event told is = always-changes told event h (DropsTx Hub) (end-changes told) is

-- scripts

abbrev RunKeeps : (limit : ℕ) → EndlessTopics → Holding → Script → Type 0
RunKeeps limit ts h s = Keeps h ts (run (endless limit) ts s).1 (run (endless limit) ts s).2

-- the same of a script that goes on at later topics
abbrev RunKeepsTo : (limit : ℕ) → EndlessTopics → Holding → EndlessTopics → Script → Type 0
RunKeepsTo limit ts h later s = Keeps h ts (run (endless limit) later s).1 (run (endless limit) later s).2

module _ (limit : ℕ) (ts : EndlessTopics) (h : Holding) (s : AreSound ts) (l : Lives ts h) where
  event-run : (action : Action) (n : ℕ) (j : Result Event Code) → judged action (handles_at h n) ≡ j →
      RunKeeps limit ts h (by_event action n h j)
  event-run action n (Err code) is = nothing-changed ts h s l
  event-run action n (Ok event) is =
      let told : EventResult = (say (endless limit) ts (On n event)).0.0 in
      subst (λ (end : Answer × Holding × EndlessTopics). Keeps h ts end.1 end.2)
      (sym (run-in-room (endless limit) ts action h (asking action h n event)))
      (event-keeps limit ts h n event (kept action told n h) s l (action-changes h n action event told is))

  if-run : (b : Bool) (x y : Script) → RunKeeps limit ts h x → RunKeeps limit ts h y → RunKeeps limit ts h (cond b x y)
  if-run true x y k m = k
  if-run false x y k m = m

  topic-run : (action : Action) (found : Option Found) → RunKeeps limit ts h (at_topic action h found)
  topic-run action None = nothing-changed ts h s l
  topic-run action (Some t) = if-run (is_for t.kind action) (acting action t.topic.0 h) (Say (Refused Codes.WrongKind) h)
      (event-run action t.topic.0 (judged action (handles_at h t.topic.0)) refl) (nothing-changed ts h s l)

  shown-run : (n : ℕ) (said : Result ChannelSegment NoEvent) (after : EndlessTopics) → Keeps h ts h after →
      RunKeepsTo limit ts h after (shown n h said)
  shown-run n (Ok segment) after k = k
  shown-run n (Err why) after k = k

  trace-run : (found : Option Found) → RunKeeps limit ts h (traced h found)
  trace-run None = nothing-changed ts h s l
  trace-run (Some t) = shown-run t.topic.0 (say (endless limit) ts (Cut t.topic.0)).0 (say (endless limit) ts (Cut t.topic.0)).1
      (asked limit ts h (Cut t.topic.0) s l (λ n x e. e))

-- spendings: what is none of these handles stays live
abbrev Leaves : (limit : ℕ) → (ℕ → Handle → Type 0) → Script → Type 0
Leaves limit Q script = (ts : EndlessTopics) → AreSound ts →
    AreSound (run (endless limit) ts script).2 × ((m : ℕ) (x : Handle) → Q m x → IsLive ts m x →
    IsLive (run (endless limit) ts script).2 m x) × ((run (endless limit) ts script).1 ≡ [])

ends-sender : (t : TxId) (told : EventResult) (x : Handle) → Ends (DropsTx (Own t)) told x → x ≡ Sender t
ends-sender t (Ok outcome) x e = e
ends-sender t (Err why) x e = absurd e

ends-receiver : (r : RxId) (told : EventResult) (x : Handle) → Ends (DropsRx r) told x → x ≡ Receiver r
ends-receiver r (Ok outcome) x e = e
ends-receiver r (Err why) x e = absurd e

module _ (limit : ℕ) (Q : ℕ → Handle → Type 0) (n : ℕ) (next : Script) (rest : Leaves limit Q next) where
  -- topic n's handle x is spent first
  spend-one : (event : Event) (x : Handle) → ((told : EventResult) (y : Handle) → Ends event told y → y ≡ x) → (Q n x → ⊥) →
      Leaves limit Q (Ask (On n event) (λ said. next))
  spend-one event x ends not ts s =
      let mid : EndlessTopics = (say (endless limit) ts (On n event)).1 in
      let later = rest mid (sound_after limit ts (On n event) s) in (
        later.0,
        λ m y q live. later.1 m y q (handles_stay_live limit ts (On n event) m y s.proper
            (λ e. not (subst (λ k. Q k x) e.0 (subst (Q m) (ends (say (endless limit) ts (On n event)).0.0 y e.1) q))) live),
        later.2,
      )

  sender-leaves : (o : Option TxId) → ((t : TxId) → o ≡ Some t → Q n (Sender t) → ⊥) → Leaves limit Q (spend_sender n o next)
  sender-leaves None not = rest
  sender-leaves (Some t) not = spend-one (DropsTx (Own t)) (Sender t) (ends-sender t) (not t refl)

  receiver-leaves : (o : Option RxId) → ((r : RxId) → o ≡ Some r → Q n (Receiver r) → ⊥) → Leaves limit Q (spend_receiver n o next)
  receiver-leaves None not = rest
  receiver-leaves (Some r) not = spend-one (DropsRx r) (Receiver r) (ends-receiver r) (not r refl)

-- not held
abbrev IsNotHeld : Holding → ℕ → Handle → Type 0
IsNotHeld h m x = Has (handles_at h m) x → ⊥

own-first : (n : ℕ) (s : Handles TxId RxId) (h : Holding) → handles_at ((n, s) ∷ h) n ≡ s
own-first n s h = ap (λ b. unwrap_or (cond b (Some s) (handles_of h n)) nothing) (is_at_self n)

-- what the first entry's actor does not hold, the rest has not either
not-in-rest : (n : ℕ) (s : Handles TxId RxId) (h : Holding) → AllByRecursion (λ k. n < k) (keys_of h) → (m : ℕ) (x : Handle) →
    IsNotHeld ((n, s) ∷ h) m x → IsNotHeld h m x
not-in-rest n s h above m x not has = elim (eqb_tells m n) [
  | inl e ↦ has-nothing x (subst (λ handles. Has handles x) (ap (handles_at h) e.1 ∙ ap (λ o. unwrap_or o nothing) (lookup-below h n above))
      has)
  | inr ne ↦ not (subst (λ handles. Has handles x) (ap (λ b. unwrap_or (cond b (Some s) (handles_of h m)) nothing) (sym (not_at m n ne.1)))
      has)
]

all-leaves : (limit : ℕ) (h : Holding) → IsRising (keys_of h) → Leaves limit (IsNotHeld h) (spend_all h)
all-leaves limit [] r = λ ts s. (s, λ m x q live. live, refl)
all-leaves limit ((n, handles) ∷ h) r =
    sender-leaves limit (IsNotHeld ((n, handles) ∷ h)) n (spend_receiver n handles.receiver (spend_all h))
    (receiver-leaves limit (IsNotHeld ((n, handles) ∷ h)) n (spend_all h)
    (λ ts s. let later = all-leaves limit h r.1 ts s in (
      later.0,
      λ m x q live. later.1 m x (not-in-rest n handles h r.0 m x
          q) live,
      later.2,
    ))
    handles.receiver (λ q e not. not (ap (λ s. s.receiver) (own-first n handles h) ∙ e)))
    handles.sender (λ t e not. not (ap (λ s. s.sender) (own-first n handles h) ∙ e))

pub lives-nothing : (ts : EndlessTopics) (h : Holding) → h ≡ [] → Lives ts h
lives-nothing ts h e = subst (Lives ts) (sym e) (record {
  rising = tt;
  live = λ n x has. absurd (has-nothing x has);
  own = λ n x has. absurd (has-nothing x has);
})

quit-run : (limit : ℕ) (ts : EndlessTopics) (h : Holding) → AreSound ts → Lives ts h → RunKeeps limit ts h (spend_all h)
quit-run limit ts h s l =
    let later = all-leaves limit h l.rising ts s in
    record {
      sound = later.0;
      lives = lives-nothing (run (endless limit) ts (spend_all h)).2 (run (endless limit) ts (spend_all h)).1 later.2;
      others = λ n x o. record {
        live = later.1 n x o.apart o.live;
        own = o.own;
        apart = λ has. has-nothing x (subst (λ held. Has (handles_at held n) x) later.2 has);
      };
    }

pub command_keeps : (limit : ℕ) (ts : EndlessTopics) (h : Holding) (command : Command) → AreSound ts → Lives ts h →
    RunKeeps limit ts h (script h command)
command_keeps limit ts h (Commands.Open name making) s l = asked limit ts h (Open name making) s l (λ n x e. e)
command_keeps limit ts h (Commands.On name action) s l = topic-run limit ts h s l action (find ts name)
command_keeps limit ts h (Commands.Trace name) s l = trace-run limit ts h s l (find ts name)
command_keeps limit ts h Commands.List s l = asked limit ts h hub.List s l (λ n x e. e)
command_keeps limit ts h Commands.Quit s l = quit-run limit ts h s l

-- Where a channel refuses a call by its rules, it stays as it is.
use Rattle.std.proofs.Common.{◌≡◌, ℕ, ◌+◌, ◌-◌, ◌≤◌, ◌^◌, Bool, true, false, cond, List, [], ◌∷◌, length, Option, Some, None, refl, sym, ap, ◌∙◌, arith}
use Rattle.std.specs.Prelude.{◌==◌, slice_get, nat_lt}
use Rattle.th_model.specs.declared.handles.RxId.{RxId}
use Rattle.th_model.specs.declared.handles.TxId.{TxId}
use Rattle.th_model.specs.declared.broadcast.BCall.TheVariants as b
use Rattle.th_model.specs.declared.broadcast.BReply.{BReply}
use Rattle.th_model.specs.declared.watch.Edit.TheVariants.{Set, Differ, Quiet}
use Rattle.th_model.specs.declared.watch.WCall.TheVariants as w
use Rattle.th_model.specs.declared.watch.WReply.{WReply}
use Rattle.th_model.specs.declared.watch.WReply.TheVariants.{Modified, Shown, Was, Done}
use Rattle.th_model.specs.Handles.{is_sender, is_full}
use Rattle.th_model.specs.Places.{place_of}
use Rattle.th_model.specs.Window.{first_of, placed}
use Rattle.th_model.specs.BroadcastMachine.{value_reply}
use Rattle.th_model.specs.BroadcastPicture as broadcast
use Rattle.th_model.specs.WatchMachine.{reader_of}
use Rattle.th_model.specs.WatchPicture as watch
use Rattle.th_model.proofs.BroadcastProperness.{cond_case}
use Rattle.th_c.specs.declared.status.TheConstants.{NO_RECEIVERS}
use Rattle.th_c.specs.Broadcast as of_broadcast
use Rattle.th_c.specs.Watch as of_watch
use Rattle.th_c.specs.Statuses.{BroadcastRefusesUnchanged, WatchRefusesUnchanged}

module _ {T : Type 0} (p : broadcast.Picture T) where
  abbrev Stays : BReply T × broadcast.Picture T → Type 0
  Stays a = NO_RECEIVERS ≤ of_broadcast.status_of a.0 → a.1 ≡ p

  by_sender : (tx : TxId) (back : Option T) (given : BReply T × broadcast.Picture T) → Stays given
      → Stays (broadcast.as_sender p tx back given)
  by_sender tx back given h = cond_case Stays (is_sender p.senders tx.0) _ _ (λ _. h) (λ _ le. refl)

  by_receiver : (rx : RxId) (given : ℕ → BReply T × broadcast.Picture T) → ((i : ℕ) → Stays (given i))
      → Stays (broadcast.as_receiver p rx given)
  by_receiver rx given h = elim (place_of p.window.places rx.0) as (λ o. Stays (broadcast.at_place p o given)) [
    | None ↦ λ le. refl
    | Some i ↦ h i
  ]

  receives : (rx i : ℕ) → Stays (broadcast.receive p rx i)
  receives rx i = cond_case Stays (i == p.window.tail) _ _ (λ _ le. refl)
      (λ _. cond_case Stays (nat_lt i (first_of p.window)) _ _ (λ _ le. absurd (omega (arith, le)))
      (λ _. reads (slice_get p.window.kept (i - p.window.low))))
    where
      reads : (o : Option T) → Stays (value_reply o, broadcast.with_window p (placed p.window rx (i + 1)))
      reads None le = absurd (omega (arith, le))
      reads (Some v) le = absurd (omega (arith, le))

  joins : (i : ℕ) → Stays (broadcast.subscribe_at p i)
  joins i = cond_case Stays (is_full (length p.window.places) p.next) _ _ (λ _ le. refl) (λ _ le. absurd (omega (arith, le)))

  clones : Stays (broadcast.clone_sender p)
  clones = cond_case Stays (is_full (length p.senders) p.next) _ _ (λ _ le. refl) (λ _ le. absurd (omega (arith, le)))

pub broadcast_refusals : {T : Type 0} → BroadcastRefusesUnchanged T
broadcast_refusals p (b.Send tx v) = by_sender p tx (Some v) _ (cond_case (Stays p) (length p.window.places == 0) _ _ (λ _ le. refl)
    (λ _. cond_case (Stays p) (p.window.tail == 2 ^ 64 - 1) _ _ (λ _ le. refl) (λ _ le. absurd (omega (arith, le)))))
broadcast_refusals p (b.TryRecv rx) = by_receiver p rx (broadcast.receive p rx.0) (receives p rx.0)
broadcast_refusals p (b.Recv rx) = by_receiver p rx (broadcast.receive p rx.0) (receives p rx.0)
broadcast_refusals p (b.Subscribe tx) = by_sender p tx None _ (joins p p.window.tail)
broadcast_refusals p (b.SubscribeOldest tx) = by_sender p tx None _ (joins p p.window.low)
broadcast_refusals p (b.Resubscribe rx) = by_receiver p rx _ (λ _. joins p p.window.tail)
broadcast_refusals p (b.CloneTx tx) = by_sender p tx None _ (clones p)
broadcast_refusals p (b.DropTx tx) = by_sender p tx None _ (λ le. absurd (omega (arith, le)))
broadcast_refusals p (b.DropRx rx) = by_receiver p rx _ (λ _ le. absurd (omega (arith, le)))
broadcast_refusals p (b.Queued tx) = by_sender p tx None _ (λ le. refl)
broadcast_refusals p (b.Left rx) = by_receiver p rx _ (λ _ le. refl)
broadcast_refusals p (b.Readers tx) = by_sender p tx None _ (λ le. refl)

module _ {T : Type 0} (p : watch.Picture T) where
  abbrev Keeps : WReply T × watch.Picture T → Type 0
  Keeps a = NO_RECEIVERS ≤ of_watch.status_of a.0 → a.1 ≡ p

  of_sender : (tx : TxId) (back : Option T) (given : WReply T × watch.Picture T) → Keeps given
      → Keeps (watch.as_sender p tx back given)
  of_sender tx back given h = cond_case Keeps (is_sender p.senders tx.0) _ _ (λ _. h) (λ _ le. refl)

  of_reader : (rx : RxId) (given : Bool → WReply T × watch.Picture T) → ((u : Bool) → Keeps (given u))
      → Keeps (watch.as_reader p rx given)
  of_reader rx given h = elim (reader_of p.readers rx.0) as (λ o. Keeps (watch.at_reader p o given)) [
    | None ↦ λ le. refl
    | Some u ↦ h u
  ]

  publishes : (v : T) (reply : WReply T) → (NO_RECEIVERS ≤ of_watch.status_of reply → ⊥) → Keeps (watch.publish p v reply)
  publishes v reply few = cond_case Keeps (p.version == 2 ^ 64 - 1) _ _ (λ _ le. refl) (λ _ le. absurd (few le))

  marks : (rx : ℕ) (u : Bool) → Keeps (watch.changed p rx u)
  marks rx true le = absurd (omega (arith, le))
  marks rx false le = refl

  shows : (rx : ℕ) (u : Bool) → Keeps (Shown p.last u, watch.marked p rx false)
  shows rx true le = absurd (omega (arith, le))
  shows rx false le = absurd (omega (arith, le))

  reader_joins : (u : Bool) → Keeps (watch.subscribe p u)
  reader_joins u = cond_case Keeps (is_full (length p.readers) p.next) _ _ (λ _ le. refl) (λ _ le. absurd (omega (arith, le)))

  sender_joins : Keeps (watch.clone_sender p)
  sender_joins = cond_case Keeps (is_full (length p.senders) p.next) _ _ (λ _ le. refl) (λ _ le. absurd (omega (arith, le)))

pub watch_refusals : {T : Type 0} → WatchRefusesUnchanged T
watch_refusals eq p (w.Send tx v) = of_sender p tx (Some v) _ (cond_case (Keeps p) (length p.readers == 0) _ _ (λ _ le. refl)
    (λ _. publishes p v Done (λ le. omega (arith, le))))
watch_refusals eq p (w.Replace tx v) = of_sender p tx (Some v) _ (publishes p v (Was p.last) (λ le. omega (arith, le)))
watch_refusals eq p (w.EditBy tx (Set v)) = of_sender p tx (Some v) _ (publishes p v (Modified true) (λ le. omega (arith, le)))
watch_refusals eq p (w.EditBy tx (Differ v)) = of_sender p tx (Some v) _ (cond_case (Keeps p) (eq v p.last) _ _ (λ _ le. refl)
    (λ _. publishes p v (Modified true) (λ le. omega (arith, le))))
watch_refusals eq p (w.EditBy tx (Quiet v)) = of_sender p tx (Some v) _ (λ le. absurd (omega (arith, le)))
watch_refusals eq p (w.Borrow rx) = of_reader p rx _ (λ _ le. refl)
watch_refusals eq p (w.Take rx) = of_reader p rx _ (shows p rx.0)
watch_refusals eq p (w.HasChanged rx) = of_reader p rx _ (λ _ le. refl)
watch_refusals eq p (w.TryChanged rx) = of_reader p rx (watch.changed p rx.0) (marks p rx.0)
watch_refusals eq p (w.Changed rx) = of_reader p rx (watch.changed p rx.0) (marks p rx.0)
watch_refusals eq p (w.MarkChanged rx) = of_reader p rx _ (λ _ le. absurd (omega (arith, le)))
watch_refusals eq p (w.MarkUnchanged rx) = of_reader p rx _ (λ _ le. absurd (omega (arith, le)))
watch_refusals eq p (w.Subscribe tx) = of_sender p tx None _ (reader_joins p false)
watch_refusals eq p (w.CloneRx rx) = of_reader p rx _ (reader_joins p)
watch_refusals eq p (w.CloneTx tx) = of_sender p tx None _ (sender_joins p)
watch_refusals eq p (w.DropTx tx) = of_sender p tx None _ (λ le. absurd (omega (arith, le)))
watch_refusals eq p (w.DropRx rx) = of_reader p rx _ (λ _ le. absurd (omega (arith, le)))
watch_refusals eq p (w.IsClosed tx) = of_sender p tx None _ (λ le. refl)
watch_refusals eq p (w.Readers tx) = of_sender p tx None _ (λ le. refl)

-- The handles of a watch channel that are live after a call.
use Rattle.std.proofs.Common.{◌≡◌, ℕ, ◌-◌, ◌^◌, Bool, true, false, eqb, List, length, Option, Some, None, refl, sym, subst, ◌∙◌}
use Rattle.std.specs.Prelude.{is_some}
use Rattle.std.proofs.lemmas.Bool.{false≢true}
use Rattle.th_model.specs.declared.handles.TxId.{TxId}
use Rattle.th_model.specs.declared.handles.RxId.{RxId}
use Rattle.th_model.specs.declared.watch.Edit.{Edit}
use Rattle.th_model.specs.declared.watch.Edit.TheVariants.{Set, Differ, Quiet}
use Rattle.th_model.specs.declared.watch.WCall.{WCall}
use Rattle.th_model.specs.declared.watch.WCall.TheVariants.{Send, Replace, EditBy, Borrow, Take, HasChanged, TryChanged, Changed, MarkChanged, MarkUnchanged, Subscribe, CloneRx, CloneTx, DropTx, DropRx, IsClosed, Readers}
use Rattle.th_model.specs.declared.watch.WReply.{WReply}
use Rattle.th_model.specs.declared.watch.WReply.TheVariants.{Done, Was, NotYet, Closed, NewRx, NewTx, NoHandle}
use Rattle.th_model.specs.declared.watch.WReply.TheVariants as reply
use Rattle.th_model.specs.Handles.{is_sender, is_full}
use Rattle.th_model.specs.WatchMachine.{reader_of, Endless, version_of, is_unseen, with_version, open_reply, publish, send, edit, changed, subscribe, clone_sender, as_sender, at_mark, as_reader, IsProper, step}
use Rattle.th_model.proofs.WatchProperness.{cond_case}
use Rattle.th_registry.specs.Live.{Handle, Sender, Receiver}
use Rattle.th_registry.proofs.LiveNumbers.{Numbers, Follows, Goes, lives, stands, moves, drops, leaves, clones, joins}

abbrev pub made_by : {T : Type 0} → WReply T → Option Handle
made_by (NewTx t) = Some (Sender t)
made_by (NewRx r) = Some (Receiver r)
made_by reply = None

abbrev pub no_handle : {T : Type 0} → WReply T → Bool
no_handle (NoHandle v) = true
no_handle reply = false

-- the handle by which a call is made, and the one that it spends
abbrev pub speaker : {T : Type 0} → WCall T → Handle
speaker (Send tx v) = Sender tx
speaker (Replace tx v) = Sender tx
speaker (EditBy tx w) = Sender tx
speaker (Borrow r) = Receiver r
speaker (Take r) = Receiver r
speaker (HasChanged r) = Receiver r
speaker (TryChanged r) = Receiver r
speaker (Changed r) = Receiver r
speaker (MarkChanged r) = Receiver r
speaker (MarkUnchanged r) = Receiver r
speaker (Subscribe tx) = Sender tx
speaker (CloneRx r) = Receiver r
speaker (CloneTx tx) = Sender tx
speaker (DropTx tx) = Sender tx
speaker (DropRx r) = Receiver r
speaker (IsClosed tx) = Sender tx
speaker (Readers tx) = Sender tx

abbrev pub Spends : {T : Type 0} → WCall T → Handle → Type 0
Spends (DropTx tx) x = x ≡ Sender tx
Spends (DropRx r) x = x ≡ Receiver r
Spends call x = ⊥

abbrev pub numbers : {T : Type 0} → Endless T → Numbers
numbers e = record { next = e.next; senders = e.senders; places = e.marks }

module _ {T : Type 0} where
  open-made : (senders : List ℕ) (r : WReply T) → made_by r ≡ None → made_by (open_reply senders r) ≡ None
  open-made senders r h = cond_case (λ x. made_by {T = T} x ≡ None) (eqb (length senders) 0) Closed r (λ _. refl) (λ _. h)

  open-known : (senders : List ℕ) (r : WReply T) → no_handle r ≡ false → no_handle (open_reply senders r) ≡ false
  open-known senders r h = cond_case (λ x. no_handle {T = T} x ≡ false) (eqb (length senders) 0) Closed r (λ _. refl) (λ _. h)

module _ {T : Type 0} (e : Endless T) (s : IsProper e) (gone : Handle → Type 0) where
  abbrev LeadsOn : WReply T × Endless T → Type 0
  LeadsOn x = Follows (numbers e) gone (made_by x.0) (numbers x.1)

  same : LeadsOn (Done, e)
  same = stands (numbers e) gone

  without_new : (r : WReply T) (f : Endless T) → made_by r ≡ None → Goes (numbers e) gone (numbers f) → LeadsOn (r, f)
  without_new r f none g = subst (λ m. Follows (numbers e) gone m (numbers f)) (sym none) g

  by_sender : (tx : TxId) (back : Option T) (given : WReply T × Endless T) → LeadsOn given → LeadsOn (as_sender e tx back given)
  by_sender tx back given h = cond_case LeadsOn (is_sender e.senders tx.0) _ _ (λ _. h) (λ _. same)

  by_reader : (r : RxId) (given : ℕ → WReply T × Endless T) → ((m : ℕ) → LeadsOn (given m)) → LeadsOn (as_reader e r given)
  by_reader r given h = elim (reader_of e.marks r.0) as (λ o. LeadsOn (at_mark e o given)) [ None ↦ same | Some m ↦ h m ]

  publishes : (v : T) (r : WReply T) → made_by r ≡ None → LeadsOn (publish e v r)
  publishes v r h = cond_case LeadsOn (eqb (version_of e) (2 ^ 64 - 1)) _ _ (λ _. same) (λ _. without_new r (with_version e v) h same)

  edits : (eq : T → T → Bool) (w : Edit T) → LeadsOn (edit eq e w)
  edits eq (Set v) = publishes v _ refl
  edits eq (Differ v) = cond_case LeadsOn (eq v e.last) _ _ (λ _. same) (λ _. publishes v _ refl)
  edits eq (Quiet v) = same

  changes : (r m : ℕ) → LeadsOn (changed e r m)
  changes r m = cond_case LeadsOn (is_unseen e m) _ _ (λ _. moves (numbers e) gone r _)
      (λ _. without_new (open_reply e.senders NotYet) e (open-made e.senders NotYet refl) same)

  subscribes : (mark : ℕ) → LeadsOn (subscribe e mark)
  subscribes mark = cond_case LeadsOn (is_full (length e.marks) e.next) _ _ (λ _. same) (λ _. joins (numbers e) gone s.handles mark)

  clones_sender : LeadsOn (clone_sender e)
  clones_sender = cond_case LeadsOn (is_full (length e.senders) e.next) _ _ (λ _. same) (λ _. clones (numbers e) gone s.handles)

-- one call
module _ {T : Type 0} (eq : T → T → Bool) (e : Endless T) (gone : Handle → Type 0) (s : IsProper e) where
  pub call_follows : (call : WCall T) → ((x : Handle) → Spends call x → gone x) →
      Follows (numbers e) gone (made_by (step eq e call).0) (numbers (step eq e call).1)
  call_follows (Send tx v) ends = by_sender e s gone tx (Some v) (send e v)
      (cond_case (LeadsOn e s gone) (eqb (length e.marks) 0) _ _ (λ _. stands (numbers e) gone) (λ _. publishes e s gone v Done refl))
  call_follows (Replace tx v) ends = by_sender e s gone tx (Some v) _ (publishes e s gone v (Was e.last) refl)
  call_follows (EditBy tx w) ends = by_sender e s gone tx _ (edit eq e w) (edits e s gone eq w)
  call_follows (Borrow r) ends = by_reader e s gone r _ (λ _. stands (numbers e) gone)
  call_follows (Take r) ends = by_reader e s gone r _ (λ _. moves (numbers e) gone r.0 (version_of e))
  call_follows (HasChanged r) ends = by_reader e s gone r _
      (λ m. without_new e s gone (open_reply e.senders (reply.Changed (is_unseen e m))) e
      (open-made e.senders (reply.Changed (is_unseen e m)) refl) (stands (numbers e) gone))
  call_follows (TryChanged r) ends = by_reader e s gone r (changed e r.0) (changes e s gone r.0)
  call_follows (Changed r) ends = by_reader e s gone r (changed e r.0) (changes e s gone r.0)
  call_follows (MarkChanged r) ends = by_reader e s gone r _ (λ _. moves (numbers e) gone r.0 0)
  call_follows (MarkUnchanged r) ends = by_reader e s gone r _ (λ _. moves (numbers e) gone r.0 (version_of e))
  call_follows (Subscribe tx) ends = by_sender e s gone tx None (subscribe e (version_of e)) (subscribes e s gone (version_of e))
  call_follows (CloneRx r) ends = by_reader e s gone r (subscribe e) (subscribes e s gone)
  call_follows (CloneTx tx) ends = by_sender e s gone tx None (clone_sender e) (clones_sender e s gone)
  call_follows (DropTx tx) ends = by_sender e s gone tx None _ (drops (numbers e) gone tx (ends (Sender tx) refl))
  call_follows (DropRx r) ends = by_reader e s gone r _ (λ _. leaves (numbers e) gone r (ends (Receiver r) refl))
  call_follows (IsClosed tx) ends = by_sender e s gone tx None _ (stands (numbers e) gone)
  call_follows (Readers tx) ends = by_sender e s gone tx None _ (stands (numbers e) gone)

-- a call by a live handle is not answered that there is none
module _ {T : Type 0} (eq : T → T → Bool) (e : Endless T) where
  abbrev IsKnown : WReply T × Endless T → Type 0
  IsKnown x = no_handle x.0 ≡ false

  known_sender : (tx : TxId) (back : Option T) (given : WReply T × Endless T) → is_sender e.senders tx.0 ≡ true → IsKnown given →
      IsKnown (as_sender e tx back given)
  known_sender tx back given live h = cond_case IsKnown (is_sender e.senders tx.0) _ _ (λ _. h) (λ no. absurd (false≢true (sym no ∙ live)))

  known_reader : (r : RxId) (given : ℕ → WReply T × Endless T) → is_some (reader_of e.marks r.0) ≡ true → ((m : ℕ) → IsKnown (given m)) →
      IsKnown (as_reader e r given)
  known_reader r given live h = elim (reader_of e.marks r.0) as (λ o. is_some o ≡ true → IsKnown (at_mark e o given))
      [ None ↦ λ no. absurd (false≢true no) | Some m ↦ λ _. h m ] live

  known_publish : (v : T) (r : WReply T) → no_handle r ≡ false → IsKnown (publish e v r)
  known_publish v r h = cond_case IsKnown (eqb (version_of e) (2 ^ 64 - 1)) _ _ (λ _. refl) (λ _. h)

  known_edit : (w : Edit T) → IsKnown (edit eq e w)
  known_edit (Set v) = known_publish v _ refl
  known_edit (Differ v) = cond_case IsKnown (eq v e.last) _ _ (λ _. refl) (λ _. known_publish v _ refl)
  known_edit (Quiet v) = refl

  known_changed : (r m : ℕ) → IsKnown (changed e r m)
  known_changed r m = cond_case IsKnown (is_unseen e m) _ _ (λ _. refl) (λ _. open-known e.senders NotYet refl)

  known_subscribe : (mark : ℕ) → IsKnown (subscribe e mark)
  known_subscribe mark = cond_case IsKnown (is_full (length e.marks) e.next) _ _ (λ _. refl) (λ _. refl)

  pub call_known : (call : WCall T) → lives (numbers e) (speaker call) ≡ true → no_handle (step eq e call).0 ≡ false
  call_known (Send tx v) h =
      known_sender tx (Some v) (send e v) h (cond_case IsKnown (eqb (length e.marks) 0) _ _ (λ _. refl) (λ _. known_publish v Done refl))
  call_known (Replace tx v) h = known_sender tx (Some v) _ h (known_publish v (Was e.last) refl)
  call_known (EditBy tx w) h = known_sender tx _ (edit eq e w) h (known_edit w)
  call_known (Borrow r) h = known_reader r _ h (λ _. refl)
  call_known (Take r) h = known_reader r _ h (λ _. refl)
  call_known (HasChanged r) h = known_reader r _ h (λ m. open-known e.senders (reply.Changed (is_unseen e m)) refl)
  call_known (TryChanged r) h = known_reader r (changed e r.0) h (known_changed r.0)
  call_known (Changed r) h = known_reader r (changed e r.0) h (known_changed r.0)
  call_known (MarkChanged r) h = known_reader r _ h (λ _. refl)
  call_known (MarkUnchanged r) h = known_reader r _ h (λ _. refl)
  call_known (Subscribe tx) h = known_sender tx None (subscribe e (version_of e)) h (known_subscribe (version_of e))
  call_known (CloneRx r) h = known_reader r (subscribe e) h known_subscribe
  call_known (CloneTx tx) h =
      known_sender tx None (clone_sender e) h (cond_case IsKnown (is_full (length e.senders) e.next) _ _ (λ _. refl) (λ _. refl))
  call_known (DropTx tx) h = known_sender tx None _ h refl
  call_known (DropRx r) h = known_reader r _ h (λ _. refl)
  call_known (IsClosed tx) h = known_sender tx None _ h refl
  call_known (Readers tx) h = known_sender tx None _ h refl

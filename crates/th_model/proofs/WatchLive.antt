-- How many handles of a watch channel are live after a call.
use Rattle.std.proofs.Common.{◌≡◌, ℕ, ◌+◌, ◌-◌, ◌<◌, ◌≤◌, ◌^◌, Bool, true, false, cond, [], ◌∷◌, length, map, Option, Some, None, IsSome, refl, ap, subst, arith}
use Rattle.std.specs.Prelude.{eqb}
use Rattle.std.proofs.lemmas.Map.Entries.{length-keys_of}
use Rattle.th_model.specs.Handles.{is_sender, is_full}
use Rattle.th_model.specs.declared.watch.Edit.{Edit}
use Rattle.th_model.specs.declared.watch.Edit.TheVariants.{Set, Differ, Quiet}
use Rattle.th_model.specs.declared.watch.WCall.{WCall}
use Rattle.th_model.specs.declared.watch.WCall.TheVariants.{Send, Replace, EditBy, Borrow, Take, HasChanged, TryChanged, Changed, MarkChanged, MarkUnchanged, Subscribe, CloneRx, CloneTx, DropTx, DropRx, IsClosed, Readers}
use Rattle.th_model.specs.declared.watch.WReply.{WReply}
use Rattle.th_model.specs.WatchMachine.{Kept, reader_of}
use Rattle.th_model.specs.WatchPicture.{Picture, IsSound, at_reader, unseen, marked, publish, edit, changed, subscribe, answer}
use Rattle.th_model.specs.Live.{live_watchers, TakesNone, if_there}
use Rattle.th_model.specs.WatchLive.{one_more, live_then}
use Rattle.th_model.proofs.LiveCounts.{length-cloned, length-dropped, entry-joined, entry-moved, entry-left}

length-unseen : (rs : Kept Bool) → length (map unseen rs) ≡ length rs
length-unseen [] = refl
length-unseen (r ∷ rs) = omega (arith, length-unseen rs)

module _ {T : Type 0} where
  cases : (b : Bool) (x y : WReply T × Picture T) (n m : ℕ) → (b ≡ true → live_watchers x.1 ≡ n) → (b ≡ false → live_watchers y.1 ≡ m) →
      live_watchers (cond b x y).1 ≡ cond b n m
  cases true x y n m h k = h refl
  cases false x y n m h k = k refl

  same : (b : Bool) (x y : WReply T × Picture T) (n : ℕ) → (b ≡ true → live_watchers x.1 ≡ n) → (b ≡ false → live_watchers y.1 ≡ n) →
      live_watchers (cond b x y).1 ≡ n
  same true x y n h k = h refl
  same false x y n h k = k refl

  there : (p : Picture T) (o : Option Bool) (given : Bool → WReply T × Picture T) (n : ℕ) →
      ((u : Bool) → o ≡ Some u → live_watchers (given u).1 ≡ n) → live_watchers (at_reader p o given).1 ≡ if_there o n (live_watchers p)
  there p None given n h = refl
  there p (Some u) given n h = h u refl

  there-same : (p : Picture T) (o : Option Bool) (given : Bool → WReply T × Picture T) →
      ((u : Bool) → o ≡ Some u → live_watchers (given u).1 ≡ live_watchers p) → live_watchers (at_reader p o given).1 ≡ live_watchers p
  there-same p None given h = refl
  there-same p (Some u) given h = h u refl

  module _ (p : Picture T) (s : IsSound p) where
    published : (v : T) (r : WReply T) → live_watchers (publish p v r).1 ≡ live_watchers p
    published v r = same (eqb p.version (2 ^ 64 - 1)) _ _ _ (λ _. refl) (λ _. ap (λ n. length p.senders + n) (length-unseen p.readers))

    edited : (eq : T → T → Bool) (w : Edit T) → live_watchers (edit eq p w).1 ≡ live_watchers p
    edited eq (Set v) = published v _
    edited eq (Differ v) = same (eq v p.last) _ _ _ (λ _. refl) (λ _. published v _)
    edited eq (Quiet v) = refl

    moved : (rx : ℕ) (u w : Bool) → reader_of p.readers rx ≡ Some u → live_watchers (marked p rx w) ≡ live_watchers p
    moved rx u w is =
        let here : IsSome (reader_of p.readers rx) = rw is refl in
        ap (λ n. length p.senders + n) (entry-moved p.next p.senders p.readers rx w s.handles here)

    joined : (w : Bool) → live_watchers (subscribe p w).1 ≡ one_more p (length p.readers)
    joined w = cases (is_full (length p.readers) p.next) _ _ _ _ (λ _. refl)
        (λ _. omega (arith, entry-joined p.next p.senders p.readers w s.handles))

    changes : (rx : ℕ) (u : Bool) → reader_of p.readers rx ≡ Some u → live_watchers (changed p rx u).1 ≡ live_watchers p
    changes rx u is = same u _ _ _ (λ _. moved rx u false is) (λ _. refl)

    pub live_after : (eq : T → T → Bool) (call : WCall T) → live_watchers (answer eq p call).1 ≡ live_then p call
    live_after eq (Send tx v) =
        same (is_sender p.senders tx.0) _ _ _ (λ _. same (eqb (length p.readers) 0) _ _ _ (λ _. refl) (λ _. published v _)) (λ _. refl)
    live_after eq (Replace tx v) = same (is_sender p.senders tx.0) _ _ _ (λ _. published v _) (λ _. refl)
    live_after eq (EditBy tx w) = same (is_sender p.senders tx.0) _ _ _ (λ _. edited eq w) (λ _. refl)
    live_after eq (Borrow rx) = there-same p (reader_of p.readers rx.0) _ (λ u is. refl)
    live_after eq (Take rx) = there-same p (reader_of p.readers rx.0) _ (λ u is. moved rx.0 u false is)
    live_after eq (HasChanged rx) = there-same p (reader_of p.readers rx.0) _ (λ u is. refl)
    live_after eq (TryChanged rx) = there-same p (reader_of p.readers rx.0) _ (λ u is. changes rx.0 u is)
    live_after eq (Changed rx) = there-same p (reader_of p.readers rx.0) _ (λ u is. changes rx.0 u is)
    live_after eq (MarkChanged rx) = there-same p (reader_of p.readers rx.0) _ (λ u is. moved rx.0 u true is)
    live_after eq (MarkUnchanged rx) = there-same p (reader_of p.readers rx.0) _ (λ u is. moved rx.0 u false is)
    live_after eq (Subscribe tx) = cases (is_sender p.senders tx.0) _ _ _ _ (λ _. joined false) (λ _. refl)
    live_after eq (CloneRx rx) = there p (reader_of p.readers rx.0) _ _ (λ u is. joined u)
    live_after eq (CloneTx tx) = cases (is_sender p.senders tx.0) _ _ _ _
        (λ _. cases (is_full (length p.senders) p.next) _ _ _ _ (λ _. refl)
        (λ _. omega (arith, length-cloned p.next p.senders _ s.handles))) (λ _. refl)
    live_after eq (DropTx tx) = cases (is_sender p.senders tx.0) _ _ _ _ (λ is. omega (arith, length-dropped p.senders tx.0 is)) (λ _. refl)
    live_after eq (DropRx rx) = there p (reader_of p.readers rx.0) _ _ (λ u is. omega (arith, entry-left p.readers rx.0 u is))
    live_after eq (IsClosed tx) = same (is_sender p.senders tx.0) _ _ _ (λ _. refl) (λ _. refl)
    live_after eq (Readers tx) = same (is_sender p.senders tx.0) _ _ _ (λ _. refl) (λ _. refl)

    pub few_live : live_watchers p ≤ 131070
    few_live = omega (arith, s.handles.by_sender.few, few-readers)
      where
        few-readers : length p.readers ≤ 65535
        few-readers = omega (arith, s.handles.by_receiver.few, length-keys_of p.readers)

    not_more : (b : Bool) → cond b (live_watchers p) (live_watchers p + 1) < live_watchers p → ⊥
    not_more true h = omega arith
    not_more false h = omega arith

    not_less : (b : Bool) (n : ℕ) → (n < live_watchers p → ⊥) → cond b n (live_watchers p) < live_watchers p → ⊥
    not_less true n k h = k h
    not_less false n k h = omega arith

    not_there : (o : Option Bool) (n : ℕ) → (n < live_watchers p → ⊥) → if_there o n (live_watchers p) < live_watchers p → ⊥
    not_there None n k h = omega arith
    not_there (Some u) n k h = k h

    spent : (call : WCall T) → live_then p call < live_watchers p → TakesNone call
    spent (Send tx v) h = absurd (omega (arith, h))
    spent (Replace tx v) h = absurd (omega (arith, h))
    spent (EditBy tx w) h = absurd (omega (arith, h))
    spent (Borrow rx) h = absurd (omega (arith, h))
    spent (Take rx) h = absurd (omega (arith, h))
    spent (Subscribe tx) h = absurd (not_less (is_sender p.senders tx.0) _ (not_more _) h)
    spent (CloneRx rx) h = absurd (not_there (reader_of p.readers rx.0) _ (not_more _) h)
    spent (CloneTx tx) h = absurd (not_less (is_sender p.senders tx.0) _ (not_more _) h)
    spent (HasChanged rx) h = (tt, tt)
    spent (TryChanged rx) h = (tt, tt)
    spent (Changed rx) h = (tt, tt)
    spent (MarkChanged rx) h = (tt, tt)
    spent (MarkUnchanged rx) h = (tt, tt)
    spent (DropTx tx) h = (tt, tt)
    spent (DropRx rx) h = (tt, tt)
    spent (IsClosed tx) h = (tt, tt)
    spent (Readers tx) h = (tt, tt)

    -- a call that spends a handle takes no memory
    pub spends : (eq : T → T → Bool) (call : WCall T) → live_watchers (answer eq p call).1 < live_watchers p → TakesNone call
    spends eq call h = spent call (subst (λ n. n < live_watchers p) (live_after eq call) h)

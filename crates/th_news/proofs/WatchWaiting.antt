-- A reader that waits goes on waiting until there is news.
use Rattle.std.proofs.Common.{◌≡◌, ◌≢◌, ℕ, ◌-◌, ◌^◌, ◌<◌, Bool, true, false, cond, eqb, length, List, [], ◌∷◌, Option, Some, None, refl, sym, ap, subst, ◌∙◌, arith}
use Rattle.std.specs.Ordering.{is_eq, match_ordering, nat_cmp}
use Rattle.std.specs.declared.cmp.Ordering.TheVariants.{Less, Equal, Greater}
use Rattle.std.specs.List.{AllByRecursion}
use Rattle.std.specs.Map.{keys_of}
use Rattle.std.proofs.lemmas.Bool.{false≢true, eqb-true}
use Rattle.th_model.specs.declared.handles.RxId.{RxId}
use Rattle.th_model.specs.declared.watch.Edit.{Edit}
use Rattle.th_model.specs.declared.watch.Edit.TheVariants.{Set, Differ, Quiet}
use Rattle.th_model.specs.declared.watch.WCall.{WCall}
use Rattle.th_model.specs.declared.watch.WCall.TheVariants.{Send, Replace, EditBy, Borrow, Take, HasChanged, TryChanged, Changed, MarkChanged, MarkUnchanged, Subscribe, CloneRx, CloneTx, DropTx, DropRx, IsClosed, Readers}
use Rattle.th_model.specs.declared.watch.WReply.{WReply}
use Rattle.th_model.specs.declared.watch.WReply.TheVariants.{Done, NoReceivers, Exhausted, Was, Modified, Shown, Marked, NotYet, Gone, NewRx, NewTx, Count, TooMany, NoHandle}
use Rattle.th_model.specs.declared.watch.WReply.TheVariants as reply
use Rattle.th_model.specs.Handles.{is_sender, with_sender, without_sender, is_full}
use Rattle.th_model.specs.WatchMachine.{Kept, reader_of, with_reader, without_reader, open_reply, value_of}
use Rattle.th_model.specs.WatchPicture.{Picture, IsSound, answer, is_ready, is_ready_at, publish, send, edit, changed, subscribe, clone_sender, at_reader, numbered, marked, with_last, with_readers, with_senders, with_version}
use Rattle.std.proofs.lemmas.Cmp.{ranked}
use Rattle.th_model.proofs.PlaceLemmas.{not_at}
use Rattle.th_model.proofs.HandleLemmas.{all_given}
use Rattle.th_news.specs.WatchNews.{IsAnothers}

-- what is kept of another reader stays
module _ {X : Type 0} where
  with_other : (rs : Kept X) (r : ℕ) (x : X) (q : ℕ) → q ≢ r → reader_of (with_reader rs r x) q ≡ reader_of rs q
  with_other [] r x q ne = rw (not_at q r ne) refl
  with_other (p ∷ rs) r x q ne = elim (nat_cmp r p.0) as
      (λ o. o ≡ nat_cmp r p.0
      → reader_of (match_ordering o ((r, x) ∷ p ∷ rs) ((p.0, x) ∷ rs) (p ∷ with_reader rs r x)) q ≡ reader_of (p ∷ rs) q) [
        | Less ↦ λ e. rw (not_at q r ne) refl
        | Equal ↦ λ e. (let same : r ≡ p.0 = ranked r p.0 Equal e in rw (not_at q p.0 (λ h. ne (h ∙ sym same))) refl)
        | Greater ↦ λ e. ap (cond (is_eq (nat_cmp q p.0)) (Some p.1)) (with_other rs r x q ne)
      ] refl

  without_other : (rs : Kept X) (r q : ℕ) → q ≢ r → reader_of (without_reader rs r) q ≡ reader_of rs q
  without_other [] r q ne = refl
  without_other (p ∷ rs) r q ne = elim (nat_cmp r p.0) as
      (λ o. o ≡ nat_cmp r p.0 → reader_of (cond (is_eq o) rs (p ∷ without_reader rs r)) q ≡ reader_of (p ∷ rs) q) [
        | Less ↦ λ e. ap (cond (is_eq (nat_cmp q p.0)) (Some p.1)) (without_other rs r q ne)
        | Equal ↦ λ e. (let same : r ≡ p.0 = ranked r p.0 Equal e in rw (not_at q p.0 (λ h. ne (h ∙ sym same))) refl)
        | Greater ↦ λ e. ap (cond (is_eq (nat_cmp q p.0)) (Some p.1)) (without_other rs r q ne)
      ] refl

  none_past : (rs : Kept X) (n : ℕ) → AllByRecursion (λ k. k < n) (keys_of rs) → reader_of rs n ≡ None
  none_past [] n h = refl
  none_past (p ∷ rs) n h = rw (not_at n p.0 (λ e. omega (arith, h.0, e))) (none_past rs n h.1)

-- another list of senders, of which some are left, and the same reader
stays : (senders senders' : List ℕ) (o o' : Option Bool) → o' ≡ o → is_ready_at senders o ≡ false →
    (length senders' ≡ 0 → ⊥) → is_ready_at senders' o' ≡ false
stays senders senders' None o' same w some = absurd (false≢true (sym w))
stays senders senders' (Some true) o' same w some = absurd (false≢true (sym w))
stays senders senders' (Some false) o' same w some = subst (λ o. is_ready_at senders' o ≡ false) (sym same)
    (elim (eqb (length senders') 0) as (λ b. eqb (length senders') 0 ≡ b → b ≡ false) [
      | true ↦ λ e. absurd (some (eqb-true (length senders') 0 e))
      | false ↦ λ _. refl
    ] refl)

module _ {T : Type 0} (eq : T → T → Bool) (p : Picture T) (s : IsSound p) (rx : RxId) (w : is_ready p (Changed rx) ≡ false) where
  abbrev Goes : WReply T × Picture T → Type 0
  Goes x = x.1.version ≡ p.version → (length x.1.senders ≡ 0 → ⊥) → is_ready x.1 (Changed rx) ≡ false

  same : (r : WReply T) → Goes (r, p)
  same r old some = w

  -- other readers, and other senders
  among : (r : WReply T) (q : Picture T) → reader_of q.readers rx.0 ≡ reader_of p.readers rx.0 → Goes (r, q)
  among r q at old some = stays p.senders q.senders (reader_of p.readers rx.0) _ at w some

  moved : (r : WReply T) (k : ℕ) (u : Bool) → rx.0 ≢ k → Goes (r, marked p k u)
  moved r k u other = among r (marked p k u) (with_other p.readers k u rx.0 other)

  not_next : rx.0 ≢ p.next
  not_next e = false≢true (sym (subst (λ o. is_ready_at p.senders o ≡ false)
      (ap (reader_of p.readers) e ∙ none_past p.readers p.next (all_given p.next (keys_of p.readers) s.handles.by_receiver.given)) w))

  publishes : (v : T) (r : WReply T) → Goes (publish p v r)
  publishes v r = elim (eqb p.version (2 ^ 64 - 1)) as (λ b. Goes (cond b (Exhausted v, p) (r, with_version p v))) [
    | true ↦ same (Exhausted v)
    | false ↦ λ old some. absurd (omega (arith, old))
  ]

  sends : (v : T) → Goes (send p v)
  sends v = elim (eqb (length p.readers) 0) as (λ b. Goes (cond b (NoReceivers v, p) (publish p v Done)))
      [ true ↦ same (NoReceivers v) | false ↦ publishes v Done ]

  edits : (e : Edit T) → Goes (edit eq p e)
  edits (Set v) = publishes v (Modified true)
  edits (Differ v) = elim (eq v p.last) as (λ b. Goes (cond b (Modified false, p) (publish p v (Modified true))))
      [ true ↦ same (Modified false) | false ↦ publishes v (Modified true) ]
  edits (Quiet v) = among (Modified false) (with_last p v) refl

  changes : (k : ℕ) (u : Bool) → rx.0 ≢ k → Goes (changed p k u)
  changes k true other = moved Marked k false other
  changes k false other = same (open_reply p.senders NotYet)

  subscribes : (u : Bool) → Goes (subscribe p u)
  subscribes u = elim (is_full (length p.readers) p.next) as
      (λ b. Goes (cond b (TooMany, p) (NewRx (record { 0 = p.next }), numbered (marked p p.next u))))
      [ true ↦ same TooMany | false ↦ moved (NewRx (record { 0 = p.next })) p.next u not_next ]

  clones : Goes (clone_sender p)
  clones = elim (is_full (length p.senders) p.next) as
      (λ b. Goes (cond b (TooMany, p) (NewTx (record { 0 = p.next }), numbered (with_senders p (with_sender p.senders p.next))))) [
        | true ↦ same TooMany
        | false ↦ among (NewTx (record { 0 = p.next }))
            (numbered (with_senders p (with_sender p.senders p.next))) refl
      ]

  by_sender : (tx : ℕ) (back : Option T) (given : WReply T × Picture T) → Goes given →
      Goes (cond (is_sender p.senders tx) given (NoHandle back, p))
  by_sender tx back given goes = elim (is_sender p.senders tx) as (λ b. Goes (cond b given (NoHandle back, p)))
      [ true ↦ goes | false ↦ same (NoHandle back) ]

  by_reader : (o : Option Bool) (given : Bool → WReply T × Picture T) → ((u : Bool) → Goes (given u)) → Goes (at_reader p o given)
  by_reader None given goes = same (NoHandle None)
  by_reader (Some u) given goes = goes u

  pub waits_on : (call : WCall T) → IsAnothers rx.0 call → Goes (answer eq p call)
  waits_on (Send tx v) other = by_sender tx.0 (Some v) (send p v) (sends v)
  waits_on (Replace tx v) other = by_sender tx.0 (Some v) (publish p v (Was p.last)) (publishes v (Was p.last))
  waits_on (EditBy tx e) other = by_sender tx.0 (Some (value_of e)) (edit eq p e) (edits e)
  waits_on (Borrow r) other = by_reader (reader_of p.readers r.0) (λ u. (Shown p.last u, p)) (λ u. same (Shown p.last u))
  waits_on (Take r) other = by_reader (reader_of p.readers r.0) (λ u. (Shown p.last u, marked p r.0 false))
      (λ u. moved (Shown p.last u) r.0 false other)
  waits_on (HasChanged r) other = by_reader (reader_of p.readers r.0) (λ u. (open_reply p.senders (reply.Changed u), p))
      (λ u. same (open_reply p.senders (reply.Changed u)))
  waits_on (TryChanged r) other = by_reader (reader_of p.readers r.0) (changed p r.0) (λ u. changes r.0 u other)
  waits_on (Changed r) other = by_reader (reader_of p.readers r.0) (changed p r.0) (λ u. changes r.0 u other)
  waits_on (MarkChanged r) other = by_reader (reader_of p.readers r.0) (λ u. (Done, marked p r.0 true)) (λ u. moved Done r.0 true other)
  waits_on (MarkUnchanged r) other = by_reader (reader_of p.readers r.0) (λ u. (Done, marked p r.0 false))
      (λ u. moved Done r.0 false other)
  waits_on (Subscribe tx) other = by_sender tx.0 None (subscribe p false) (subscribes false)
  waits_on (CloneRx r) other = by_reader (reader_of p.readers r.0) (subscribe p) (λ u. subscribes u)
  waits_on (CloneTx tx) other = by_sender tx.0 None (clone_sender p) clones
  waits_on (DropTx tx) other = by_sender tx.0 None (Done, with_senders p (without_sender p.senders tx.0))
      (among Done (with_senders p (without_sender p.senders tx.0)) refl)
  waits_on (DropRx r) other = by_reader (reader_of p.readers r.0) (λ u. (Done, with_readers p (without_reader p.readers r.0)))
      (λ u. among Done (with_readers p (without_reader p.readers r.0)) (without_other p.readers r.0 rx.0 other))
  waits_on (IsClosed tx) other = by_sender tx.0 None (Gone (eqb (length p.readers) 0), p) (same (Gone (eqb (length p.readers) 0)))
  waits_on (Readers tx) other = by_sender tx.0 None (Count (length p.readers), p) (same (Count (length p.readers)))

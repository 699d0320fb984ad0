-- Handles read and written by the number of their topic.
use Rattle.std.proofs.Common.{◌≡◌, ℕ, Bool, true, false, cond, List, [], ◌∷◌, Option, Some, None, is_some, map, refl, sym, ap, ◌∙◌, subst}
use Rattle.std.specs.Option.{IsSome, option_map, unwrap_or}
use Rattle.std.specs.List.Sorted.{IsStrictlySortedBy}
use Rattle.std.specs.Ordering.{nat_cmp, match_ordering, is_eq}
use Rattle.std.specs.declared.cmp.Ordering.TheVariants.{Less, Equal, Greater}
use Rattle.std.specs.Map.{keys_of, lookup, remove_entry, set_value}
use Rattle.std.specs.BTreeMap.{insert_entry, is_at}
use Rattle.std.specs.Cmp.{nat_cmp_is}
use Rattle.std.proofs.lemmas.Cmp.{nat_cmp_total}
use Rattle.std.proofs.lemmas.Map.{lookup-none}
use Rattle.std.proofs.lemmas.Map.Entries.{none_below_head}
use Rattle.std.proofs.lemmas.Map.Keys.{sorted_tail}
use Rattle.std.proofs.lemmas.Bool.{false≢true}
use Rattle.std.proofs.lemmas.Option.{none-some, same_Some}
use Rattle.th_session.specs.declared.handles.Handles.{Handles}
use Rattle.th_session.specs.Held.{nothing, handles_of, handles_at, with_handles, with_sender, with_receiver, without_sender, without_receiver, IsReady, numbers, held}

-- entries by numbers

same : (n : ℕ) → nat_cmp n n ≡ Equal
same n = sym (nat_cmp_is n n Equal refl)

module _ {X : Type 0} where
  -- what is written where an entry is, is inserted
  pub set-insert : (es : List (ℕ × X)) (n : ℕ) (x y : X) → IsStrictlySortedBy nat_cmp (keys_of es) →
      lookup (is_at (nat_cmp n)) es ≡ Some x → set_value (is_at (nat_cmp n)) es y ≡ insert_entry nat_cmp es n y
  set-insert [] n x y r h = absurd (none-some x h)
  set-insert (e ∷ es) n x y r h = elim (nat_cmp n e.0) as (λ o. o ≡ nat_cmp n e.0 →
      cond (is_eq o) (Some e.1) (lookup (is_at (nat_cmp n)) es) ≡ Some x →
      cond (is_eq o) ((e.0, y) ∷ es) (e ∷ set_value (is_at (nat_cmp n)) es y)
      ≡ match_ordering o ((n, y) ∷ e ∷ es) ((e.0, y) ∷ es) (e ∷ insert_entry nat_cmp es n y)) [
        | Less ↦ λ o k. absurd (none-some x (sym (lookup-none (is_at (nat_cmp n)) (e ∷ es) (none_below_head nat_cmp_total n e es r (sym o)))
            ∙ h))
        | Equal ↦ λ o k. refl
        | Greater ↦ λ o k. ap (λ l. e ∷ l) (set-insert es n x y (sorted_tail nat_cmp e.0 (keys_of es) r) k)
      ] refl h

  -- of two values inserted at one number, the later one is there
  insert-insert : (es : List (ℕ × X)) (n : ℕ) (x y : X) → insert_entry nat_cmp (insert_entry nat_cmp es n x) n y
      ≡ insert_entry nat_cmp es n y
  insert-insert [] n x y = rw (same n) refl
  insert-insert (e ∷ es) n x y = elim (nat_cmp n e.0) as (λ o. o ≡ nat_cmp n e.0 →
      insert_entry nat_cmp (match_ordering o ((n, x) ∷ e ∷ es) ((e.0, x) ∷ es) (e ∷ insert_entry nat_cmp es n x)) n y
      ≡ match_ordering o ((n, y) ∷ e ∷ es) ((e.0, y) ∷ es) (e ∷ insert_entry nat_cmp es n y)) [
        | Less ↦ λ o. rw (same n) refl
        | Equal ↦ λ o. rw (sym o) refl
        | Greater ↦ λ o. rw (sym o) (ap (λ l. e ∷ l) (insert-insert es n x y))
      ] refl

  -- a new entry that is removed leaves what there was
  pub remove-insert : (es : List (ℕ × X)) (n : ℕ) (x : X) → lookup (is_at (nat_cmp n)) es ≡ None →
      remove_entry (is_at (nat_cmp n)) (insert_entry nat_cmp es n x) ≡ es
  remove-insert [] n x h = rw (same n) refl
  remove-insert (e ∷ es) n x h = elim (nat_cmp n e.0) as (λ o. o ≡ nat_cmp n e.0 →
      cond (is_eq o) (Some e.1) (lookup (is_at (nat_cmp n)) es) ≡ None →
      remove_entry (is_at (nat_cmp n)) (match_ordering o ((n, x) ∷ e ∷ es) ((e.0, x) ∷ es) (e ∷ insert_entry nat_cmp es n x)) ≡ e ∷ es) [
        | Less ↦ λ o k. rw (same n) refl
        | Equal ↦ λ o k. absurd (none-some e.1 (sym k))
        | Greater ↦ λ o k. rw (sym o) (ap (λ l. e ∷ l) (remove-insert es n x k))
      ] refl h

  pub lookup-insert : (es : List (ℕ × X)) (n : ℕ) (x : X) → lookup (is_at (nat_cmp n)) (insert_entry nat_cmp es n x) ≡ Some x
  lookup-insert [] n x = rw (same n) refl
  lookup-insert (e ∷ es) n x = elim (nat_cmp n e.0) as (λ o. o ≡ nat_cmp n e.0 →
      lookup (is_at (nat_cmp n)) (match_ordering o ((n, x) ∷ e ∷ es) ((e.0, x) ∷ es) (e ∷ insert_entry nat_cmp es n x)) ≡ Some x) [
        | Less ↦ λ o. rw (same n) refl
        | Equal ↦ λ o. rw (sym o) refl
        | Greater ↦ λ o. rw (sym o) (lookup-insert es n x)
      ] refl

module _ {X : Type 0} where
  lookup-set : (es : List (ℕ × X)) (n : ℕ) (x y : X) → lookup (is_at (nat_cmp n)) es ≡ Some x →
      IsSome (lookup (is_at (nat_cmp n)) (set_value (is_at (nat_cmp n)) es y))
  lookup-set [] n x y h = absurd (none-some x h)
  lookup-set (e ∷ es) n x y h = elim (nat_cmp n e.0) as (λ o. o ≡ nat_cmp n e.0 →
      cond (is_eq o) (Some e.1) (lookup (is_at (nat_cmp n)) es) ≡ Some x →
      IsSome (lookup (is_at (nat_cmp n)) (cond (is_eq o) ((e.0, y) ∷ es) (e ∷ set_value (is_at (nat_cmp n)) es y)))) [
        | Less ↦ λ o k. rw (sym o) (lookup-set es n x y k)
        | Equal ↦ λ o k. rw (sym o) refl
        | Greater ↦ λ o k. rw (sym o) (lookup-set es n x y k)
      ] refl h

-- entries seen through a function of their values

module _ {X Y : Type 0} (f : X → Y) where
  abbrev seen : List (ℕ × X) → List (ℕ × Y)
  seen es = map (λ e. (e.0, f e.1)) es

  lookup-seen : (es : List (ℕ × X)) (n : ℕ) → lookup (is_at (nat_cmp n)) (seen es) ≡ option_map f (lookup (is_at (nat_cmp n)) es)
  lookup-seen [] n = refl
  lookup-seen (e ∷ es) n = elim (is_at (nat_cmp n) e.0) as (λ b. cond b (Some (f e.1)) (lookup (is_at (nat_cmp n)) (seen es))
      ≡ option_map f (cond b (Some e.1) (lookup (is_at (nat_cmp n)) es))) [
        | true ↦ refl
        | false ↦ lookup-seen es n
      ]

  insert-seen : (es : List (ℕ × X)) (n : ℕ) (x : X) → seen (insert_entry nat_cmp es n x) ≡ insert_entry nat_cmp (seen es) n (f x)
  insert-seen [] n x = refl
  insert-seen (e ∷ es) n x = elim (nat_cmp n e.0) as (λ o. seen
      (match_ordering o ((n, x) ∷ e ∷ es) ((e.0, x) ∷ es) (e ∷ insert_entry nat_cmp es n x))
      ≡ match_ordering o ((n, f x) ∷ (e.0, f e.1) ∷ seen es) ((e.0, f x) ∷ seen es)
      ((e.0, f e.1) ∷ insert_entry nat_cmp (seen es) n (f x))) [
        | Less ↦ refl
        | Equal ↦ refl
        | Greater ↦ ap (λ l. (e.0, f e.1) ∷ l) (insert-seen es n x)
      ]

  -- a value of the same look in its place
  set-seen : (es : List (ℕ × X)) (n : ℕ) (x y : X) → lookup (is_at (nat_cmp n)) es ≡ Some x → f y ≡ f x →
      seen (set_value (is_at (nat_cmp n)) es y) ≡ seen es
  set-seen [] n x y h e = refl
  set-seen (p ∷ es) n x y h e = elim (is_at (nat_cmp n) p.0) as
      (λ b. cond b (Some p.1) (lookup (is_at (nat_cmp n)) es) ≡ Some x →
      seen (cond b ((p.0, y) ∷ es) (p ∷ set_value (is_at (nat_cmp n)) es y)) ≡ (p.0, f p.1) ∷ seen es) [
        | true ↦ λ k. ap (λ z. (p.0, z) ∷ seen es) (e ∙ ap f (sym (same_Some p.1 x k)))
        | false ↦ λ k. ap (λ l. (p.0, f p.1) ∷ l) (set-seen es n x y k e)
      ] h

-- handles

module _ {Tx Rx : Type 0} where
  -- what a look-up finds, and that nothing is held where it finds nothing
  pub at-in : (h : List (ℕ × Handles Tx Rx)) (n : ℕ) (s : Handles Tx Rx) → handles_of h n ≡ Some s → handles_at h n ≡ s
  at-in h n s e = ap (λ o. unwrap_or o nothing) e

  pub at-out : (h : List (ℕ × Handles Tx Rx)) (n : ℕ) → handles_of h n ≡ None → handles_at h n ≡ nothing
  at-out h n e = ap (λ o. unwrap_or o nothing) e

  -- a handle that is held from now on
  pub sender-some : (h : List (ℕ × Handles Tx Rx)) (n : ℕ) (s : Handles Tx Rx) (t : Tx) → IsStrictlySortedBy nat_cmp (keys_of h) →
      handles_of h n ≡ Some s → set_value (is_at (nat_cmp n)) h (record { sender = Some t; receiver = s.receiver }) ≡ with_sender h n t
  sender-some h n s t r e = set-insert h n s _ r e ∙ ap (λ x. with_handles h n (record { sender = Some t; receiver = x.receiver }))
      (sym (at-in h n s e))

  pub receiver-some : (h : List (ℕ × Handles Tx Rx)) (n : ℕ) (s : Handles Tx Rx) (r : Rx) → IsStrictlySortedBy nat_cmp (keys_of h) →
      handles_of h n ≡ Some s → set_value (is_at (nat_cmp n)) h (record { sender = s.sender; receiver = Some r }) ≡ with_receiver h n r
  receiver-some h n s r o e = set-insert h n s _ o e ∙ ap (λ x. with_handles h n (record { sender = x.sender; receiver = Some r }))
      (sym (at-in h n s e))

  -- what is held is the same on a topic whose handles were got ready
  pub own-ready : (b : Bool) (h ready : List (ℕ × Handles Tx Rx)) (n : ℕ) → IsReady b h n ready → handles_at ready n ≡ handles_at h n
  own-ready false h ready n e = ap (λ (x : List (ℕ × Handles Tx Rx)). handles_at x n) e
  own-ready true h ready n (e, w) =
      ap (λ (x : List (ℕ × Handles Tx Rx)). handles_at x n) w ∙ at-in (with_handles h n nothing) n nothing (lookup-insert h n nothing)
      ∙ sym (at-out h n e)

  -- where they were got ready, it is held as it would have been
  pub sender-ready : (b : Bool) (h ready : List (ℕ × Handles Tx Rx)) (n : ℕ) (t : Tx) → IsReady b h n ready →
      with_sender ready n t ≡ with_sender h n t
  sender-ready false h ready n t e = ap (λ (x : List (ℕ × Handles Tx Rx)). with_sender x n t) e
  sender-ready true h ready n t (e, w) = ap (λ (x : List (ℕ × Handles Tx Rx)). with_sender x n t) w
      ∙ ap (λ s. with_handles (with_handles h n nothing) n (record { sender = Some t; receiver = s.receiver }))
      (at-in (with_handles h n nothing) n nothing (lookup-insert h n nothing) ∙ sym (at-out h n e))
      ∙ insert-insert h n nothing _

  pub receiver-ready : (b : Bool) (h ready : List (ℕ × Handles Tx Rx)) (n : ℕ) (r : Rx) → IsReady b h n ready →
      with_receiver ready n r ≡ with_receiver h n r
  receiver-ready false h ready n r e = ap (λ (x : List (ℕ × Handles Tx Rx)). with_receiver x n r) e
  receiver-ready true h ready n r (e, w) = ap (λ (x : List (ℕ × Handles Tx Rx)). with_receiver x n r) w
      ∙ ap (λ s. with_handles (with_handles h n nothing) n (record { sender = s.sender; receiver = Some r }))
      (at-in (with_handles h n nothing) n nothing (lookup-insert h n nothing) ∙ sym (at-out h n e))
      ∙ insert-insert h n nothing _

  -- handles that are written are there
  pub there-set : (h h' : List (ℕ × Handles Tx Rx)) (n : ℕ) (s t : Handles Tx Rx) → handles_of h n ≡ Some s →
      h' ≡ set_value (is_at (nat_cmp n)) h t → IsSome (handles_of h' n)
  there-set h h' n s t e w = subst (λ (x : List (ℕ × Handles Tx Rx)). IsSome (handles_of x n)) (sym w) (lookup-set h n s t e)

  -- and new ones that are taken out again leave what there was
  pub taken-back : (b : Bool) (h ready : List (ℕ × Handles Tx Rx)) (n : ℕ) → b ≡ true → IsReady b h n ready →
      remove_entry (is_at (nat_cmp n)) ready ≡ h
  taken-back false h ready n new w = absurd (false≢true new)
  taken-back true h ready n new (e, w) = ap (remove_entry (is_at (nat_cmp n))) w ∙ remove-insert h n nothing e

abbrev pub with_numbers : {N M : Type 0} → Option N → Option M → Handles N M
with_numbers sender receiver = record { sender = sender; receiver = receiver }

module _ {Tx Rx N M : Type 0} (tx : Tx → N) (rx : Rx → M) where
  pub handles-held : (h : List (ℕ × Handles Tx Rx)) (n : ℕ) → handles_of (held tx rx h) n ≡ option_map (numbers tx rx) (handles_of h n)
  handles-held h n = lookup-seen (numbers tx rx) h n

  unwrapped : (o : Option (Handles Tx Rx)) → unwrap_or (option_map (numbers tx rx) o) nothing ≡ numbers tx rx (unwrap_or o nothing)
  unwrapped None = refl
  unwrapped (Some s) = refl

  pub at-held : (h : List (ℕ × Handles Tx Rx)) (n : ℕ) → handles_at (held tx rx h) n ≡ numbers tx rx (handles_at h n)
  at-held h n = ap (λ (o : Option (Handles N M)). unwrap_or o nothing) (handles-held h n) ∙ unwrapped (handles_of h n)

  held-with_handles : (h : List (ℕ × Handles Tx Rx)) (n : ℕ) (s : Handles Tx Rx) →
      held tx rx (with_handles h n s) ≡ with_handles (held tx rx h) n (numbers tx rx s)
  held-with_handles h n s = insert-seen (numbers tx rx) h n s

  pub held-with_sender : (h : List (ℕ × Handles Tx Rx)) (n : ℕ) (t : Tx) →
      held tx rx (with_sender h n t) ≡ with_sender (held tx rx h) n (tx t)
  held-with_sender h n t = held-with_handles h n (record { sender = Some t; receiver = (handles_at h n).receiver })
      ∙ ap (λ (s : Handles N M). with_handles (held tx rx h) n (record { sender = Some (tx t); receiver = s.receiver })) (sym (at-held h n))

  pub held-with_receiver : (h : List (ℕ × Handles Tx Rx)) (n : ℕ) (r : Rx) →
      held tx rx (with_receiver h n r) ≡ with_receiver (held tx rx h) n (rx r)
  held-with_receiver h n r = held-with_handles h n (record { sender = (handles_at h n).sender; receiver = Some r })
      ∙ ap (λ (s : Handles N M). with_handles (held tx rx h) n (record { sender = s.sender; receiver = Some (rx r) })) (sym (at-held h n))

  -- handles that are written with handles of the same numbers hold the same
  pub held-set : (h h' : List (ℕ × Handles Tx Rx)) (n : ℕ) (s t : Handles Tx Rx) → handles_of h n ≡ Some s →
      h' ≡ set_value (is_at (nat_cmp n)) h t → numbers tx rx t ≡ numbers tx rx s → held tx rx h' ≡ held tx rx h
  held-set h h' n s t e w same = ap (held tx rx) w ∙ set-seen (numbers tx rx) h n s t e same

  is-seen : (o : Option (Handles Tx Rx)) → is_some (option_map (numbers tx rx) o) ≡ is_some o
  is-seen None = refl
  is-seen (Some s) = refl

  -- the same is held, so handles that were there are there
  pub there-still : (mid after : List (ℕ × Handles Tx Rx)) (n : ℕ) → held tx rx after ≡ held tx rx mid → IsSome (handles_of mid n) →
      IsSome (handles_of after n)
  there-still mid after n e there = sym (is-seen (handles_of after n)) ∙ ap is_some (sym (handles-held after n))
      ∙ ap (λ (h : List (ℕ × Handles N M)). is_some (handles_of h n)) e ∙ ap is_some (handles-held mid n) ∙ is-seen (handles_of mid n)
      ∙ there

  -- and handles that were got ready are ready for one who holds the same as before
  pub ready-still : (b : Bool) (h mid after : List (ℕ × Handles Tx Rx)) (n : ℕ) → IsReady b h n mid → held tx rx after ≡ held tx rx mid →
      ((handles_at mid n).sender ≡ None → after ≡ mid) → (before : List (ℕ × Handles Tx Rx)) × IsReady b before n after
      × (held tx rx before ≡ held tx rx h)
  ready-still false h mid after n ready e same = (after, refl, e ∙ ap (held tx rx) ready)
  ready-still true h mid after n ready e same = (
    h,
    (
      ready.0,
      same (ap (λ s. s.sender)
          (own-ready true h mid n ready ∙ at-out h n ready.0)) ∙ ready.1,
    ),
    refl,
  )

  -- a handle that keeps its number changes no number
  pub sender-kept : (s : Handles Tx Rx) (t u : Tx) → s.sender ≡ Some t → tx u ≡ tx t →
      numbers tx rx (record { sender = Some u; receiver = s.receiver }) ≡ numbers tx rx s
  sender-kept s t u h e = ap (λ n. with_numbers (Some n) (option_map rx s.receiver)) e
      ∙ ap (λ o. with_numbers (option_map tx o) (option_map rx s.receiver)) (sym h)

  pub receiver-kept : (s : Handles Tx Rx) (r u : Rx) → s.receiver ≡ Some r → rx u ≡ rx r →
      numbers tx rx (record { sender = s.sender; receiver = Some u }) ≡ numbers tx rx s
  receiver-kept s r u h e = ap (λ n. with_numbers (option_map tx s.sender) (Some n)) e
      ∙ ap (λ o. with_numbers (option_map tx s.sender) (option_map rx o)) (sym h)

  -- handles whose sender looks the same
  pub sender-seen : (s : Handles Tx Rx) (o : Option Tx) → option_map tx o ≡ option_map tx s.sender →
      numbers tx rx (record { sender = o; receiver = s.receiver }) ≡ numbers tx rx s
  sender-seen s o e = ap (λ x. with_numbers x (option_map rx s.receiver)) e

  none-seen : (o : Option Tx) → option_map tx o ≡ None → o ≡ None
  none-seen None e = refl
  none-seen (Some t) e = absurd (none-some (tx t) (sym e))

  -- an empty one stays as it is
  pub sender-still-none : (s : Handles Tx Rx) (o : Option Tx) → option_map tx o ≡ option_map tx s.sender → s.sender ≡ None →
      record { sender = o; receiver = s.receiver } ≡ s
  sender-still-none s o e none = ap (λ x. with_numbers x s.receiver) (none-seen o (e ∙ ap (option_map tx) none) ∙ sym none)

  -- handles from which a handle is gone
  pub sender-gone : (h h' : List (ℕ × Handles Tx Rx)) (n : ℕ) (s t : Handles Tx Rx) → IsStrictlySortedBy nat_cmp (keys_of h) →
      handles_of h n ≡ Some s → h' ≡ set_value (is_at (nat_cmp n)) h t → numbers tx rx t ≡ with_numbers None (option_map rx s.receiver) →
      held tx rx h' ≡ without_sender (held tx rx h) n
  sender-gone h h' n s t r e w gone = ap (held tx rx) (w ∙ set-insert h n s t r e)
      ∙ held-with_handles h n t
      ∙ ap (with_handles (held tx rx h) n) (gone ∙ ap (λ (x : Handles N M). with_numbers None x.receiver)
      (sym (at-held h n ∙ ap (numbers tx rx) (at-in h n s e))))

  pub receiver-gone : (h h' : List (ℕ × Handles Tx Rx)) (n : ℕ) (s t : Handles Tx Rx) → IsStrictlySortedBy nat_cmp (keys_of h) →
      handles_of h n ≡ Some s → h' ≡ set_value (is_at (nat_cmp n)) h t → numbers tx rx t ≡ with_numbers (option_map tx s.sender) None →
      held tx rx h' ≡ without_receiver (held tx rx h) n
  receiver-gone h h' n s t r e w gone = ap (held tx rx) (w ∙ set-insert h n s t r e)
      ∙ held-with_handles h n t
      ∙ ap (with_handles (held tx rx h) n) (gone ∙ ap (λ (x : Handles N M). with_numbers x.sender None)
      (sym (at-held h n ∙ ap (numbers tx rx) (at-in h n s e))))

-- Calls and replies that compare equal are one, where values that compare equal are.
use Rattle.std.proofs.Common.{◌≡◌, ◌↔◌, ℕ, Bool, true, false, ◌&&◌, Option, Some, None, eqb, refl, ap, subst}
use Rattle.std.proofs.lemmas.Bool.{false≢true, eqb-true, eq-eqb}
use Rattle.std.specs.Prelude.{IsTrue}
use Rattle.std.specs.Option.{option_eq}
use Rattle.std.specs.declared.cmp.PartialEq.{Ghosts}
use mathlib.Core.Bool.{beq}
use denote.RattleType.{RattleType}
use mir.Syntax.{Dict}
use Rattle.th_model.specs.WatchMachine.{IsExact}
use Rattle.th_model.specs.declared.handles.TxId.{TxId}
use Rattle.th_model.specs.declared.handles.RxId.{RxId}
use Rattle.th_model.specs.declared.broadcast.BCall.TheVariants as bcall
use Rattle.th_model.specs.declared.broadcast.BReply.TheVariants as breply
use Rattle.th_model.specs.declared.watch.Edit.TheVariants as edit
use Rattle.th_model.specs.declared.watch.WCall.TheVariants as wcall
use Rattle.th_model.specs.declared.watch.WReply.TheVariants as wreply
use Rattle.th_model.specs.contracts.broadcast.BCallPartialEq.TheImpl.{ghosts as ghosts_bcall}
use Rattle.th_model.specs.contracts.broadcast.BReplyPartialEq.TheImpl.{ghosts as ghosts_breply}
use Rattle.th_model.specs.contracts.watch.EditPartialEq.TheImpl.{ghosts as ghosts_edit}
use Rattle.th_model.specs.contracts.watch.WCallPartialEq.TheImpl.{ghosts as ghosts_wcall}
use Rattle.th_model.specs.contracts.watch.WReplyPartialEq.TheImpl.{ghosts as ghosts_wreply}

pub and-left : (a b : Bool) → (a && b) ≡ true → a ≡ true
and-left true b h = refl
and-left false b h = h

pub and-right : (a b : Bool) → (a && b) ≡ true → b ≡ true
and-right true b h = h
and-right false b h = absurd (false≢true h)

pub both : {a b : Bool} → a ≡ true → b ≡ true → (a && b) ≡ true
both p q = rw (p, q) refl

same_tx : (a b : TxId) → IsTrue (eqb a.0 b.0) → a ≡ b
same_tx a b h = ap (λ (n : ℕ). record { 0 = n }) (eqb-true a.0 b.0 h)

same_rx : (a b : RxId) → IsTrue (eqb a.0 b.0) → a ≡ b
same_rx a b h = ap (λ (n : ℕ). record { 0 = n }) (eqb-true a.0 b.0 h)

exact_option : {X : Type 0} (eq : X → X → Bool) → IsExact eq → (x y : Option X) → IsTrue (option_eq eq x y) ↔ (x ≡ y)
exact_option eq exact None None = (λ h. refl, λ e. refl)
exact_option eq exact None (Some b) = (λ h. absurd (false≢true h), λ e. cc)
exact_option eq exact (Some a) None = (λ h. absurd (false≢true h), λ e. cc)
exact_option eq exact (Some a) (Some b) = (λ h. ap Some ((exact a b).0 h), λ e. (exact a b).1 (cc))

pub same_bool : (a b : Bool) → beq a b ≡ true → a ≡ b
same_bool true true h = refl
same_bool true false h = absurd (false≢true h)
same_bool false true h = absurd (false≢true h)
same_bool false false h = refl

eq-self : (n : ℕ) → IsTrue (eqb n n)
eq-self n = eq-eqb n n refl

beq-self : (a : Bool) → beq a a ≡ true
beq-self true = refl
beq-self false = refl

pub bool_same : (a b : Bool) → a ≡ b → beq a b ≡ true
bool_same a b e = subst (λ c. beq a c ≡ true) e (beq-self a)

-- What compares equal is one.
abbrev Implies : {X : Type 0} → (X → X → Bool) → X → X → Type 0
Implies eq a b = IsTrue (eq a b) → a ≡ b

-- It compares equal to itself, and to nothing else.
abbrev Alone : {X : Type 0} → (X → X → Bool) → X → Type 0
Alone {X} eq a = IsTrue (eq a a) × ((b : X) → Implies eq a b)

exact_by : {X : Type 0} {eq : X → X → Bool} → ((a : X) → Alone eq a) → IsExact eq
exact_by {X} {eq} alone a b = ((alone a).1 b, λ e. subst (λ c. IsTrue (eq a c)) e (alone a).0)

differ : {A : Type 0} → false ≡ true → A
differ h = absurd (false≢true h)

of_tx : {X : Type 0} (f : TxId → X) (a b : TxId) → IsTrue (eqb a.0 b.0) → f a ≡ f b
of_tx f a b h = ap f (same_tx a b h)

of_rx : {X : Type 0} (f : RxId → X) (a b : RxId) → IsTrue (eqb a.0 b.0) → f a ≡ f b
of_rx f a b h = ap f (same_rx a b h)

of_number : {X : Type 0} (f : ℕ → X) (a b : ℕ) → IsTrue (eqb a b) → f a ≡ f b
of_number f a b h = ap f (eqb-true a b h)

of_bool : {X : Type 0} (f : Bool → X) (a b : Bool) → IsTrue (beq a b) → f a ≡ f b
of_bool f a b h = ap f (same_bool a b h)

of_value : {V X : Type 0} {eq : V → V → Bool} → IsExact eq → (f : V → X) (a b : V) → IsTrue (eq a b) → f a ≡ f b
of_value exact f a b h = ap f ((exact a b).0 h)

pair : {A B C : Type 0} (f : A → B → C) {a b : A} {x y : B} → a ≡ b → x ≡ y → f a x ≡ f b y
pair f p q = rw (p, q) refl

pub exact_bcall : (T : RattleType) (P : Ghosts T.Denot) (d : Dict) → IsExact P.eq → IsExact ((ghosts_bcall T P d).eq)
exact_bcall T P d exact =
    let Same = Implies ((ghosts_bcall T P d).eq) in
    exact_by (λ x. elim x as (Alone ((ghosts_bcall T P d).eq)) [
      | bcall.Send a x ↦ (
        both (eq-self a.0) ((exact x x).1 refl),
        λ y. elim y as (Same (bcall.Send a x)) [
          | bcall.Send b z ↦ λ h. pair bcall.Send (same_tx a b (and-left _ _ h)) ((exact x z).0 (and-right _ _ h))
          | _ ↦ differ
        ],
      )
      | bcall.TryRecv a ↦ (eq-self a.0, λ y. elim y as (Same (bcall.TryRecv a)) [ bcall.TryRecv b ↦ of_rx bcall.TryRecv a b | _ ↦ differ ])
      | bcall.Recv a ↦ (eq-self a.0, λ y. elim y as (Same (bcall.Recv a)) [ bcall.Recv b ↦ of_rx bcall.Recv a b | _ ↦ differ ])
      | bcall.Subscribe a ↦ (
        eq-self a.0,
        λ y. elim y as (Same (bcall.Subscribe a)) [
          | bcall.Subscribe b ↦ of_tx bcall.Subscribe a b
          | _ ↦ differ
        ],
      )
      | bcall.SubscribeOldest a ↦ (
        eq-self a.0,
        λ y. elim y as (Same (bcall.SubscribeOldest a)) [
          | bcall.SubscribeOldest b ↦ of_tx bcall.SubscribeOldest a b
          | _ ↦ differ
        ],
      )
      | bcall.Resubscribe a ↦ (
        eq-self a.0,
        λ y. elim y as (Same (bcall.Resubscribe a)) [
          | bcall.Resubscribe b ↦ of_rx bcall.Resubscribe a b
          | _ ↦ differ
        ],
      )
      | bcall.CloneTx a ↦ (eq-self a.0, λ y. elim y as (Same (bcall.CloneTx a)) [ bcall.CloneTx b ↦ of_tx bcall.CloneTx a b | _ ↦ differ ])
      | bcall.DropTx a ↦ (eq-self a.0, λ y. elim y as (Same (bcall.DropTx a)) [ bcall.DropTx b ↦ of_tx bcall.DropTx a b | _ ↦ differ ])
      | bcall.DropRx a ↦ (eq-self a.0, λ y. elim y as (Same (bcall.DropRx a)) [ bcall.DropRx b ↦ of_rx bcall.DropRx a b | _ ↦ differ ])
      | bcall.Queued a ↦ (eq-self a.0, λ y. elim y as (Same (bcall.Queued a)) [ bcall.Queued b ↦ of_tx bcall.Queued a b | _ ↦ differ ])
      | bcall.Left a ↦ (eq-self a.0, λ y. elim y as (Same (bcall.Left a)) [ bcall.Left b ↦ of_rx bcall.Left a b | _ ↦ differ ])
      | bcall.Readers a ↦ (eq-self a.0, λ y. elim y as (Same (bcall.Readers a)) [ bcall.Readers b ↦ of_tx bcall.Readers a b | _ ↦ differ ])
    ])

pub exact_breply : (T : RattleType) (P : Ghosts T.Denot) (d : Dict) → IsExact P.eq → IsExact ((ghosts_breply T P d).eq)
exact_breply T P d exact =
    let Same = Implies ((ghosts_breply T P d).eq) in
    exact_by (λ x. elim x as (Alone ((ghosts_breply T P d).eq)) [
      | breply.Sent a ↦ (eq-self a, λ y. elim y as (Same (breply.Sent a)) [ breply.Sent b ↦ of_number breply.Sent a b | _ ↦ differ ])
      | breply.NoReceivers a ↦ (
        (exact a a).1 refl,
        λ y. elim y as (Same (breply.NoReceivers a)) [
          | breply.NoReceivers b ↦ of_value exact breply.NoReceivers a b
          | _ ↦ differ
        ],
      )
      | breply.Exhausted a ↦ (
        (exact a a).1 refl,
        λ y. elim y as (Same (breply.Exhausted a)) [
          | breply.Exhausted b ↦ of_value exact breply.Exhausted a b
          | _ ↦ differ
        ],
      )
      | breply.Value a ↦ (
        (exact a a).1 refl,
        λ y. elim y as (Same (breply.Value a)) [
          | breply.Value b ↦ of_value exact breply.Value a b
          | _ ↦ differ
        ],
      )
      | breply.Empty ↦ (refl, λ y. elim y as (Same breply.Empty) [ breply.Empty ↦ λ h. refl | _ ↦ differ ])
      | breply.Closed ↦ (refl, λ y. elim y as (Same breply.Closed) [ breply.Closed ↦ λ h. refl | _ ↦ differ ])
      | breply.Lagged a ↦
          (eq-self a, λ y. elim y as (Same (breply.Lagged a)) [ breply.Lagged b ↦ of_number breply.Lagged a b | _ ↦ differ ])
      | breply.NewRx a ↦ (eq-self a.0, λ y. elim y as (Same (breply.NewRx a)) [ breply.NewRx b ↦ of_rx breply.NewRx a b | _ ↦ differ ])
      | breply.NewTx a ↦ (eq-self a.0, λ y. elim y as (Same (breply.NewTx a)) [ breply.NewTx b ↦ of_tx breply.NewTx a b | _ ↦ differ ])
      | breply.Count a ↦ (eq-self a, λ y. elim y as (Same (breply.Count a)) [ breply.Count b ↦ of_number breply.Count a b | _ ↦ differ ])
      | breply.Done ↦ (refl, λ y. elim y as (Same breply.Done) [ breply.Done ↦ λ h. refl | _ ↦ differ ])
      | breply.TooMany ↦ (refl, λ y. elim y as (Same breply.TooMany) [ breply.TooMany ↦ λ h. refl | _ ↦ differ ])
      | breply.NoHandle a ↦ (
        (exact_option P.eq exact a a).1 refl,
        λ y. elim y as (Same (breply.NoHandle a)) [
          | breply.NoHandle b ↦ λ h. ap breply.NoHandle ((exact_option P.eq exact a b).0 h)
          | _ ↦ differ
        ],
      )
    ])

pub exact_edit : (T : RattleType) (P : Ghosts T.Denot) (d : Dict) → IsExact P.eq → IsExact ((ghosts_edit T P d).eq)
exact_edit T P d exact =
    let Same = Implies ((ghosts_edit T P d).eq) in
    exact_by (λ x. elim x as (Alone ((ghosts_edit T P d).eq)) [
      | edit.Set a ↦ ((exact a a).1 refl, λ y. elim y as (Same (edit.Set a)) [ edit.Set b ↦ of_value exact edit.Set a b | _ ↦ differ ])
      | edit.Differ a ↦ (
        (exact a a).1 refl,
        λ y. elim y as (Same (edit.Differ a)) [
          | edit.Differ b ↦ of_value exact edit.Differ a b
          | _ ↦ differ
        ],
      )
      | edit.Quiet a ↦ (
        (exact a a).1 refl,
        λ y. elim y as (Same (edit.Quiet a)) [
          | edit.Quiet b ↦ of_value exact edit.Quiet a b
          | _ ↦ differ
        ],
      )
    ])

pub exact_wcall : (T : RattleType) (P : Ghosts T.Denot) (d : Dict) → IsExact P.eq → IsExact ((ghosts_wcall T P d).eq)
exact_wcall T P d exact =
    let Same = Implies ((ghosts_wcall T P d).eq) in
    exact_by (λ x. elim x as (Alone ((ghosts_wcall T P d).eq)) [
      | wcall.Send a x ↦ (
        both (eq-self a.0) ((exact x x).1 refl),
        λ y. elim y as (Same (wcall.Send a x)) [
          | wcall.Send b z ↦ λ h. pair wcall.Send (same_tx a b (and-left _ _ h)) ((exact x z).0 (and-right _ _ h))
          | _ ↦ differ
        ],
      )
      | wcall.Replace a x ↦ (
        both (eq-self a.0) ((exact x x).1 refl),
        λ y. elim y as (Same (wcall.Replace a x)) [
          | wcall.Replace b z ↦ λ h. pair wcall.Replace (same_tx a b (and-left _ _ h)) ((exact x z).0 (and-right _ _ h))
          | _ ↦ differ
        ],
      )
      | wcall.EditBy a x ↦ (
        both (eq-self a.0) ((exact_edit T P d exact x x).1 refl),
        λ y. elim y as (Same (wcall.EditBy a x)) [
          | wcall.EditBy b z ↦ λ h. pair wcall.EditBy (same_tx a b (and-left _ _ h)) ((exact_edit T P d exact x z).0 (and-right _ _ h))
          | _ ↦ differ
        ],
      )
      | wcall.Borrow a ↦ (eq-self a.0, λ y. elim y as (Same (wcall.Borrow a)) [ wcall.Borrow b ↦ of_rx wcall.Borrow a b | _ ↦ differ ])
      | wcall.Take a ↦ (eq-self a.0, λ y. elim y as (Same (wcall.Take a)) [ wcall.Take b ↦ of_rx wcall.Take a b | _ ↦ differ ])
      | wcall.HasChanged a ↦ (
        eq-self a.0,
        λ y. elim y as (Same (wcall.HasChanged a)) [
          | wcall.HasChanged b ↦ of_rx wcall.HasChanged a b
          | _ ↦ differ
        ],
      )
      | wcall.TryChanged a ↦ (
        eq-self a.0,
        λ y. elim y as (Same (wcall.TryChanged a)) [
          | wcall.TryChanged b ↦ of_rx wcall.TryChanged a b
          | _ ↦ differ
        ],
      )
      | wcall.Changed a ↦ (eq-self a.0, λ y. elim y as (Same (wcall.Changed a)) [ wcall.Changed b ↦ of_rx wcall.Changed a b | _ ↦ differ ])
      | wcall.MarkChanged a ↦ (
        eq-self a.0,
        λ y. elim y as (Same (wcall.MarkChanged a)) [
          | wcall.MarkChanged b ↦ of_rx wcall.MarkChanged a b
          | _ ↦ differ
        ],
      )
      | wcall.MarkUnchanged a ↦ (
        eq-self a.0,
        λ y. elim y as (Same (wcall.MarkUnchanged a)) [
          | wcall.MarkUnchanged b ↦ of_rx wcall.MarkUnchanged a b
          | _ ↦ differ
        ],
      )
      | wcall.Subscribe a ↦ (
        eq-self a.0,
        λ y. elim y as (Same (wcall.Subscribe a)) [
          | wcall.Subscribe b ↦ of_tx wcall.Subscribe a b
          | _ ↦ differ
        ],
      )
      | wcall.CloneRx a ↦ (eq-self a.0, λ y. elim y as (Same (wcall.CloneRx a)) [ wcall.CloneRx b ↦ of_rx wcall.CloneRx a b | _ ↦ differ ])
      | wcall.CloneTx a ↦ (eq-self a.0, λ y. elim y as (Same (wcall.CloneTx a)) [ wcall.CloneTx b ↦ of_tx wcall.CloneTx a b | _ ↦ differ ])
      | wcall.DropTx a ↦ (eq-self a.0, λ y. elim y as (Same (wcall.DropTx a)) [ wcall.DropTx b ↦ of_tx wcall.DropTx a b | _ ↦ differ ])
      | wcall.DropRx a ↦ (eq-self a.0, λ y. elim y as (Same (wcall.DropRx a)) [ wcall.DropRx b ↦ of_rx wcall.DropRx a b | _ ↦ differ ])
      | wcall.IsClosed a ↦ (
        eq-self a.0,
        λ y. elim y as (Same (wcall.IsClosed a)) [
          | wcall.IsClosed b ↦ of_tx wcall.IsClosed a b
          | _ ↦ differ
        ],
      )
      | wcall.Readers a ↦ (eq-self a.0, λ y. elim y as (Same (wcall.Readers a)) [ wcall.Readers b ↦ of_tx wcall.Readers a b | _ ↦ differ ])
    ])

pub exact_wreply : (T : RattleType) (P : Ghosts T.Denot) (d : Dict) → IsExact P.eq → IsExact ((ghosts_wreply T P d).eq)
exact_wreply T P d exact =
    let Same = Implies ((ghosts_wreply T P d).eq) in
    exact_by (λ x. elim x as (Alone ((ghosts_wreply T P d).eq)) [
      | wreply.Done ↦ (refl, λ y. elim y as (Same wreply.Done) [ wreply.Done ↦ λ h. refl | _ ↦ differ ])
      | wreply.NoReceivers a ↦ (
        (exact a a).1 refl,
        λ y. elim y as (Same (wreply.NoReceivers a)) [
          | wreply.NoReceivers b ↦ of_value exact wreply.NoReceivers a b
          | _ ↦ differ
        ],
      )
      | wreply.Exhausted a ↦ (
        (exact a a).1 refl,
        λ y. elim y as (Same (wreply.Exhausted a)) [
          | wreply.Exhausted b ↦ of_value exact wreply.Exhausted a b
          | _ ↦ differ
        ],
      )
      | wreply.Was a ↦ (
        (exact a a).1 refl,
        λ y. elim y as (Same (wreply.Was a)) [
          | wreply.Was b ↦ of_value exact wreply.Was a b
          | _ ↦ differ
        ],
      )
      | wreply.Modified a ↦ (
        beq-self a,
        λ y. elim y as (Same (wreply.Modified a)) [
          | wreply.Modified b ↦ of_bool wreply.Modified a b
          | _ ↦ differ
        ],
      )
      | wreply.Shown a x ↦ (
        both ((exact a a).1 refl) (beq-self x),
        λ y. elim y as (Same (wreply.Shown a x)) [
          | wreply.Shown b z ↦ λ h. pair wreply.Shown ((exact a b).0 (and-left _ _ h)) (same_bool x z (and-right _ _ h))
          | _ ↦ differ
        ],
      )
      | wreply.Changed a ↦ (
        beq-self a,
        λ y. elim y as (Same (wreply.Changed a)) [
          | wreply.Changed b ↦ of_bool wreply.Changed a b
          | _ ↦ differ
        ],
      )
      | wreply.Marked ↦ (refl, λ y. elim y as (Same wreply.Marked) [ wreply.Marked ↦ λ h. refl | _ ↦ differ ])
      | wreply.NotYet ↦ (refl, λ y. elim y as (Same wreply.NotYet) [ wreply.NotYet ↦ λ h. refl | _ ↦ differ ])
      | wreply.Closed ↦ (refl, λ y. elim y as (Same wreply.Closed) [ wreply.Closed ↦ λ h. refl | _ ↦ differ ])
      | wreply.Gone a ↦ (beq-self a, λ y. elim y as (Same (wreply.Gone a)) [ wreply.Gone b ↦ of_bool wreply.Gone a b | _ ↦ differ ])
      | wreply.NewRx a ↦ (eq-self a.0, λ y. elim y as (Same (wreply.NewRx a)) [ wreply.NewRx b ↦ of_rx wreply.NewRx a b | _ ↦ differ ])
      | wreply.NewTx a ↦ (eq-self a.0, λ y. elim y as (Same (wreply.NewTx a)) [ wreply.NewTx b ↦ of_tx wreply.NewTx a b | _ ↦ differ ])
      | wreply.Count a ↦ (eq-self a, λ y. elim y as (Same (wreply.Count a)) [ wreply.Count b ↦ of_number wreply.Count a b | _ ↦ differ ])
      | wreply.TooMany ↦ (refl, λ y. elim y as (Same wreply.TooMany) [ wreply.TooMany ↦ λ h. refl | _ ↦ differ ])
      | wreply.NoHandle a ↦ (
        (exact_option P.eq exact a a).1 refl,
        λ y. elim y as (Same (wreply.NoHandle a)) [
          | wreply.NoHandle b ↦ λ h. ap wreply.NoHandle ((exact_option P.eq exact a b).0 h)
          | _ ↦ differ
        ],
      )
    ])

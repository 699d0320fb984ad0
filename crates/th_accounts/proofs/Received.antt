-- What a whole diary of a receiver tells is what was sent.
use Rattle.std.proofs.Common.{◌≡◌, ℕ, ◌+◌, length, Bool, true, false, cond, List, [], ◌∷◌, ◌++◌, map, Option, Some, refl, sym, ap, subst, ◌∙◌, ◌⊎◌, inl, inr}
use Rattle.std.specs.List.{AllByRecursion}
use Rattle.th_model.specs.declared.broadcast.BCall.{BCall}
use Rattle.th_model.specs.declared.broadcast.BCall.TheVariants.{Send, TryRecv, Recv, Subscribe, SubscribeOldest, Resubscribe, CloneTx, DropTx, DropRx, Queued, Left, Readers}
use Rattle.th_model.specs.declared.broadcast.BReply.{BReply}
use Rattle.th_model.specs.Places.{place_of}
use Rattle.th_model.specs.BroadcastMachine.{Endless, IsProper, step, run}
use Rattle.th_model.specs.Delivery.{told_to, all_told, Spares, Delivers, LawOfDelivery}
use Rattle.th_model.specs.Handles.{IsRising}
use Rattle.th_log.specs.Outcome.{Told}
use Rattle.th_log.specs.History.{Piece}
use Rattle.th_log.specs.Audit.{Stands, AreGood}
use Rattle.th_accounts.specs.Accounts.{all_of, IsAmong}
use Rattle.th_accounts.proofs.Untold.{untold, get_lt}
use Rattle.std.proofs.lemmas.Bool.{false≢true}
use Rattle.std.proofs.lemmas.Option.{same_Some}
use Rattle.th_accounts.specs.Whole.{picked, said_in, IsAt, Names, IsWhole}
use Rattle.th_accounts.specs.Received.{IsRun, end_of, receives, told_in, TellsAlone, AuditedDiariesDeliver}
use Rattle.th_accounts.proofs.Whole.{whole}

-- what holds of all holds of the one in the middle
mid : {X : Type 0} (P : X → Type 0) (xs ys : List X) (y : X) → AllByRecursion P (xs ++ y ∷ ys) → P y
mid P [] ys y h = h.0
mid P (x ∷ xs) ys y h = mid P xs ys y h.1

-- a receipt that is among these is among the first or among the others
module _ {C R : Type 0} (t : Told C R) where
  parts : (xs ys : List (Told C R)) → IsAmong t (xs ++ ys) → IsAmong t xs ⊎ IsAmong t ys
  parts [] ys q = inr q
  parts (x ∷ xs) ys (inl e) = inl (inl e)
  parts (x ∷ xs) ys (inr q) = elim (parts xs ys q) as (λ _. IsAmong t (x ∷ xs) ⊎ IsAmong t ys) [ inl h ↦ inl (inr h) | inr h ↦ inr h ]

  in_front : (xs ys : List (Told C R)) → IsAmong t xs → IsAmong t (xs ++ ys)
  in_front [] ys q = absurd q
  in_front (x ∷ xs) ys (inl e) = inl e
  in_front (x ∷ xs) ys (inr q) = inr (in_front xs ys q)

  in_back : (xs ys : List (Told C R)) → IsAmong t ys → IsAmong t (xs ++ ys)
  in_back [] ys q = q
  in_back (x ∷ xs) ys q = inr (in_back xs ys q)

  -- and a receipt of all diaries is in the middle one or in the others
  here_or_there : (before behind : List (List (Told C R))) (d : List (Told C R)) → IsAmong t (all_of (before ++ d ∷ behind)) →
      IsAmong t d ⊎ IsAmong t (all_of (before ++ behind))
  here_or_there [] behind d q = parts d (all_of behind) q
  here_or_there (b ∷ bs) behind d q =
      elim (parts b (all_of (bs ++ d ∷ behind)) q) as (λ _. IsAmong t d ⊎ IsAmong t (b ++ all_of (bs ++ behind))) [
        | inl h ↦ inr (in_front b (all_of (bs ++ behind)) h)
        | inr h ↦ elim (here_or_there bs behind d h) as (λ _. IsAmong t d ⊎ IsAmong t (b ++ all_of (bs ++ behind)))
            [ inl k ↦ inl k | inr k ↦ inr (in_back b (all_of (bs ++ behind)) k) ]
      ]

not_mine : (a b : Bool) → (a ≡ true → b ≡ true) → b ≡ false → a ≡ false
not_mine true b h e = absurd (false≢true (sym e ∙ h refl))
not_mine false b h e = refl

module _ {T : Type 0} where
  -- what entries tell this receiver
  abbrev pub told_of : ℕ → List (BCall T × BReply T) → List (Option T)
  told_of rx [] = []
  told_of rx (x ∷ xs) = told_to rx x.0 x.1 ++ told_of rx xs

  said_tells : (rx : ℕ) (d : List (Told (BCall T) (BReply T))) → told_of rx (said_in d) ≡ told_in rx d
  said_tells rx [] = refl
  said_tells rx (t ∷ d) = ap (λ xs. told_to rx t.call t.reply ++ xs) (said_tells rx d)

  -- other calls tell it nothing
  silent : (rx : ℕ) (c : BCall T) (r : BReply T) → receives rx c ≡ false → told_to rx c r ≡ []
  silent rx (TryRecv q) r h = rw h refl
  silent rx (Recv q) r h = rw h refl
  silent rx (Send tx v) r h = refl
  silent rx (Subscribe tx) r h = refl
  silent rx (SubscribeOldest tx) r h = refl
  silent rx (Resubscribe q) r h = refl
  silent rx (CloneTx tx) r h = refl
  silent rx (DropTx tx) r h = refl
  silent rx (DropRx q) r h = refl
  silent rx (Queued tx) r h = refl
  silent rx (Left q) r h = refl
  silent rx (Readers tx) r h = refl

  -- so what the picked entries tell it is what all of them do
  picks : (rx : ℕ) (mine : BCall T → Bool) → ((c : BCall T) → receives rx c ≡ true → mine c ≡ true) →
      (es : List (BCall T × BReply T)) → told_of rx (picked mine es) ≡ told_of rx es
  picks rx mine m [] = refl
  picks rx mine m
      (x ∷ es) =
      elim (mine x.0) as
      (λ b. mine x.0 ≡ b → told_of rx (cond b (x ∷ picked mine es) (picked mine es)) ≡ told_to rx x.0 x.1 ++ told_of rx es) [
        | true ↦ λ _. ap (λ xs. told_to rx x.0 x.1 ++ xs) (picks rx mine m es)
        | false ↦ λ e. rw (silent rx x.0 x.1 (not_mine (receives rx x.0) (mine x.0) (m x.0) e)) (picks rx mine m es)
      ] refl

  as_run : (rx : ℕ) (es : List (BCall T × BReply T)) → told_of rx es ≡ all_told rx (map (λ (x : BCall T × BReply T). x.0) es)
      (map (λ (x : BCall T × BReply T). x.1) es)
  as_run rx [] = refl
  as_run rx (x ∷ es) = ap (λ xs. told_to rx x.0 x.1 ++ xs) (as_run rx es)

  replies : (e : Endless T) (es : List (BCall T × BReply T)) → IsRun e es →
      (run e (map (λ (x : BCall T × BReply T). x.0) es)).0 ≡ map (λ (x : BCall T × BReply T). x.1) es
  replies e [] h = refl
  replies e (x ∷ es) h = rw (h.0) (ap (λ rs. (step e x.0).0 ∷ rs) (replies (step e x.0).1 es h.1))

  pub ends : (e : Endless T) (es : List (BCall T × BReply T)) → (run e (map (λ (x : BCall T × BReply T). x.0) es)).1 ≡ end_of e es
  ends e [] = refl
  ends e (x ∷ es) = ends (step e x.0).1 es

  pub spares : (rx : ℕ) (es : List (BCall T × BReply T)) → AllByRecursion (λ x. Spares rx x.0) es → AllByRecursion (Spares rx)
      (map (λ (x : BCall T × BReply T). x.0) es)
  spares rx [] h = tt
  spares rx (x ∷ es) h = (h.0, spares rx es h.1)

  -- what a run tells
  pub run_tells : (e : Endless T) (rx : ℕ) (es : List (BCall T × BReply T)) → IsRun e es →
      told_of rx es ≡ all_told rx (map (λ (x : BCall T × BReply T). x.0) es) (run e (map (λ (x : BCall T × BReply T). x.0) es)).0
  run_tells e rx es h = as_run rx es ∙ ap (all_told rx (map (λ (x : BCall T × BReply T). x.0) es)) (sym (replies e es h))

  -- a whole diary tells what all entries do
  pub diary_tells : (mine : BCall T → Bool) (es : List (BCall T × BReply T)) (rx at : ℕ) (d : List (Told (BCall T) (BReply T))) →
      ((c : BCall T) → receives rx c ≡ true → mine c ≡ true) → IsWhole mine at es d → told_in rx d ≡ told_of rx es
  diary_tells mine es rx at d m w =
      sym (said_tells rx d) ∙ ap (told_of rx) (whole mine at es d w.stand w.rise w.own w.all) ∙ picks rx mine m es

  pub delivered : LawOfDelivery T → (e : Endless T) (es : List (BCall T × BReply T)) (rx first : ℕ)
      (told : List (Option T)) → IsProper e → IsRun e es → place_of e.index rx ≡ Some first → AllByRecursion
      (λ x. Spares rx x.0) es → told ≡ told_of rx es → Delivers e rx first told (end_of e es)
  delivered law e es rx first told proper legal there spared tells =
      let got = law e (map (λ (x : BCall T × BReply T). x.0) es) rx first proper there (spares rx es spared) in
      subst (λ end. Delivers e rx first told end) (ends e es)
      (subst (λ xs. Delivers e rx first xs (run e (map (λ (x : BCall T × BReply T). x.0) es)).1)
      (sym (tells ∙ run_tells e rx es legal)) got)

-- good diaries that tell of all: each is whole
module _ {S C R : Type 0} (p : Piece S C R) (mine : C → Bool) where
  at_all : (d : List (Told C R)) → AllByRecursion (Stands p) d → AllByRecursion (IsAt p.first p.entries) d
  at_all [] h = tt
  at_all (t ∷ d) h = ((h.0.begun, h.0.entry), at_all d h.1)

  not_there : (t : Told C R) (ts : List (Told C R)) → AllByRecursion (λ t. mine t.call ≡ false) ts → mine t.call ≡ true → IsAmong t ts → ⊥
  not_there t [] h m q = q
  not_there t (u ∷ ts) h m (inl e) = false≢true (sym h.0 ∙ ap (λ (z : Told C R). mine z.call) (sym e) ∙ m)
  not_there t (u ∷ ts) h m (inr q) = not_there t ts h.1 m q

  named : (k : ℕ) (t : Told C R) (d : List (Told C R)) → t.place ≡ k → IsAmong t d → Names k d
  named k t [] at q = q
  named k t (u ∷ d) at (inl e) = inl (sym at ∙ ap (λ (z : Told C R). z.place) e)
  named k t (u ∷ d) at (inr q) = inr (named k t d at q)

  pub is_whole : (ds before behind : List (List (Told C R))) (d : List (Told C R)) → ds ≡ before ++ d ∷ behind → AreGood p ds → length
      (all_of ds) ≡ length p.entries → AllByRecursion (λ t. mine t.call ≡ true) d → AllByRecursion (λ t. mine t.call ≡ false)
      (all_of (before ++ behind)) → IsWhole mine p.first p.entries d
  is_whole ds before behind d is g n own none = record {
    stand = at_all d (mid (λ d. AllByRecursion (Stands p) d) before behind d
        (subst (AllByRecursion (λ d. AllByRecursion (Stands p) d)) is g.stand));
    rise = mid (λ d. IsRising (map (λ (t : Told C R). t.place) d)) before behind d
        (subst (AllByRecursion (λ d. IsRising (map (λ (t : Told C R). t.place) d))) is g.rise);
    own = own;
    all = λ k e at m.
        let w = untold p ds g n k (get_lt p.entries k e at) in
        let same : e ≡ (w.receipt.call, w.receipt.reply) = same_Some e (w.receipt.call, w.receipt.reply) (sym at ∙ w.entry) in
        elim (here_or_there w.receipt before behind d (subst (λ ds. IsAmong w.receipt (all_of ds)) is w.among)) as
        (λ _. Names (p.first + k) d) [
          | inl q ↦ named (p.first + k) w.receipt d w.place q
          | inr q ↦
              absurd (not_there w.receipt (all_of (before ++ behind)) none (sym (ap (λ (x : C × R). mine x.0) same) ∙ m) q)
        ];
  }

-- what a diary tells that alone tells of a receiver
pub tells : {S T : Type 0} (p : Piece S (BCall T) (BReply T)) (rx : ℕ) (ds : List (List (Told (BCall T) (BReply T))))
    (d : List (Told (BCall T) (BReply T))) → AreGood p ds → length (all_of ds) ≡ length p.entries → TellsAlone rx ds d →
    told_in rx d ≡ told_of rx p.entries
tells p rx ds d g n a =
    diary_tells a.mine p.entries rx p.first d a.reads (is_whole p a.mine ds a.before a.behind d a.among g n a.own a.others)

pub audited : {S T : Type 0} → LawOfDelivery T → AuditedDiariesDeliver S T
audited law p e rx first ds d proper legal there spared g n a =
    delivered law e p.entries rx first (told_in rx d) proper legal there spared (tells p rx ds d g n a)

-- What a whole diary of a receiver tells is what was sent.
use Rattle.std.specs.Prelude.{◌≡◌, ℕ, Bool, true, false, ◌==◌, List, [], ◌∷◌, ◌++◌, length, Option, Some}
use Rattle.std.specs.List.{AllByRecursion}
use Rattle.th_model.specs.declared.broadcast.BCall.{BCall}
use Rattle.th_model.specs.declared.broadcast.BCall.TheVariants.{Send, TryRecv, Recv, Subscribe, SubscribeOldest, Resubscribe, CloneTx, DropTx, DropRx, Queued, Left, Readers}
use Rattle.th_model.specs.declared.broadcast.BReply.{BReply}
use Rattle.th_model.specs.Places.{place_of}
use Rattle.th_model.specs.BroadcastMachine.{Endless, IsProper, step}
use Rattle.th_model.specs.Delivery.{told_to, Spares, Delivers}
use Rattle.th_log.specs.Outcome.{Told}
use Rattle.th_log.specs.History.{Piece}
use Rattle.th_log.specs.Audit.{AreGood}
use Rattle.th_accounts.specs.Accounts.{all_of}

module _ {T : Type 0} where
  -- the replies are the machine's, one call after another
  abbrev pub IsRun : Endless T → List (BCall T × BReply T) → Type 0
  IsRun e [] = Unit {0}
  IsRun e (x ∷ xs) = (x.1 ≡ (step e x.0).0) × IsRun (step e x.0).1 xs

  abbrev pub end_of : Endless T → List (BCall T × BReply T) → Endless T
  end_of e [] = e
  end_of e (x ∷ xs) = end_of (step e x.0).1 xs

  -- the call is a receive by this receiver
  abbrev pub receives : ℕ → BCall T → Bool
  receives rx (TryRecv r) = r.0 == rx
  receives rx (Recv r) = r.0 == rx
  receives rx (Send tx v) = false
  receives rx (Subscribe tx) = false
  receives rx (SubscribeOldest tx) = false
  receives rx (Resubscribe r) = false
  receives rx (CloneTx tx) = false
  receives rx (DropTx tx) = false
  receives rx (DropRx r) = false
  receives rx (Queued tx) = false
  receives rx (Left r) = false
  receives rx (Readers tx) = false

  -- the values and the gaps of which a diary tells that this receiver was told
  abbrev pub told_in : ℕ → List (Told (BCall T) (BReply T)) → List (Option T)
  told_in rx [] = []
  told_in rx (t ∷ d) = told_to rx t.call t.reply ++ told_in rx d

  -- Of these diaries `d` alone tells of the calls `mine`, and of no other call. Every receive of the receiver rx is among
  -- these calls.
  pub record TellsAlone (rx : ℕ) (diaries : List (List (Told (BCall T) (BReply T))))
      (d : List (Told (BCall T) (BReply T))) : Type 0 where
    pub mine : BCall T → Bool
    pub reads : (c : BCall T) → receives rx c ≡ true → mine c ≡ true
    pub before : List (List (Told (BCall T) (BReply T)))
    pub behind : List (List (Told (BCall T) (BReply T)))
    pub among : diaries ≡ before ++ d ∷ behind
    pub own : AllByRecursion (λ t. mine t.call ≡ true) d
    pub others : AllByRecursion (λ t. mine t.call ≡ false) (all_of (before ++ behind))

-- What stands in the diaries is good and as much as the history has, and `d` alone tells of the receives of the receiver rx.
-- Then what `d` tells of it is the values sent from its first place on, in order, with a gap for each that it missed, and as
-- many as its place rose.
abbrev pub AuditedDiariesDeliver : Type 0 → Type 0 → Type 0
AuditedDiariesDeliver S T = (p : Piece S (BCall T) (BReply T)) (e : Endless T) (rx first : ℕ)
    (diaries : List (List (Told (BCall T) (BReply T)))) (d : List (Told (BCall T) (BReply T)))
    → IsProper e → IsRun e p.entries → place_of e.index rx ≡ Some first
    → AllByRecursion (λ x. Spares rx x.0) p.entries
    → AreGood p diaries → length (all_of diaries) ≡ length p.entries → TellsAlone rx diaries d
    → Delivers e rx first (told_in rx d) (end_of e p.entries)

-- Diaries that tell of a whole part of a history.
use Rattle.std.specs.Prelude.{◌≡◌, ℕ, ◌+◌, ◌<◌, ◌⊎◌, List, [], ◌∷◌, ◌++◌, length, Some, slice_get}
use Rattle.th_log.specs.Outcome.{Told}
use Rattle.th_log.specs.History.{Piece}
use Rattle.th_log.specs.Audit.{AreGood}
use Rattle.th_log.specs.Audited.{IsFault}
use Rattle.th_accounts.specs.declared.account.AccountFault.{AccountFault}
use Rattle.th_accounts.specs.declared.account.AccountFault.TheVariants.{Audit, Untold}

-- the receipts of all diaries
abbrev pub all_of : {C R : Type 0} → List (List (Told C R)) → List (Told C R)
all_of [] = []
all_of (d ∷ ds) = d ++ all_of ds

-- the receipt is among these
abbrev pub IsAmong : {C R : Type 0} → Told C R → List (Told C R) → Type 0
IsAmong t [] = ⊥
IsAmong t (u ∷ us) = (t ≡ u) ⊎ IsAmong t us

-- somebody was told of the entry at this number
pub record WasTold {S C R : Type 0} (p : Piece S C R) (diaries : List (List (Told C R)))
    (k : ℕ) : Type 0 where
  pub receipt : Told C R
  pub among : IsAmong receipt (all_of diaries)
  pub place : receipt.place ≡ p.first + k
  pub entry : slice_get p.entries k ≡ Some (receipt.call, receipt.reply)

-- the audit says yes, there are as many receipts as entries, and somebody was told of each entry
pub record IsAccount {S C R : Type 0} (p : Piece S C R) (diaries : List (List (Told C R))) :
    Type 0 where
  pub good : AreGood p diaries
  pub count : length (all_of diaries) ≡ length p.entries
  pub all : (k : ℕ) → k < length p.entries → WasTold p diaries k

-- why it is none: the audit's fault; or so many entries more than receipts
abbrev pub IsNoAccount : {S C R : Type 0} → Piece S C R → List (List (Told C R)) →
    AccountFault → Type 0
IsNoAccount p diaries (Audit fault) = IsFault p diaries fault
IsNoAccount p diaries (Untold entries) =
    AreGood p diaries × (0 < entries) × (length (all_of diaries) + entries ≡ length p.entries)

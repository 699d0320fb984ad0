-- What a reader of a watch channel that waits is waiting for.
use Rattle.std.specs.Prelude.{◌≡◌, ◌≢◌, ℕ, Bool, false, length}
use Rattle.th_model.specs.declared.handles.RxId.{RxId}
use Rattle.th_model.specs.declared.watch.WCall.{WCall}
use Rattle.th_model.specs.declared.watch.WCall.TheVariants.{Borrow, Take, HasChanged, TryChanged, Changed, MarkChanged, MarkUnchanged, CloneRx, DropRx}
use Rattle.th_model.specs.WatchPicture.{Picture, IsSound, answer, is_ready}

module _ {T : Type 0} where
  -- the call is not this reader's own
  abbrev pub IsAnothers : ℕ → WCall T → Type 0
  IsAnothers rx (Borrow r) = rx ≢ r.0
  IsAnothers rx (Take r) = rx ≢ r.0
  IsAnothers rx (HasChanged r) = rx ≢ r.0
  IsAnothers rx (TryChanged r) = rx ≢ r.0
  IsAnothers rx (Changed r) = rx ≢ r.0
  IsAnothers rx (MarkChanged r) = rx ≢ r.0
  IsAnothers rx (MarkUnchanged r) = rx ≢ r.0
  IsAnothers rx (CloneRx r) = rx ≢ r.0
  IsAnothers rx (DropRx r) = rx ≢ r.0
  IsAnothers rx call = Unit {0}

-- Who waits before another's call waits after it too, but where the call published a version, or no sender is left.
abbrev pub LawOfWatchNews : Type 0 → Type 0
LawOfWatchNews T = (eq : T → T → Bool) (p : Picture T) (call : WCall T) (rx : RxId) → IsSound p
    → IsAnothers rx.0 call → is_ready p (Changed rx) ≡ false
    → (answer eq p call).1.version ≡ p.version → (length (answer eq p call).1.senders ≡ 0 → ⊥)
    → is_ready (answer eq p call).1 (Changed rx) ≡ false

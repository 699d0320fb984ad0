-- What a receiver that waits is waiting for.
use Rattle.std.specs.Prelude.{◌≡◌, ◌≢◌, ℕ, false, length}
use Rattle.th_model.specs.declared.handles.RxId.{RxId}
use Rattle.th_model.specs.declared.broadcast.BCall.{BCall}
use Rattle.th_model.specs.declared.broadcast.BCall.TheVariants.{Send, TryRecv, Recv, Subscribe, SubscribeOldest, Resubscribe, CloneTx, DropTx, DropRx, Queued, Left, Readers}
use Rattle.th_model.specs.declared.broadcast.BReply.{BReply}
use Rattle.th_model.specs.declared.broadcast.BReply.TheVariants.{Sent}
use Rattle.th_model.specs.BroadcastPicture.{Picture, IsSound, answer, is_ready}

module _ {T : Type 0} where
  -- the call is not this receiver's own
  abbrev pub IsAnothers : ℕ → BCall T → Type 0
  IsAnothers rx (TryRecv r) = rx ≢ r.0
  IsAnothers rx (Recv r) = rx ≢ r.0
  IsAnothers rx (DropRx r) = rx ≢ r.0
  IsAnothers rx (Send tx v) = Unit {0}
  IsAnothers rx (Subscribe tx) = Unit {0}
  IsAnothers rx (SubscribeOldest tx) = Unit {0}
  IsAnothers rx (Resubscribe r) = Unit {0}
  IsAnothers rx (CloneTx tx) = Unit {0}
  IsAnothers rx (DropTx tx) = Unit {0}
  IsAnothers rx (Queued tx) = Unit {0}
  IsAnothers rx (Left r) = Unit {0}
  IsAnothers rx (Readers tx) = Unit {0}

  -- of a reply and the picture after it: a value was sent
  abbrev pub IsSent : BReply T → Type 0
  IsSent reply = (n : ℕ) × (reply ≡ Sent n)

-- Who waits before another's call waits after it too, but where the call sent a value, or no sender is left.
abbrev pub LawOfNews : Type 0 → Type 0
LawOfNews T = (p : Picture T) (call : BCall T) (rx : RxId) → IsSound p → IsAnothers rx.0 call
    → is_ready p (Recv rx) ≡ false
    → (IsSent (answer p call).0 → ⊥) → (length (answer p call).1.senders ≡ 0 → ⊥)
    → is_ready (answer p call).1 (Recv rx) ≡ false

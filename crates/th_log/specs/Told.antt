-- What the receipts of receivers tell (docs/HISTORIES.md, "Receipts").
use Rattle.std.specs.Prelude.{◌≡◌, Bool}
use Rattle.th_model.specs.declared.handles.RxId.{RxId}
use Rattle.th_model.specs.declared.broadcast.BCall.{BCall}
use Rattle.th_model.specs.declared.broadcast.BCall.TheVariants.{Recv, TryRecv}
use Rattle.th_model.specs.declared.broadcast.BReply.{BReply}
use Rattle.th_model.specs.declared.watch.WCall.{WCall}
use Rattle.th_model.specs.declared.watch.WCall.TheVariants.{Changed}
use Rattle.th_model.specs.declared.watch.WReply.{WReply}
use Rattle.th_model.specs.BroadcastPicture as bp
use Rattle.th_model.specs.WatchPicture as wp
use Rattle.th_log.specs.Machines.{broadcast, watch}
use Rattle.th_log.specs.Outcome.{IsAnswered, Told}
use Rattle.th_log.specs.Replies.{IsChanged, IsReceived, IsTried}

-- a receive that waits is never told that there is nothing yet, and a lag is of one value at least
abbrev pub LawOfReceives : Type 0 → Type 0
LawOfReceives T = (t : Told (BCall T) (BReply T)) (rx : RxId) → IsAnswered broadcast bp.IsSound t
    → (t.call ≡ Recv rx → IsReceived t.reply) × (t.call ≡ TryRecv rx → IsTried t.reply)

-- a wait for a version is never told that there is none yet
abbrev pub LawOfChanges : Type 0 → Type 0
LawOfChanges T = (eq : T → T → Bool) (t : Told (WCall T) (WReply T)) (rx : RxId)
    → IsAnswered (watch eq) wp.IsSound t → t.call ≡ Changed rx → IsChanged t.reply

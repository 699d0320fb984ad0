-- What the receipts of receivers tell, of one call and of a loop.
use Rattle.std.proofs.Common.{Bool, Option, Some, None, Result, Ok, Err}
use Rattle.std.specs.Prelude.{IfOk, IfSome}
use Rattle.th_model.specs.declared.handles.RxId.{RxId}
use Rattle.th_model.specs.declared.broadcast.BCall.{BCall}
use Rattle.th_model.specs.declared.broadcast.BCall.TheVariants.{Recv}
use Rattle.th_model.specs.declared.broadcast.BReply.{BReply}
use Rattle.th_model.specs.BroadcastPicture as bp
use Rattle.th_log.proofs.Told.{receives}
use Rattle.th_log.specs.Machines.{broadcast}
use Rattle.th_log.specs.Outcome.{IsAnswered, Told}
use Rattle.th_log.specs.Replies.{IsReceived}
use Rattle.th_log.specs.declared.receipt.Refused.{Refused}
use Rattle.th_block.specs.Handles.{Calls, Holder, IsNext, IsNextTold}

module _ {T : Type 0} where
  module _ (old new : Holder) (rx : RxId) where
    pub received : (result : Result (Told (BCall T) (BReply T)) (Refused (BCall T))) → Calls old new (Recv rx) result
        → IfOk result (IsAnswered broadcast bp.IsSound) → IfOk result (λ r. IsReceived r.reply)
    received (Ok r) calls is = (receives T r rx is).0 calls.outcome.tells.call_is
    received (Err e) calls is = tt

    pub next_received : (ends : BReply T → Bool) (result : Option (Result (Told (BCall T) (BReply T)) (Refused (BCall T))))
        → IsNext ends old new (Recv rx) result
        → IfSome result (λ told. IfOk told (IsAnswered broadcast bp.IsSound)) → IfSome result (λ told. IfOk told (λ r. IsReceived r.reply))
    next_received ends None next is = tt
    next_received ends (Some told) next is = received told next.0 is

    pub received_in_loop : (ends : BReply T → Bool) (result : Result (Told (BCall T) (BReply T) × Bool) (Refused (BCall T)))
        → IsNextTold ends old new (Recv rx) result
        → IfOk result (λ r. IsAnswered broadcast bp.IsSound r.0) → IfOk result (λ r. IsReceived r.0.reply)
    received_in_loop ends (Ok r) next is = (receives T r.0 rx is).0 next.0.outcome.tells.call_is
    received_in_loop ends (Err e) next is = tt

-- What came of an event of which nobody keeps the receipt: its reply stands in the last entry of the log.
use Rattle.std.specs.Prelude.{◌≡◌, Bool, false, Option, Some, Result, Ok, Err}
use Rattle.th_model.specs.declared.handles.RxId.{RxId}
use Rattle.th_model.specs.declared.handles.TxId.{TxId}
use Rattle.th_log.specs.History.{Machine, last_reply}
use Rattle.th_registry.specs.declared.outcome.NoEvent.{NoEvent}
use Rattle.th_registry.specs.History.{History}
use Rattle.th_registry.specs.Outcomes.{KindSays}
use Rattle.th_registry.specs.Receipts.{Receipt}

-- of a receipt that nobody keeps, the reply is the last one; and where there is none, it is known why
abbrev pub IsLeft : {A R : Type 0} → (A → R) → Result A NoEvent → Result (Unit {0}) NoEvent →
    (last : Option R) → Type 0
IsLeft reply (Ok receipt) (Ok _) last = last ≡ Some (reply receipt)
IsLeft reply (Err why) (Err reason) last = reason ≡ why
IsLeft reply said kept last = ⊥

-- of one call, not through the hub's own sender
abbrev pub KindKeeps : {E S C R : Type 0} → Machine E S C R → (has_sender : S → TxId → Bool) →
    (has_receiver : S → RxId → Bool) → (waits : C → R → Bool) → History S S C R → Option C →
    Result (Unit {0}) NoEvent → History S S C R → Type 0
KindKeeps {C = C} {R = R} m has_sender has_receiver waits old call kept new =
    (said : Result (Receipt C R) NoEvent)
    × KindSays m has_sender has_receiver waits old false call said new
    × IsLeft (λ receipt. receipt.reply) said kept (last_reply new.entries)

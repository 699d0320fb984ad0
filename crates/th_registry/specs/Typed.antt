-- What the calls of a desk answer, as what is said of their events: with the numbers of handles in place of the handles.
use Rattle.std.specs.Prelude.{Some, None, Result, Ok, Err}
use Rattle.th_model.specs.declared.handles.TxId.{TxId}
use Rattle.th_model.specs.declared.handles.RxId.{RxId}
use Rattle.th_registry.specs.declared.outcome.Made.{Made}
use Rattle.th_registry.specs.declared.outcome.NoEvent.{NoEvent}
use Rattle.th_registry.specs.declared.outcome.Unspent.{Unspent}
use Rattle.th_registry.specs.Events.{Outcome, NewTx, NewRx, Ended, Replied, made_or}
use Rattle.th_registry.specs.Hub.{Noted}
use Rattle.th_registry.specs.Receipts.{ChannelReceipt, reply_in}

module _ {H : Type 0} where
  -- what came of a call that makes a handle
  abbrev pub outcome_of : (H → Outcome) → Made H → Outcome
  outcome_of number came = made_or number (reply_in came.receipt) came.handle

  -- and what is said of it
  abbrev pub made : (H → Outcome) → Result (Made H) NoEvent → Noted
  made number (Ok came) = (Ok (outcome_of number came), Some came.receipt)
  made number (Err why) = (Err why, None)

  abbrev pub made_tx : (H → TxId) → Result (Made H) NoEvent → Noted
  made_tx tx said = made (λ h. NewTx (tx h)) said

  abbrev pub made_rx : (H → RxId) → Result (Made H) NoEvent → Noted
  made_rx rx said = made (λ h. NewRx (rx h)) said

  -- of one that spends a handle, which may come back
  abbrev pub spent : Result (Unit {0}) (Unspent H) → Noted
  spent (Ok _) = (Ok Ended, None)
  spent (Err unspent) = (Err unspent.why, None)

-- of one that ends the hub's own sender
abbrev pub ended : Result (Unit {0}) NoEvent → Noted
ended (Ok _) = (Ok Ended, None)
ended (Err why) = (Err why, None)

-- of any other
abbrev pub replied : Result ChannelReceipt NoEvent → Noted
replied (Ok receipt) = (Ok (Replied (reply_in receipt)), Some receipt)
replied (Err why) = (Err why, None)

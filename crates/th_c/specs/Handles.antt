-- The handles of a channel, by the numbers that C has.
use Rattle.std.specs.Prelude.{ℕ}
use Rattle.th_model.specs.declared.handles.RxId.{RxId}
use Rattle.th_model.specs.declared.handles.TxId.{TxId}

abbrev pub sender : ℕ → TxId
sender number = record { 0 = number }

abbrev pub receiver : ℕ → RxId
receiver number = record { 0 = number }

-- The answers of an audit.
use Rattle.std.specs.Prelude.{List}
use Rattle.th_log.specs.declared.audits.AuditFault.{AuditFault}
use Rattle.th_log.specs.declared.audits.AuditFault.TheVariants.{Stranger, Short}
use Rattle.th_log.specs.History.{Piece}
use Rattle.th_log.specs.Outcome.{Told}
use Rattle.th_log.specs.Audit.{IsFirstStranger}

-- the fault names the place of the first receipt that is not good, or memory was refused
abbrev pub IsFault : {S C R : Type 0} → Piece S C R → List (List (Told C R)) → AuditFault
    → Type 0
IsFault p diaries (Stranger place) = IsFirstStranger p diaries place
IsFault p diaries Short = Unit {0}

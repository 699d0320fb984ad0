use Rattle.std.proofs.Common.{arith}
use Rattle.th_log.specs.Audit.{told_of}
use Rattle.th_accounts.proofs.Untold.{account}
use Rattle.th_accounts.proofs.account.audit_whole.Goals as goal

pub returns-in-0 : goal.returns-in-0
returns-in-0 g c = account c.args.segment.now (told_of c.args.diaries.now) c.in-Ok.ensures
    (omega (arith, c.len.ensures.len, c.untold.ensures, c.in-0.is))

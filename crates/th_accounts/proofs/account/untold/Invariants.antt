use Rattle.std.proofs.Common.{◌≡◌, ◌-◌, length, drop}
use Rattle.th_log.specs.Audit.{told_of}
use Rattle.th_accounts.specs.Accounts.{all_of}
use Rattle.th_accounts.proofs.account.untold.Given as goal

abbrev pub invariant-loop-diary : goal.invariant-loop-diary
invariant-loop-diary g l =
    l.left - length (all_of (told_of (drop l.diary-index l.diaries))) ≡ l.entries - length (all_of (told_of l.diaries))

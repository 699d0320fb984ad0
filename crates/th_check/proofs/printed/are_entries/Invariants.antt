use Rattle.std.proofs.Common.{drop}
use Rattle.std.specs.List.{AllByRecursion}
use Rattle.th_check.specs.Printed.{IsPrinted}
use Rattle.th_check.proofs.printed.are_entries.Given as goal

abbrev pub invariant-loop-call : goal.invariant-loop-call
invariant-loop-call g l =
    let kind = g.C.JudgedCall in
    AllByRecursion (IsPrinted kind.call_fits kind.reply_fits) (drop l.call-index l.entries) → AllByRecursion
    (IsPrinted kind.call_fits kind.reply_fits) l.entries

use Rattle.std.proofs.Common.{rules}
use Rattle.std.specs.List.{AllByRecursion}
use Rattle.th_lines.specs.Commands.{IsValue}
use Rattle.th_check.specs.Printed.{IsWatchPrinted}
use Rattle.th_check.proofs.PrintedWatch.{watch_legal}
use Rattle.th_check.proofs.laws.printed_watch_traces_are_legal.Goals as goal

pub returns : goal.returns
returns c =
    let s = c.args.segment.now in
    let legal = c.len.ensures.legal in
    let value : IsValue s.start.last = search rules in
    let printed : AllByRecursion IsWatchPrinted s.entries = search rules in
    λ few. watch_legal s.start s.entries legal.sound legal.run value printed few

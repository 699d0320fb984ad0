use Rattle.std.proofs.Common.{rules}
use Rattle.std.specs.List.{AllByRecursion}
use Rattle.th_lines.specs.Commands.{IsValue}
use Rattle.th_check.specs.Printed.{IsBroadcastPrinted}
use Rattle.th_check.proofs.PrintedBroadcast.{broadcast_legal}
use Rattle.th_check.proofs.laws.printed_broadcast_traces_are_legal.Goals as goal

pub returns : goal.returns
returns g c =
    let s = c.args.segment.now in
    let legal = c.len.ensures.legal in
    let values : AllByRecursion IsValue s.start.window.kept = search rules in
    let printed : AllByRecursion IsBroadcastPrinted s.entries = search rules in
    λ few. broadcast_legal s.start s.entries legal.sound legal.run values printed few

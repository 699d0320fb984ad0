use Rattle.std.proofs.Common.{◌≡◌, ◌++◌, map, take}
use Rattle.th_traces.specs.Grammars.{fields}
use Rattle.th_traces.specs.Spelled.{entry_lines, text}
use Rattle.th_traces.specs.BroadcastWords.{grammar}
use Rattle.th_c.specs.SpelledValues.{broadcast_entry}
use Rattle.th_c.proofs.printing.print_broadcast_entries.Given as goal

-- the entries so far
abbrev pub invariant-loop-call : goal.invariant-loop-call
invariant-loop-call g l =
    let told = fields grammar (map (broadcast_entry g.T.Payload.spelled) (take l.call-index l.entries)) in
    l.out.items ≡ l.fn.out.items ++ text (entry_lines told)

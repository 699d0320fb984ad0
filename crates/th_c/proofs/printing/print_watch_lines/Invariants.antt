use Rattle.std.proofs.Common.{◌≡◌, ◌++◌, length}
use Rattle.th_traces.specs.Spelled.{text}
use Rattle.th_c.proofs.printing.print_watch_lines.Given as goal

-- what is printed and what is to come are all of it
abbrev pub invariant-loop : goal.invariant-loop
invariant-loop l = l.out.items ++ text l.lines ≡ l.fn.out.items ++ text l.fn.lines

abbrev pub decreases-loop : goal.decreases-loop
decreases-loop l = length l.lines

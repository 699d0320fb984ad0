use Rattle.std.proofs.Common.{◌++◌, Bool, Ok, ℕ, List, subst}
use Rattle.th_traces.specs.Spelled.{text}
use Rattle.th_traces.specs.ToCome.{PrintsNext}
use Rattle.th_c.proofs.Printed.{lines-over}
use Rattle.th_c.proofs.printing.print_broadcast_lines.Goals as goal

pub returns-in-Ok-false : goal.returns-in-Ok-false
returns-in-Ok-false c =
    let all : List ℕ = c.args.out.now.items ++ text c.args.lines in
    let come = c.loop.lines in
    let after = c.print_next.new.self in
    let old : List ℕ = c.loop.out.items in
    let new : List ℕ = c.print_next.new.out.items in
    let printed = subst (λ (m : Bool). PrintsNext {E = Unit {0}} come after old new (Ok m)) c.in-Ok-false.field-0-test
    c.in-Ok-false.ensures.printed in
    lines-over come after all old new c.loop.invariant printed

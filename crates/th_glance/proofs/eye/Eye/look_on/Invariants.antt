use Rattle.std.proofs.Common.{◌≡◌, ◌≤◌}
use mathlib.Core.List.{IsPrefix}
use Rattle.th_glance.specs.Lists.{last_count}
use Rattle.th_glance.proofs.eye.Eye.look_on.Given as goal

abbrev pub invariant-loop : goal.invariant-loop
invariant-loop g l = (l.self.table ≡ l.initial.self.table) × IsPrefix l.initial.self.list l.self.list
    × (last_count l.initial.self.list ≤ last_count l.self.list)

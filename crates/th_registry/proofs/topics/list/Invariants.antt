use Rattle.std.proofs.Common.{◌≡◌, ◌++◌}
use Rattle.th_registry.specs.Hub.{list}
use Rattle.th_registry.proofs.topics.list.Given as goal

-- what is listed, and what is left to list
abbrev pub invariant-loop-name : goal.invariant-loop-name
invariant-loop-name g l = l.rows.items ++ list l.name-iterator ≡ list l.initial.name-iterator

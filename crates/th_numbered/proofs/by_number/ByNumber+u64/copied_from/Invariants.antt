use Rattle.std.proofs.Common.{◌≡◌, ◌++◌}
use Rattle.th_numbered.proofs.Lemmas.{slots_of}
use Rattle.th_numbered.proofs.by_number.ByNumber+u64.copied_from.Given as goal

abbrev pub invariant-loop-n : goal.invariant-loop-n
invariant-loop-n l = l.list.items ++ slots_of l.n-iterator ≡ slots_of l.map.entries

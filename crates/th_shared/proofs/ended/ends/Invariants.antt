use Rattle.std.proofs.Common.{◌+◌, ◌++◌, ◌≤◌, List, length, vec_capacity, vec_len}
use Rattle.th_shared.specs.declared.ended.Ended.{Ended}
use Rattle.th_shared.specs.Ending.{AreEnds}
use Rattle.th_shared.proofs.ended.ends.Given as goal

abbrev pub invariant-loop-name : goal.invariant-loop-name
invariant-loop-name g l = record {
  so_far : (rest : List Ended) → AreEnds l.name-iterator rest → AreEnds l.fn.topics.entries (l.list.items ++ rest);
  room : vec_len l.list + length l.name-iterator ≤ vec_capacity l.list;
}

use Rattle.std.proofs.Common.{◌≡◌, ◌-◌, length, drop}
use Rattle.th_numbered.specs.Slots.{StartsWithGaps, present}
use Rattle.th_numbered.proofs.by_number.entry_from.Given as goal

abbrev pub invariant-loop-k : goal.invariant-loop-k
invariant-loop-k g l = record {
  rest : present (drop l.k l.list.items) ≡ present (drop l.i l.list.items);
  gaps : StartsWithGaps l.i l.list.items → StartsWithGaps l.k l.list.items;
}

abbrev pub decreases-loop-k : goal.decreases-loop-k
decreases-loop-k g l = length l.list.items - l.k

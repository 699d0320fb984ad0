use Rattle.std.proofs.Common.{◌≡◌, ℕ, ◌-◌, List}
use Rattle.std.specs.Prelude.{Option}
use Rattle.th_lines.specs.Feeding.{Underway}
use Rattle.th_lines.proofs.feeder.Feeder.take_all.Given as goal

abbrev pub invariant-loop-alloc : goal.invariant-loop-alloc
invariant-loop-alloc g l = record {
  under : (reader reader' : Option (List ℕ)) (reads : ℕ) (from : g.row.T.Denot × g.row.D.Denot × g.row.W.Denot)
      → Underway g.T.TakesLines.took g.T.TakesLines.halts reader reader' from reads l.fn.self (l.fn.taker, l.fn.desk, l.fn.writer)
      → Underway g.T.TakesLines.took g.T.TakesLines.halts reader reader' from reads l.self (l.taker, l.desk, l.writer);
  limit : l.self.limit ≡ l.fn.self.limit;
}

abbrev pub decreases-loop-alloc : goal.decreases-loop-alloc
decreases-loop-alloc g l = l.self.limit - l.self.taken

use Rattle.th_program.specs.Sums.{Takes}
use Rattle.th_program.proofs.sums.add_all.Given as goal

abbrev pub invariant-loop : goal.invariant-loop
invariant-loop g l = record {
  takes : Takes (g.R.Read.remaining l.fn.reader) (g.R.Read.remaining l.reader) l.fn.hasher l.hasher;
}

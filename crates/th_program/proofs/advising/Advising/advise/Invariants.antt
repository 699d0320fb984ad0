use Rattle.std.proofs.Common.{◌≡◌, take}
use Rattle.th_program.specs.Advice.{Hears}
use Rattle.th_program.proofs.advising.Advising.advise.Given as goal

-- the bytes up to here were heard, and the advice on them was said
abbrev pub invariant-loop-byte : goal.invariant-loop-byte
invariant-loop-byte g l = record {
  output : l.self.output ≡ l.fn.self.output;
  heard : Hears g.E.Write.contents l.fn.self l.self (take l.byte-index l.replies);
}

use Rattle.std.proofs.Common.{◌≡◌, map, take}
use Rattle.th_check.specs.Explaining.{plain}
use Rattle.th_check.proofs.explain.plain_of.Given as goal

-- the bytes so far, as a terminal may have them
abbrev pub invariant-loop-byte : goal.invariant-loop-byte
invariant-loop-byte l = l.shown.items ≡ map plain (take l.byte-index l.raw)

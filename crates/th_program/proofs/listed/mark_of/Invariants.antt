use Rattle.std.proofs.Common.{◌≡◌, drop}
use Rattle.th_program.specs.Listed.{mark_of}
use Rattle.th_program.proofs.listed.mark_of.Given as goal

-- the rest of the text decides
abbrev pub invariant-loop-byte : goal.invariant-loop-byte
invariant-loop-byte l = mark_of (drop l.byte-index l.text) ≡ mark_of l.text

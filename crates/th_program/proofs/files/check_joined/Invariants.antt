use Rattle.std.proofs.Common.{◌≡◌, map, string_bytes, take}
use Rattle.th_program.proofs.Telling.{UpTo}
use Rattle.th_program.proofs.files.check_joined.Given as goal

-- the files up to here are one history, which stands there by their names, and nothing was told
abbrev pub invariant-loop-name : goal.invariant-loop-name
invariant-loop-name g l = record {
  up : UpTo (g.O.Opens.holds l.files) (map string_bytes (take l.name-index l.names)) l.count l.history l.place;
  same : l.output ≡ l.fn.output;
}

use Rattle.std.proofs.Common.{map, string_bytes, take}
use Rattle.th_program.specs.Files.{EachIsTold}
use Rattle.th_program.specs.Run.{errors_of}
use Rattle.th_program.proofs.files.check_files.Given as goal

-- the files up to here were checked
abbrev pub invariant-loop-name : goal.invariant-loop-name
invariant-loop-name g l = EachIsTold (g.O.Opens.holds l.files) (map string_bytes (take l.name-index l.names))
    (g.W.Write.contents l.fn.output.device) (g.W.Write.contents l.output.device) l.people
    (errors_of g.E.Write.contents l.fn.errors) (errors_of g.E.Write.contents l.errors) l.end

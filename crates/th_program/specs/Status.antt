-- How the program ends, and what it says of that.
use Rattle.std.specs.Prelude.{ℕ, List, Option, Some, None, codes}
use Rattle.th_program.specs.declared.end.End.{End}
use Rattle.th_program.specs.declared.end.End.TheVariants.{Done, Help, Read, Write, TooLong, Short, Socket, Usage, Illegal, Bad, Apart, Partial}

-- 0: done; 1: stopped by the machine or a limit; 2: wrong words; 3: a fault found in a trace
abbrev pub status_of : End → ℕ
status_of Done = 0
status_of Help = 0
status_of Read = 1
status_of Write = 1
status_of TooLong = 1
status_of Short = 1
status_of Socket = 1
status_of Usage = 2
status_of Illegal = 3
status_of Bad = 3
status_of Apart = 3
status_of Partial = 3

-- the line on standard error, one exactly where the status is 1
abbrev pub explanation_of : End → Option (List ℕ)
explanation_of Done = None
explanation_of Help = None
explanation_of Read = Some (codes "topichub: read fault")
explanation_of Write = Some (codes "topichub: write fault")
explanation_of TooLong = Some (codes "topichub: too long")
explanation_of Short = Some (codes "topichub: no memory")
explanation_of Socket = Some (codes "topichub: socket fault")
explanation_of Usage = None
explanation_of Illegal = None
explanation_of Bad = None
explanation_of Apart = None
explanation_of Partial = None

-- What words ask a server for, and what came of it.
use Rattle.std.specs.Prelude.{◌≡◌, ℕ, List, Option, Some, None, Result, Ok, Err, IfSome, length, string_bytes, codes}
use Rattle.std.specs.declared.alloc.Global.{Global}
use Rattle.std.specs.declared.string.String.{String}
use Rattle.std.specs.declared.vec.Vec.{Vec}
use Rattle.th_program.specs.declared.end.End.{End}
use Rattle.th_program.specs.declared.end.End.TheVariants as end
use Rattle.th_program.specs.declared.modes.Serving.{Serving}
use Rattle.th_program.specs.declared.modes.Serving.TheVariants.{Sessions, Standing}
use Rattle.th_program.specs.Words.{ServesBy, arguments_by, text_of}
use Rattle.th_server.specs.declared.outcome.Outcome.{Outcome}
use Rattle.th_sockets.specs.declared.attended.Attended.{Attended}
use Rattle.th_sockets.specs.declared.serve.ServeFault.{ServeFault}
use Rattle.th_sockets.specs.declared.serve.ServeFault.TheVariants as fault
use Rattle.th_sockets.specs.declared.serve.Served.{Served}

-- the words ask for a server at this path that serves so
abbrev pub Asks : List (List ℕ) → String Global × Serving → Type 0
Asks words (path, serving) =
    (string_bytes path ≡ text_of (codes "PATH") (arguments_by words))
    × ServesBy (arguments_by words) serving

-- as many sessions have ended as were asked for, where a number was
abbrev pub HaveEnded : Option (String Global × Serving) → List Attended → Type 0
HaveEnded None ended = ⊥
HaveEnded (Some (path, Sessions count)) ended = length ended ≡ count
HaveEnded (Some (path, Standing how)) ended = Unit {0}

-- What was asked for is what the words say, if there was memory to read them; and all was done only once the sessions have ended
-- that they ask for.
pub record Serves (words : List (List ℕ)) (o : Outcome) : Type 0 where
  pub asked : IfSome o.asked (Asks words)
  pub unread : o.asked ≡ None → o.end ≡ end.Short
  pub done : o.end ≡ end.Done → HaveEnded o.asked o.sessions.items

-- the sessions, once all of them have ended; or what ended the server before
abbrev pub sessions_of : {R : Type 0} → Result (Served R) (ServeFault R) →
    Result (Vec Attended Global) End
sessions_of (Ok served) = Ok served.sessions
sessions_of (Err (fault.Accept served)) = Err end.Socket
sessions_of (Err (fault.Start served)) = Err end.Socket
sessions_of (Err (fault.Short served)) = Err end.Short

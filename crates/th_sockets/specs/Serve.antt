-- Sessions that were served, each in a thread of its own.
use Rattle.std.specs.Prelude.{ℕ, ◌+◌, ◌<◌, List, [], Some, None, Result, Ok, Err, length, slice_index_or}
use Rattle.th_session.specs.Run.{Strictness}
use Rattle.th_session.specs.declared.bounds.Bounds.{Bounds}
use Rattle.th_session.specs.declared.keeping.Keeping.{Keeping}
use Rattle.th_shared.specs.Saying.{Says}
use Rattle.th_sockets.specs.Attended.{HasEnded}
use Rattle.th_sockets.specs.declared.attended.Attended.{Attended}
use Rattle.th_sockets.specs.declared.serve.ServeFault.{ServeFault}
use Rattle.th_sockets.specs.declared.serve.ServeFault.TheVariants.{Accept, Short, Start}
use Rattle.th_sockets.specs.declared.serve.Served.{Served}

-- the sessions that have ended, also where there were fewer than were asked for
abbrev pub ended_in : {R : Type 0} → Result (Served R) (ServeFault R) → List Attended
ended_in (Ok served) = served.sessions.items
ended_in (Err (Accept served)) = served.sessions.items
ended_in (Err (Start served)) = served.sessions.items
ended_in (Err (Short None)) = []
ended_in (Err (Short (Some served))) = served.sessions.items

-- Each of these was run as the session of its number, counted from 1, by these bounds, at a gate that is so strict with it.
abbrev pub EachHasEnded : (ℕ → Strictness) → Keeping → Bounds → List Attended → Type 0
EachHasEnded gate keeping bounds sessions = (at : ℕ) (other : Attended) → at < length sessions →
    HasEnded Says (gate (at + 1)) keeping bounds (slice_index_or sessions at other)

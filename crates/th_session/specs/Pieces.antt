-- The pieces of a trace that are to come.
use Rattle.std.specs.Prelude.{ℕ, List}
use Rattle.th_session.specs.declared.trace.TraceLines.{TraceLines}
use Rattle.th_session.specs.declared.trace.TraceLines.TheVariants.{Broadcast, Watch}

-- of a channel of either kind
abbrev pub to_come : TraceLines → List (List ℕ)
to_come (Broadcast pieces) = pieces
to_come (Watch pieces) = pieces

use Rattle.std.proofs.Common.{◌≡◌, map, take}
use Rattle.th_traces.specs.Versions.{version_of}
use Rattle.th_c.specs.SpelledValues.{broadcast_entry}
use Rattle.th_c.proofs.printing.version_of.Given as goal

abbrev pub invariant-loop-call : goal.invariant-loop-call
invariant-loop-call g l =
    l.version ≡ version_of (map (λ e. e.0) (map (broadcast_entry g.T.Payload.spelled) (take l.call-index l.entries)))

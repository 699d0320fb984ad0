use Rattle.std.proofs.Common.{◌≡◌, map, take}
use Rattle.th_traces.specs.Versions.{version_of}
use Rattle.th_traces.proofs.trace.version_of.Given as goal

abbrev pub invariant-loop-call : goal.invariant-loop-call
invariant-loop-call l = l.version ≡ version_of (map (λ e. e.0) (take l.call-index l.entries))

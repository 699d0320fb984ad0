use Rattle.std.proofs.Common.{◌∙◌, ap, map, sym, take}
use Rattle.th_traces.specs.Versions.{version_of, version_with}
use Rattle.th_traces.proofs.Pieces.{version-taken}
use Rattle.th_traces.proofs.trace.version_of.Goals as goal

pub loop-call-preserved : goal.loop-call-preserved
loop-call-preserved c =
    let entries = c.args.entries.now in
    let item = c.loop-call-item.result in
    c.with_call-version.ensures
    ∙ ap (λ v. version_with v item.0) c.loop-call.invariant
    ∙ ap (λ e. version_with (version_of (map (λ e. e.0) (take c.loop-call.call-index entries))) e.0) c.loop-call-item.is
    ∙ sym (version-taken entries c.loop-call.call-index item c.loop-call-test.true)

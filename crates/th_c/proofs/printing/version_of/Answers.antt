use Rattle.std.proofs.Common.{ℕ, List, ap, arith, get_or, map, sym, ◌∙◌}
use Rattle.std.proofs.lemmas.List.{take_all}
use Rattle.th_model.specs.declared.broadcast.BCall.{BCall}
use Rattle.th_model.specs.declared.broadcast.BReply.{BReply}
use Rattle.th_traces.specs.Spelled.{Bytes}
use Rattle.th_traces.specs.Versions.{version_of, version_with}
use Rattle.th_c.specs.SpelledValues.{broadcast_entry}
use Rattle.th_c.proofs.Printed.{version-more}
use Rattle.th_c.proofs.printing.version_of.Goals as goal

pub loop-call-preserved : goal.loop-call-preserved
loop-call-preserved g c =
    let entry : BCall g.row.T.Denot × BReply g.row.T.Denot → BCall Bytes × BReply Bytes = broadcast_entry g.T.Payload.spelled in
    let entries : List (BCall g.row.T.Denot × BReply g.row.T.Denot) = c.args.entries.now in
    let k : ℕ = c.loop-call.call-index in
    let last = c.loop-call-item.result in
    c.version_with-version.ensures
    ∙ ap (λ e. version_with c.loop-call.version (entry e).0) c.loop-call-item.is
    ∙ ap (λ v. version_with v (entry (get_or entries k last)).0) c.loop-call.invariant
    ∙ sym (version-more entry entries k last c.loop-call-test.true)

pub returns : goal.returns
returns g c =
    let entry : BCall g.row.T.Denot × BReply g.row.T.Denot → BCall Bytes × BReply Bytes = broadcast_entry g.T.Payload.spelled in
    let entries : List (BCall g.row.T.Denot × BReply g.row.T.Denot) = c.args.entries.now in
    let all = take_all c.loop-call.call-index entries (omega (arith, c.loop-call-test.false)) in
    c.loop-call.invariant ∙ ap (λ xs. version_of (map (λ (e : BCall Bytes × BReply Bytes). e.0) (map entry xs))) all

use Rattle.std.proofs.Common.{◌<◌, arith, subst, sym}
use Rattle.std.specs.Prelude.{get_or, vec_items, vec_len}
use Rattle.std.specs.declared.thread.PromisedHandle.{PromisedHandle}
use Rattle.th_sockets.proofs.Ended.{ended_behind}
use Rattle.th_sockets.specs.Terms.{IsBehind}
use Rattle.th_sockets.specs.declared.attended.Attended.{Attended}
use Rattle.th_sockets.specs.declared.terms.Terms.{Terms}
use Rattle.th_sockets.proofs.serve.serve_all.Goals as goal

pub returns-clause-each : goal.returns-clause-each
returns-clause-each g c = λ at other below.
    let Handle : Type 0 = PromisedHandle Attended (Terms g.row.G.Denot) in
    let started = c.start_all-threads in
    let joined = c.join_all in
    let within : at < vec_len started.result.0 = omega (arith, joined.ensures.all, joined.result.ok.0, below) in
    let kept = (joined.ensures.each at other within).1 in
    let placed : IsBehind c.args.gate.now c.args.keeping c.args.bounds at kept.handle.promise =
    subst (λ (h : Handle). IsBehind c.args.gate.now c.args.keeping c.args.bounds at h.promise) (sym kept.handle_is)
    (started.ensures.terms at kept.handle (omega (arith, started.result.0.ok.0, within))) in
    ended_behind g.G.Gate.holds_back g.G.Gate.lets g.G.Gate.gives_up c.args.gate.now c.args.keeping c.args.bounds at
    kept.handle.promise (get_or (vec_items joined.result) at other) placed kept.kept

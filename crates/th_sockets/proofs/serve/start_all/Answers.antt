use Rattle.std.proofs.Common.{◌<◌, ℕ, List, arith, length, refl, rules, subst, sym}
use Rattle.std.specs.Prelude.{get_or, vec_items}
use Rattle.std.specs.declared.thread.PromisedHandle.{PromisedHandle}
use Rattle.th_sockets.proofs.Lists.{each_grown}
use Rattle.th_sockets.specs.Terms.{IsBehind}
use Rattle.th_sockets.specs.declared.attended.Attended.{Attended}
use Rattle.th_sockets.specs.declared.terms.Terms.{Terms}
use Rattle.th_sockets.proofs.serve.start_all.Goals as goal

pub loop-before-preserved : goal.loop-before-preserved
loop-before-preserved g c =
    let Handle : Type 0 = PromisedHandle Attended (Terms g.row.G.Denot) in
    let was = c.loop-before.invariant in
    let handle = c.in-Some.handle in
    let Fits : ℕ → Handle → Type 0 = λ at h. IsBehind c.args.gate.now c.args.keeping c.args.bounds at h.promise in
    let before = vec_items c.loop-before.threads in
    let here : Fits (length before) handle =
    subst (λ (t : Terms g.row.G.Denot). IsBehind c.args.gate.now c.args.keeping c.args.bounds (length before) t)
    (sym c.in-Some.ensures.terms)
    (record { at = refl; next = omega (arith, was.counted, c.loop-before.threads.ok.0); keeps = refl; bound = refl }) in
    record {
      counted = search rules;
      room = search rules;
      terms = subst (λ (hs : List Handle). (at : ℕ) (other : Handle) → at < length hs → Fits at (get_or hs at other))
          (sym c.push_reserved.ensures.items) (each_grown Fits before handle was.terms here);
    }

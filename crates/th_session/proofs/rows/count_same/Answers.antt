use Rattle.std.proofs.Common.{◌≡◌, ◌+◌, ℕ, arith, refl, subst, suc}
use Rattle.th_registry.specs.Rows.{times}
use Rattle.th_session.specs.Rows.{AreThere, ReadsTo}
use Rattle.th_session.specs.Run.{AreLet, strictness}
use Rattle.th_session.proofs.Letting.{next_let, one_let}
use Rattle.th_session.proofs.Turns.{are_there, reads_same}
use Rattle.th_session.proofs.rows.count_same.Goals as goal

pub loop-count-init : goal.loop-count-init
loop-count-init g c =
    let gate = strictness g.G.Gate.holds_back g.G.Gate.lets g.G.Gate.gives_up c.args.replies.now.gate in
    record { same = λ ended more. refl; let_through = one_let gate c.args.answered c.requires.first }

pub returns-then-not-lets-clause-same : goal.returns-then-not-lets-clause-same
returns-then-not-lets-clause-same g c =
    are_there c.args.line.now c.args.ahead.now c.loop-count.rest.now (times c.loop-count.count c.args.line.now) c.loop-count.invariant.same

pub returns-in-None-clause-same : goal.returns-in-None-clause-same
returns-in-None-clause-same g c =
    are_there c.args.line.now c.args.ahead.now c.loop-count.rest.now (times c.loop-count.count c.args.line.now) c.loop-count.invariant.same

pub loop-count-preserved : goal.loop-count-preserved
loop-count-preserved g c =
    let gate = strictness g.G.Gate.holds_back g.G.Gate.lets g.G.Gate.gives_up c.args.replies.now.gate in
    let next : suc c.loop-count.count ≡ c.loop-count.count + 1 = omega arith in
    record {
      same = subst (λ (k : ℕ). ReadsTo c.args.line.now c.args.ahead.now (times k c.args.line.now) c.in-Some.behind.now) next
          (reads_same c.args.line.now c.args.ahead.now c.loop-count.rest.now c.in-Some.behind.now c.loop-count.count
          c.loop-count.invariant.same c.in-Some.ensures);
      let_through = next_let gate c.args.answered c.loop-count.count c.loop-count.invariant.let_through
          (c.lets.ensures c.if-not-lets.false);
    }

pub returns-clause-same : goal.returns-clause-same
returns-clause-same g c =
    let count : c.loop-count.count ≡ c.args.most = omega (arith, c.loop-count-test.false, c.loop-count.auto.count-end, c.requires.some) in
    subst (λ (k : ℕ). AreThere c.args.line.now c.args.ahead.now (times k c.args.line.now)) count
    (are_there c.args.line.now c.args.ahead.now c.loop-count.rest.now (times c.loop-count.count c.args.line.now)
    c.loop-count.invariant.same)

pub returns-clause-let_through : goal.returns-clause-let_through
returns-clause-let_through g c =
    let count : c.loop-count.count ≡ c.args.most = omega (arith, c.loop-count-test.false, c.loop-count.auto.count-end, c.requires.some) in
    let gate = strictness g.G.Gate.holds_back g.G.Gate.lets g.G.Gate.gives_up c.args.replies.now.gate in
    subst (λ (k : ℕ). AreLet gate c.args.answered k) count c.loop-count.invariant.let_through

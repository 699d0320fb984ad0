use Rattle.std.proofs.Common.{◌≡◌, ◌∙◌, ◌+◌, ◌∷◌, ◌++◌, [], ℕ, List, ap, arith, length, length-append, refl, subst, sym}
use Rattle.th_session.specs.Rows.{SendEach}
use Rattle.th_session.specs.Run.{AreLet, strictness}
use Rattle.th_session.proofs.Letting.{next_let, one_let}
use Rattle.th_session.proofs.Turns.{are_there, reads_more, send_more}
use Rattle.th_session.proofs.rows.read_sends.Goals as goal

pub loop-count-init : goal.loop-count-init
loop-count-init g c =
    let gate = strictness g.G.Gate.holds_back g.G.Gate.lets g.G.Gate.gives_up c.args.replies.now.gate in
    let one : c.push_back.new.self.items ≡ c.in_ok-name.value ∷ [] = c.in-Ok.ensures.items
    ∙ ap (λ (l : List (List ℕ)). l ++ c.in_ok-name.value ∷ []) c.requires.none in (
      c.args.line.now ∷ [],
      omega arith,
      one_let gate c.args.answered c.requires.first,
      subst (λ (l : List (List ℕ)). SendEach c.in_ok-name.name (c.args.line.now ∷ []) l) (sym one) (c.in_ok-name.ensures, tt),
      λ ended more. refl,
    )

pub loop-count-preserved : goal.loop-count-preserved
loop-count-preserved g c =
    let gate = strictness g.G.Gate.holds_back g.G.Gate.lets g.G.Gate.gives_up c.args.replies.now.gate in
    let i = c.loop-count.invariant in
    let r = c.in-Some.ensures.read in (
      i.0 ++ r.0 ∷ [],
      omega (arith, i.1, length-append i.0 (r.0 ∷ [])),
      next_let gate c.args.answered c.loop-count.count i.2 c.in-Some.ensures.let_through,
      subst (λ (l : List (List ℕ)). SendEach c.in_ok-name.name (i.0 ++ r.0 ∷ []) l) (sym r.3)
          (send_more c.in_ok-name.name i.0 c.loop-count.values.items r.0 r.1 i.3 r.2),
      reads_more c.args.line.now c.args.ahead.now c.loop-count.rest.now c.in-Some.behind.now i.0 r.0 i.4 r.4,
    )

pub returns-in-None : goal.returns-in-None
returns-in-None g c =
    let gate = strictness g.G.Gate.holds_back g.G.Gate.lets g.G.Gate.gives_up c.args.replies.now.gate in
    let i = c.loop-count.invariant in (
      i.0,
      omega (arith, i.1, c.loop-count-test.true),
      subst (λ (k : ℕ). AreLet gate c.args.answered k) (sym i.1) i.2,
      subst (λ (l : List (List ℕ)). SendEach c.in_ok-name.name i.0 l) (sym c.in-None.ensures.read) i.3,
      are_there c.args.line.now c.args.ahead.now c.loop-count.rest.now i.0 i.4,
    )

pub returns : goal.returns
returns g c =
    let gate = strictness g.G.Gate.holds_back g.G.Gate.lets g.G.Gate.gives_up c.args.replies.now.gate in
    let i = c.loop-count.invariant in (
      i.0,
      omega (arith, i.1, c.loop-count.auto.count-end, c.requires.some),
      subst (λ (k : ℕ). AreLet gate c.args.answered k) (sym i.1) i.2,
      i.3,
      are_there c.args.line.now c.args.ahead.now c.loop-count.rest.now i.0 i.4,
    )

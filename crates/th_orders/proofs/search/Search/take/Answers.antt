use Rattle.std.proofs.Common.{◌≡◌, ◌++◌, [], ◌∷◌, ap, arith, length, length-append, subst, sym, ◌∙◌}
use Rattle.th_orders.specs.Orders.{Nexts, Sessions, advanced}
use Rattle.th_orders.specs.Rests.{left}
use Rattle.th_orders.specs.Waiting.{AreSeenTo, Wakes, waits}
use Rattle.th_orders.proofs.Searching.{left-takes}
use Rattle.th_orders.proofs.Waking.{seen-takes}
use Rattle.th_orders.proofs.search.Search.take.Goals as goal

pub returns-clause-seen : goal.returns-clause-seen
returns-clause-seen c = λ all.
    let old = c.args.self.now in
    let same = c.in_ok-wake.ensures.same in
    let due = c.wake.new.self.due.items in
    let wakes = subst (λ (n : Nexts). Wakes n (waits old.waiting) c.args.event.topic c.push-2.new.self.items due) c.advance.ensures
    c.in_ok-wake.ensures.wakes in
    let seen = seen-takes old.nexts old.rests old.due.items c.args.session (waits old.waiting) c.args.event c.take.new.self
    c.push-2.new.self.items due all c.requires.first c.requires.next c.take.ensures.others c.in_ok-push-2.ensures.items wakes in
    subst (λ (n : Nexts). AreSeenTo n c.wake.new.self.rests due (waits c.wake.new.self.waiting)) (sym (same.0 ∙ c.advance.ensures))
    (subst (λ (s : Sessions). AreSeenTo (advanced old.nexts c.args.event.topic) s due (waits c.wake.new.self.waiting)) (sym same.1)
    (subst (λ m. AreSeenTo (advanced old.nexts c.args.event.topic) c.take.new.self due (waits m)) (sym same.2) seen))

pub returns-clause-looks : goal.returns-clause-looks
returns-clause-looks c =
    let old = c.args.self.now in
    let rests : left c.wake.new.self.rests ≡ left c.take.new.self = ap left c.in_ok-wake.ensures.same.1 in
    let due : length c.push-2.new.self.items ≡ length (old.due.items ++ c.args.session ∷ []) = ap length c.in_ok-push-2.ensures.items in
    omega (
      arith,
      rests,
      due,
      length-append old.due.items (c.args.session ∷ []),
      c.in_ok-wake.ensures.wakes.few,
      left-takes old.rests c.args.event c.take.new.self c.take.ensures.takes,
    )

use Rattle.std.proofs.Common.{[], ◌∷◌, ap, arith, length, length-append, subst}
use Rattle.th_orders.specs.Waiting.{AreSeenTo, waits}
use Rattle.th_orders.proofs.Searching.{goes-on}
use Rattle.th_orders.proofs.search.Search.run.Goals as goal

pub loop-session-preserved : goal.loop-session-preserved
loop-session-preserved c = record {
  along = goes-on c.args.self.now.nexts c.args.self.now.rests c.args.self.now.order.items c.loop-session.self.nexts
      c.loop-session.self.rests c.loop-session.self.order.items c.look.new.self.nexts c.look.new.self.rests c.look.new.self.order.items
      c.loop-session.invariant.along c.in_ok-look.ensures.along;
  seen = λ h. c.in_ok-look.ensures.seen (subst
      (λ due. AreSeenTo c.loop-session.self.nexts c.loop-session.self.rests due (waits c.loop-session.self.waiting))
      c.in-Some.ensures.items (c.loop-session.invariant.seen h));
  looks =
      let popped = ap length c.in-Some.ensures.items in
      omega (
        arith,
        c.loop-session.invariant.looks,
        c.in_ok-look.ensures.looks,
        popped,
        length-append c.pop.new.self.items
            (c.in-Some.session ∷ []),
        c.saturating_add-looks.ensures,
      );
}

use Rattle.std.proofs.Common.{◌∙◌, ap, length, sym}
use Rattle.th_orders.specs.Orders.{Sessions}
use Rattle.th_orders.proofs.RestLemmas.{length-rests}
use Rattle.th_orders.proofs.rests.Rests.len.Goals as goal

pub returns : goal.returns
returns c = c.len.ensures ∙ c.self.inside.sessions.ok.0 ∙ sym
    (length-rests c.self.inside.taken.items c.self.inside.sessions.items c.self.invariant)
    ∙ ap (λ (s : Sessions). length s) c.self.view_is

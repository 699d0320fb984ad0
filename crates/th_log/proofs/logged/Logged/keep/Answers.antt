use Rattle.std.proofs.Common.{◌∙◌, ◌++◌, ◌∷◌, [], ap, arith}
use Rattle.th_log.proofs.Grows.{kept_after}
use Rattle.th_log.proofs.logged.Logged.keep.Goals as goal

pub invariant_of-self : goal.invariant_of-self
invariant_of-self g c =
    let entries = c.self.inside.entries.items in
    let reply = c.in-Ok-kept.entry.1 in
    kept_after g.O.Object.machine g.O.Object.is_proper g.O.Object.is_sound g.met.O.Object.whole_ok g.met.O.Object.step_ok
    g.met.O.Object.answer_ok c.args.self.now c.room_for.new.self _ c.args.call c.in-Ok.call reply _ c.tick.new.book
    c.store.new.entries.items _ c.self.invariant c.self.view_is c.in-Ok.ensures.same c.in-Ok.ensures.call c.requires.ready
    c.in-Ok-kept.ensures.step
    (c.store.ensures.items
    ∙ ap (λ (call : g.row.O-Call.Denot). entries ++ (call, reply) ∷ []) (c.in-Ok-kept.ensures.call ∙ c.in-Ok.ensures.call))
    c.tick.ensures.book c.in-Ok.ensures.space c.in-Ok.ensures.room
    (let n = c.store.ensures.len in let k = c.store.ensures.capacity in omega (arith, n, k))

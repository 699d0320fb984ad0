use Rattle.std.proofs.Common.{◌≡◌, ◌∙◌, ◌+◌, Bool, ◌∷◌, ◌++◌, [], ap}
use Rattle.th_glance.specs.Lists.{glance_of, last_count}
use Rattle.th_block.proofs.Word.{posted_on}
use Rattle.th_block.proofs.posted.Posted.apply.Goals as goal

pub invariant_of-self : goal.invariant_of-self
invariant_of-self g c =
    let m = g.O.Object.machine in
    let old = c.self.inside in
    let closed : c.closed.result ≡ m.closed c.apply.new.self.piece.last = c.closed.ensures ∙ ap m.closed c.object.ensures in
    posted_on m g.O.Object.is_sound record { log = old.log; pen = old.pen }
    record { log = c.apply.new.self; pen = c.store.new.self } c.args.call c.in-Ok.receipt.reply
    c.self.invariant c.len-entries.ensures.kept c.in-Ok.ensures.entry c.in-Ok.ensures.ticks.0
    (c.store.ensures.list ∙ ap (λ (b : Bool). old.pen.list ++ glance_of (last_count old.pen.list + 1) b ∷ []) closed)
    (c.store.ensures.last ∙ ap (glance_of (last_count old.pen.list + 1)) closed) c.store.ensures.counted

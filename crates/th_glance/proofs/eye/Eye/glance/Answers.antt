use Rattle.std.proofs.Common.{rules, ◌≡◌, ◌≤◌, List, sym, subst}
use Rattle.th_glance.specs.declared.glance.Glance.{Glance}
use Rattle.th_glance.specs.Lists.{last_of, last_count}
use Rattle.th_glance.specs.Seats.{Known}
use Rattle.th_glance.proofs.Keeps.{sees}
use Rattle.th_glance.proofs.Prefix.{count-rises}
use Rattle.th_glance.proofs.eye.Eye.glance.Goals as goal

pub load-word-requires : goal.load-word-requires
load-word-requires c = (search rules, search rules, sees _ _ _)

pub returns-clause-rises : goal.returns-clause-rises
returns-clause-rises c =
    let old : List Glance = c.self.inside.seat.me.0.seen in
    let new : List Glance = c.load-word.new.seat.me.0.seen in
    let told = c.load-word.ensures.2 in
    let is : c.of_word-glance.result ≡ last_of new = c.of_word-glance.ensures (last_of new) told.2 in
    let up : last_count old ≤ last_count new = count-rises old new c.self.invariant.3 told.1 told.0 in
    subst (λ (k : Known). last_count k.list ≤ c.of_word-glance.result.count) c.self.view_is
    (subst (λ (z : Glance). last_count old ≤ z.count) (sym is) up)

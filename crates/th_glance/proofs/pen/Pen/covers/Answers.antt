use Rattle.std.proofs.Common.{rules, subst}
use mathlib.Core.List.{IsPrefix}
use Rattle.th_glance.specs.Lists.{IsCounted}
use Rattle.th_glance.specs.Seats.{Known}
use Rattle.th_glance.proofs.Keeps.{splits, joins, covers}
use Rattle.th_glance.proofs.Prefix.{count-rises}
use Rattle.th_glance.proofs.pen.Pen.covers.Goals as goal

pub split_seat-note-requires : goal.split_seat-note-requires
split_seat-note-requires c = (search rules, search rules, splits _ _)

pub join_seat-requires : goal.join_seat-requires
join_seat-requires c = (search rules, search rules, search rules, search rules, joins _ _ _ _ (search rules))

pub load-requires : goal.load-requires
load-requires c = (search rules, search rules, covers _ _ _ (search rules))

pub returns-clause-most : goal.returns-clause-most
returns-clause-most c =
    let begins : IsPrefix c.args.eye.now.list c.args.self.now.list = search rules in
    let eye = subst (λ (k : Known). IsCounted k.list) c.eye.view_is c.eye.invariant.3 in
    let pen = subst (λ (k : Known). IsCounted k.list) c.self.view_is c.self.invariant.4 in
    count-rises _ _ eye pen begins

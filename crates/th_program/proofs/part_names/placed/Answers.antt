use Rattle.std.proofs.Common.{refl}
use Rattle.th_program.proofs.GoingOn.{misplaced_goes, named_goes, unnamed_goes}
use Rattle.th_program.proofs.part_names.placed.Goals as goal

pub returns-in_default : goal.returns-in_default
returns-in_default c = λ low.
    unnamed_goes c.args.place c.args.before c.args.count c.args.path.now c.bounded.result (c.in_default.ensures.none refl) low
    (c.bounded.ensures low)

pub returns-in-Some-begun : goal.returns-in-Some-begun
returns-in-Some-begun c = λ low.
    let part = c.in-Some.part in
    let begun = c.in-Some-begun.ensures.some in
    named_goes c.args.place c.args.before c.args.count c.args.path.now part.topic.now part.number c.in-Some.ensures.some
    c.in-Some-begun.place begun.0 begun.1 begun.2 begun.3 begun.4 low c.bounded-in-Some-begun.result c.bounded-in-Some-begun.ensures

pub returns-in-None : goal.returns-in-None
returns-in-None c = λ low.
    let part = c.in-Some.part in
    misplaced_goes c.args.place c.args.before c.args.count c.args.path.now part.topic.now part.number c.in-Some.ensures.some
    (c.in-None.ensures.none refl)

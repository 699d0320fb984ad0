use Rattle.std.proofs.Common.{refl, sym, ap, subst, ◌∙◌}
use Rattle.std.specs.Option.{IsSome}
use Rattle.std.specs.Ordering.{nat_cmp}
use Rattle.std.specs.Map.{lookup}
use Rattle.std.specs.BTreeMap.{is_at}
use Rattle.th_session.specs.Held.{nothing}
use Rattle.th_session.proofs.HoldLemmas.{lookup-insert}
use Rattle.th_session.proofs.handles.make_ready.Goals as goal

pub returns-in-Ok-clause-there : goal.returns-in-Ok-clause-there
returns-in-Ok-clause-there g c =
    let there = lookup-insert c.args.handles.now.entries c.args.n nothing in
    subst IsSome (sym (ap (lookup (is_at (nat_cmp c.args.n))) c.in-Ok.ensures.entries ∙ there)) refl

use Rattle.std.proofs.Common.{sym, ap, ◌∙◌}
use Rattle.std.specs.Option.{option_copied_mut}
use Rattle.th_shared.specs.ByHub.{TopicEnds}
use Rattle.th_shared.proofs.ByHub.{at-one, ends-says}
use Rattle.th_shared.proofs.Keys.{ends_key, keys_set}
use Rattle.th_shared.proofs.Rolls.{ends_rolls, rolls_set}
use Rattle.th_shared.proofs.registry.end.Goals as goal

pub returns-clause-says : goal.returns-clause-says
returns-clause-says g c = ends-says c.args.topic.0 _ _ _ c.end_at.ensures

pub returns-clause-does : goal.returns-clause-does
returns-clause-does g c =
    rw (← c.topics.view_is) (at-one c.args.topic.0 (TopicEnds c.args.topic.0) _
    (sym c.get_index_mut.ensures.value ∙ ap option_copied_mut c.in-Some.is) c.end_at.ensures)

pub invariant_of-topics-2 : goal.invariant_of-topics-2
invariant_of-topics-2 g c =
    let at = sym c.get_index_mut.ensures.value ∙ ap option_copied_mut c.in-Some.is in
    let inside = c.topics.inside in (
      keys_set 1 inside.rows.entries c.args.topic.0 _ _ at (ends_key c.args.topic.0 _ _ _ c.end_at.ensures) c.topics.invariant.0,
      rolls_set inside.rolls inside.rows.entries c.args.topic.0 _ _ at (ends_rolls c.args.topic.0 _ _ _ c.end_at.ensures)
          c.topics.invariant.1,
    )

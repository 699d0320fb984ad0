use Rattle.std.proofs.Common.{Bool, IfOk, IfSome, subst, refl, sym, ap, ◌∙◌}
use Rattle.std.specs.Option.{option_copied_mut}
use Rattle.th_registry.specs.Events.{Binds}
use Rattle.th_shared.specs.ByHub.{TopicDoes}
use Rattle.th_shared.specs.Doing.{IsNewHandle}
use Rattle.th_shared.specs.OwnSender.{HubTopics}
use Rattle.th_shared.proofs.ByHub.{at-one, does-says}
use Rattle.th_shared.proofs.Keys.{does_key, keys_set}
use Rattle.th_shared.proofs.Rolls.{does_rolls, rolls_at, rolls_set}
use Rattle.th_shared.proofs.registry.bind.Goals as goal

pub returns-clause-says : goal.returns-clause-says
returns-clause-says g c = does-says c.args.topic.0 Binds refl refl _ _ _ c.bind_at.ensures.does

pub returns-clause-does : goal.returns-clause-does
returns-clause-does g c =
    rw (← c.topics.view_is) (at-one c.args.topic.0 (TopicDoes c.args.topic.0 Binds) _
    (sym c.get_index_mut.ensures.value ∙ ap option_copied_mut c.in-Some.is) c.bind_at.ensures.does)

pub invariant_of-topics-2 : goal.invariant_of-topics-2
invariant_of-topics-2 g c =
    let at = sym c.get_index_mut.ensures.value ∙ ap option_copied_mut c.in-Some.is in
    let inside = c.topics.inside in (
      keys_set 1 inside.rows.entries c.args.topic.0 _ _ at (does_key c.args.topic.0 Binds _ _ _ c.bind_at.ensures.does)
          c.topics.invariant.0,
      rolls_set inside.rolls inside.rows.entries c.args.topic.0 _ _ at (does_rolls c.args.topic.0 Binds _ _ _ c.bind_at.ensures.does)
          c.topics.invariant.1,
    )

pub returns-clause-new : goal.returns-clause-new
returns-clause-new g c =
    let at = sym c.get_index_mut.ensures.value ∙ ap option_copied_mut c.in-Some.is in
    subst (λ (rolls : Bool). IfOk c.bind_at.result (λ made. IfSome made.handle (IsNewHandle c.args.topic.0 rolls made.receipt)))
    (rolls_at c.topics.inside.rolls c.topics.inside.rows.entries c.args.topic.0 _ at c.topics.invariant.1
    ∙ ap (λ (t : HubTopics). t.rolls) c.topics.view_is) c.bind_at.ensures.new

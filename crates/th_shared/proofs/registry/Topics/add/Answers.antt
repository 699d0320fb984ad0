use Rattle.std.proofs.Common.{◌≡◌, ◌∙◌, ◌+◌, Some, false, is_some, length, ap, subst, sym}
use Rattle.th_registry.specs.Hub.{find}
use Rattle.th_registry.proofs.Openings.{insert-new}
use Rattle.th_shared.specs.OwnSender.{HaveKeys, HubTopics, RollAlike, own_key, own_rolls}
use Rattle.th_shared.proofs.Keys.{keys_more}
use Rattle.th_shared.proofs.Rolls.{rolls_more}
use Rattle.th_shared.proofs.registry.Topics.add.Goals as goal

pub invariant_of-self : goal.invariant_of-self
invariant_of-self c =
    let inside = c.self.inside in
    let ts = inside.rows.entries in
    let absent = subst (λ (t : HubTopics). is_some (find t.entries c.args.name) ≡ false) (sym c.self.view_is) c.requires.absent in
    let key = subst (λ (t : HubTopics). own_key c.args.topic ≡ Some (length t.entries + 1)) (sym c.self.view_is) c.requires.key in
    let rolls = subst (λ (t : HubTopics). own_rolls c.args.topic ≡ t.rolls) (sym c.self.view_is) c.requires.rolls in
    let more = c.in-Ok.ensures.entries ∙ insert-new ts c.args.name c.args.topic absent in (
      subst (HaveKeys 1) (sym more) (keys_more 1 ts c.args.name c.args.topic c.self.invariant.0 key),
      subst (RollAlike inside.rolls) (sym more) (rolls_more inside.rolls ts c.args.name c.args.topic c.self.invariant.1 rolls),
    )

pub returns-in-Ok-clause-ok : goal.returns-in-Ok-clause-ok
returns-in-Ok-clause-ok c =
    let inside = c.self.inside in
    let ts = inside.rows.entries in
    let absent = subst (λ (t : HubTopics). is_some (find t.entries c.args.name) ≡ false) (sym c.self.view_is) c.requires.absent in
    rw (← c.self.view_is) (ap (λ l. record { entries = l; rolls = inside.rolls })
    (c.in-Ok.ensures.entries ∙ insert-new ts c.args.name c.args.topic absent))

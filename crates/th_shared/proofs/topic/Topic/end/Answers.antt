use Rattle.std.proofs.Common.{◌≡◌, ◌∙◌, ℕ, Some, ap, sym, subst}
use Rattle.std.specs.Option.{option_map}
use Rattle.th_log.specs.Outcome.{counted}
use Rattle.th_shared.specs.ByHub.{ended_with}
use Rattle.th_shared.specs.Doing.{HasEnded}
use Rattle.th_shared.specs.OwnSender.{OwnSender}
use Rattle.th_shared.proofs.topic.Topic.end.Goals as goal

pub returns-in-Ok : goal.returns-in-Ok
returns-in-Ok g c =
    let own : c.self.inside.own ≡ Some c.in-Some.field-0 = sym c.take.ensures.value ∙ c.in-Some.is in
    let live : c.args.self.now.live ≡ Some c.in-Some.field-0.sender.known =
    ap (λ (s : OwnSender). s.live) (sym c.self.view_is) ∙ ap (λ o. option_map (λ own. own.sender.known) o) own in
    let event = subst (λ (k : ℕ). HasEnded c.args.topic.0 (g.O.Kind.last_of_sender (record { 0 = k })) g.O.Kind.done)
    c.in-Some.field-0.first c.in-Ok.ensures.event in
    rw (live, c.take.ensures.after) (
      event,
      ap (λ s. ended_with c.self.inside.owner.rolls s) c.in-Ok.ensures.share
          ∙ ap (λ (o : OwnSender). ended_with o.rolls (counted c.in-Some.field-0.sender.known.share)) c.self.view_is,
    )

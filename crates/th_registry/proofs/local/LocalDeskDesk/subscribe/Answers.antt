use Rattle.std.proofs.Common.{sym, ap, ◌∙◌}
use Rattle.std.specs.Option.{option_copied_mut}
use Rattle.th_registry.specs.Events.{Subscribes, any_sender}
use Rattle.th_registry.proofs.Events.{subscribes-own, desk-says}
use Rattle.th_registry.proofs.local.LocalDeskDesk.subscribe.Goals as goal

pub returns-clause-event : goal.returns-clause-event
returns-clause-event c =
    let there = sym c.get_index_mut.ensures.value ∙ ap option_copied_mut c.in-Some.is in
    subscribes-own c.args.topic.0 c.args.start c.args.sender.now
    (desk-says c.args.topic.0 (Subscribes c.args.start (any_sender c.args.sender.now)) c.self.view_is there c.subscribe.ensures)

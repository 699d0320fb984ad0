use Rattle.std.proofs.Common.{sym, ap, ◌∙◌}
use Rattle.std.specs.Option.{option_copied_mut}
use Rattle.th_registry.specs.Events.{Resubscribes}
use Rattle.th_registry.proofs.Events.{desk-says}
use Rattle.th_registry.proofs.local.LocalDeskDesk.resubscribe.Goals as goal

pub returns-clause-event : goal.returns-clause-event
returns-clause-event c =
    let there = sym c.get_index_mut.ensures.value ∙ ap option_copied_mut c.in-Some.is in
    desk-says c.args.topic.0 (Resubscribes c.args.receiver.now) c.self.view_is there c.resubscribe.ensures

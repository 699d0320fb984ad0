use Rattle.std.proofs.Common.{sym, ap, ◌∙◌}
use Rattle.std.specs.Option.{option_copied_mut}
use Rattle.th_registry.specs.Events.{Asks, any_sender}
use Rattle.th_registry.proofs.Events.{asks-own, desk-says}
use Rattle.th_registry.proofs.local.LocalDeskDesk.ask.Goals as goal

pub returns-clause-event : goal.returns-clause-event
returns-clause-event c =
    let there = sym c.get_index_mut.ensures.value ∙ ap option_copied_mut c.in-Some.is in
    asks-own c.args.topic.0 c.args.sender.now c.args.question
    (desk-says c.args.topic.0 (Asks (any_sender c.args.sender.now) c.args.question) c.self.view_is there c.ask.ensures)

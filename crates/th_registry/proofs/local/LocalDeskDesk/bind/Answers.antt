use Rattle.std.proofs.Common.{sym, ap, ◌∙◌}
use Rattle.std.specs.Option.{option_copied_mut}
use Rattle.th_registry.specs.Events.{Binds}
use Rattle.th_registry.proofs.Events.{desk-says}
use Rattle.th_registry.proofs.local.LocalDeskDesk.bind.Goals as goal

pub returns : goal.returns
returns c =
    let there = sym c.get_index_mut.ensures.value ∙ ap option_copied_mut c.in-Some.is in
    desk-says c.args.topic.0 (Binds) c.self.view_is there c.bind.ensures

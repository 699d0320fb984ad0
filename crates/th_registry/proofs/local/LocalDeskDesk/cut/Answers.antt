use Rattle.std.proofs.Common.{sym, ap, ◌∙◌}
use Rattle.std.specs.Option.{option_copied_mut}
use Rattle.th_registry.proofs.Events.{desk-cuts}
use Rattle.th_registry.proofs.local.LocalDeskDesk.cut.Goals as goal

pub returns : goal.returns
returns c =
    let there = sym c.get_index_mut.ensures.value ∙ ap option_copied_mut c.in-Some.is in
    desk-cuts c.args.topic.0 c.self.view_is there c.cut.ensures

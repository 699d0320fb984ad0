-- How a run ends that was asked for help.
use Rattle.std.proofs.Common.{ℕ, List}
use Rattle.th_program.specs.declared.end.End.{End}
use Rattle.th_program.specs.declared.end.End.TheVariants.{Help, Write}
use Rattle.th_replay.specs.Outcome.{Devices}
use Rattle.th_program.specs.Run.{IsUnread, IsHelpOf, EndsHelp}

pub ends_help : (text : List ℕ) (before after : Devices) (end : End)
    → IsHelpOf text before.contents after.contents end → IsUnread before after
    → EndsHelp before after end
ends_help text before after Help said unread = ((text, said), unread)
ends_help text before after Write said unread = unread
ends_help text before after end said unread = absurd said

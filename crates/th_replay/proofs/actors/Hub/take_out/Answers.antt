use Rattle.std.proofs.Common.{◌∙◌, ap}
use Rattle.std.specs.Prelude.{remove}
use Rattle.th_registry.specs.Pictures.{SeenTopics}
use Rattle.th_replay.specs.Schedule.{Hub, holdings}
use Rattle.th_replay.proofs.Holdings.{All, remove-held}
use Rattle.th_replay.proofs.actors.Hub.take_out.Goals as goal

pub returns-clause-actors : goal.returns-clause-actors
returns-clause-actors c = ap (λ (all : All). holdings all) c.shift_remove_index.ensures.entries
    ∙ remove-held c.self.inside.actors.entries c.args.place
    ∙ ap (λ (hub : Hub SeenTopics). remove hub.actors c.args.place) c.self.view_is

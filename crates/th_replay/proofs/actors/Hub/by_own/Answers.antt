use Rattle.std.proofs.Common.{◌∙◌, ap, slice_get, subst, sym}
use Rattle.std.specs.Map.{values_of}
use Rattle.th_lines.specs.Output.{Output, output}
use Rattle.th_lines.specs.declared.command.Command.{Command}
use Rattle.th_lines.specs.declared.command.Command.TheVariants.{On}
use Rattle.th_lines.specs.declared.reply.Code.TheVariants as Codes
use Rattle.th_lines.specs.declared.reply.Reply.TheVariants.{Refused}
use Rattle.th_registry.specs.Pictures.{Desk, SeenTopics}
use Rattle.th_session.specs.Kept.{having}
use Rattle.th_session.specs.Quiet.{PutsQuietly, action_of}
use Rattle.th_session.specs.Script.{Replied}
use Rattle.th_replay.specs.Schedule.{Actors, Hub, PutsAt, holdings}
use Rattle.th_replay.proofs.Holdings.{held-at, set-same}
use Rattle.th_replay.proofs.Orders.{goes_on, lacks, stays}
use Rattle.th_replay.proofs.Steps.{ends_so, no_quit}
use Rattle.th_replay.proofs.actors.Hub.by_own.Goals as goal

pub returns-in_default : goal.returns-in_default
returns-in_default g c =
    let hub : Hub SeenTopics = c.args.self.now in
    let command : Command = On c.args.name.now (action_of c.args.own) in
    let none = ap (λ (h : Hub SeenTopics). slice_get (values_of h.actors) c.args.place) (sym c.self.view_is)
    ∙ held-at c.self.inside.actors.entries c.args.place _ c.in_default.ensures.entry in
    (Replied (Refused Codes.NotHeld), lacks hub c.args.place command (slice_get (values_of hub.actors) c.args.place) none, c.append.ensures)

pub returns : goal.returns
returns g c =
    let i = c.self.inside in
    let command : Command = On c.args.name.now (action_of c.args.own) in
    let had = c.in-Some.session.now in
    let topics = c.carry_out.new.topics.entries in
    let all : Actors = holdings i.actors.entries in
    let before : Output = output g.W.Write.contents c.args.writer.now c.args.out.now in
    let after : Output = output g.W.Write.contents c.carry_out.new.writer c.carry_out.new.out in
    let Q : SeenTopics → Type 0 = λ old. PutsQuietly i.desk.limit had old command topics before after c.carry_out.result in
    let a = subst Q (ap (λ (desk : Desk). desk.topics) c.desk.view_is) (c.carry_out.ensures i.desk.limit) in
    let P : Hub SeenTopics → Type 0 = λ hub. PutsAt c.args.place command hub (record { topics = topics; actors = all }) before after
    c.carry_out.result in
    let there = held-at i.actors.entries c.args.place _ c.in-Some.ensures.entry in
    let rest = sym (set-same all c.args.place had.handles there) ∙ stays a.0 c.args.place had.handles all (no_quit a.0 a.2) in
    let end = ends_so had i.desk.topics command a.0 (having had a.0 had.handles) topics i.desk.limit c.self.invariant a.1 in
    subst P c.self.view_is
    (a.0, goes_on i.desk.topics all c.args.place command had.handles had.handles a.0 topics all there end rest, a.3)

use Rattle.std.proofs.Common.{rules, ◌≡◌, refl, subst, sym, Option, Some, None}
use Rattle.th_registry.specs.declared.opening.Found.{Found}
use Rattle.th_registry.specs.Hub.{Find, find}
use Rattle.th_registry.specs.Pictures.{Desk, DeskSays}
use Rattle.th_registry.proofs.Events.{finds}
use Rattle.th_registry.proofs.local.LocalDeskDesk.find.Goals as goal

pub returns-in-Some : goal.returns-in-Some
returns-in-Some c =
    let desk = c.self.inside in
    let found : Option Found = Some (record { topic = record { 0 = c.in-Some.number }; kind = c.kind.result }) in
    let same : found ≡ find desk.topics.entries c.args.name.now = search rules in
    subst (λ (d : Desk). DeskSays d (Find c.args.name.now) found d) c.self.view_is
    (refl, finds desk.limit desk.topics.entries c.args.name.now found (sym same))

pub returns-in-None : goal.returns-in-None
returns-in-None c =
    let desk = c.self.inside in
    let same : None ≡ find desk.topics.entries c.args.name.now = search rules in
    subst (λ (d : Desk). DeskSays d (Find c.args.name.now) None d) c.self.view_is
    (refl, finds desk.limit desk.topics.entries c.args.name.now None (sym same))

use Rattle.std.proofs.Common.{◌≡◌, true, is_some}
use Rattle.th_registry.specs.Hub.{find}
use Rattle.th_shared.proofs.Opened.{opens-there}
use Rattle.th_shared.proofs.registry.open.Goals as goal

pub returns-then-is_some : goal.returns-then-is_some
returns-then-is_some c =
    let ts = c.args.topics.now.entries in
    let found = c.find.ensures in
    let is = c.is_some.ensures in
    let test = c.if-is_some.true in
    let there : is_some (find ts c.args.name.now) ≡ true = cc in
    opens-there ts c.args.name.now c.args.making there

use Rattle.std.proofs.Common.{refl}
use Rattle.th_shared.proofs.Opened.{says-opened}
use Rattle.th_shared.proofs.desk.SharedDeskDesk.open_topic.Goals as goal

pub returns : goal.returns
returns g c = record {
  hub = (refl, refl, refl);
  spent = λ _. refl;
  may = says-opened _ _ _ c.args.making c.open-told.result c.open-told.ensures;
}

use Rattle.th_log.proofs.Told.{changes}
use Rattle.th_log.proofs.laws.changes_tell.Goals as goal

pub returns : goal.returns
returns g c = changes _

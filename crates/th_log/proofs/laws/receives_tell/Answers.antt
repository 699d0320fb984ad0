use Rattle.th_log.proofs.Told.{receives}
use Rattle.th_log.proofs.laws.receives_tell.Goals as goal

pub returns : goal.returns
returns g c = receives _

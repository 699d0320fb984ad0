use Rattle.th_c.proofs.Refusals.{broadcast_refusals, watch_refusals}
use Rattle.th_c.proofs.laws.refusals_change_nothing.Goals as goal

-- src/laws.rt
pub returns : goal.returns
returns g c = record { broadcast = broadcast_refusals; watch = watch_refusals }

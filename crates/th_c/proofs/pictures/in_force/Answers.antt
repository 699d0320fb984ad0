use Rattle.th_c.proofs.Powers.{same_power}
use Rattle.th_c.proofs.pictures.in_force.Goals as goal

-- src/pictures.rt
pub returns : goal.returns
returns c = same_power c.args.asked c.in-Ok.capacity c.requires c.in-Ok.ensures.capacity c.in-Ok.ensures.least.0 c.in-Ok.ensures.least.1

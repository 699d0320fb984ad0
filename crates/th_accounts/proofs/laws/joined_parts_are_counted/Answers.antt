use Rattle.th_accounts.proofs.Joined.{counted}
use Rattle.th_accounts.proofs.laws.joined_parts_are_counted.Goals as goal

pub returns : goal.returns
returns g c = counted

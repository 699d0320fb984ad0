use Rattle.th_check.proofs.OneNext.{one_next}
use Rattle.th_check.proofs.laws.one_next.Goals as goal

pub returns : goal.returns
returns c = λ here lines said other there elsewhere. one_next here lines said other there elsewhere

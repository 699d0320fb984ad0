use Rattle.th_orders.proofs.Greedy.{greedy}
use Rattle.th_orders.proofs.laws.no_choice_is_wrong.Goals as goal

pub returns : goal.returns
returns c = greedy

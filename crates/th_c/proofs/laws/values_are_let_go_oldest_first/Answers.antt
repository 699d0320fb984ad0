use Rattle.th_c.proofs.OldestFirst.{oldest_first, read_is_first}
use Rattle.th_c.proofs.laws.values_are_let_go_oldest_first.Goals as goal

-- src/laws.rt
pub returns : goal.returns
returns g c = record { order = oldest_first; read = read_is_first }

use Rattle.th_model.proofs.Exact.{exact_bcall, exact_breply}
use Rattle.th_log.proofs.broadcast.BroadcastCompared.are_exact.Goals as goal

pub returns : goal.returns
returns g c = record {
  calls = exact_bcall g.row.T g.T.PartialEq g.T.PartialEq-dict c.requires;
  replies = exact_breply g.row.T g.T.PartialEq g.T.PartialEq-dict c.requires;
}

use Rattle.th_model.proofs.Exact.{exact_wcall, exact_wreply}
use Rattle.th_log.proofs.watch.WatchCompared.are_exact.Goals as goal

pub returns : goal.returns
returns g c = record {
  calls = exact_wcall g.row.T g.T.PartialEq g.T.PartialEq-dict c.requires;
  replies = exact_wreply g.row.T g.T.PartialEq g.T.PartialEq-dict c.requires;
}

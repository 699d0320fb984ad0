use Rattle.std.proofs.Common.{subst}
use Rattle.std.specs.Result.{is_ok}
use Rattle.th_shared.specs.Cache.{Cached, Learns}
use Rattle.th_shared.proofs.Named.{pushed}
use Rattle.th_shared.proofs.topic_cache.TopicCache.put.Goals as goal

pub returns-then-len-lt-FEW : goal.returns-then-len-lt-FEW
returns-then-len-lt-FEW c =
    let others = c.self.inside.others.entries in
    let new : Cached = record { few = c.push.new.self.items; others = others } in
    subst (λ (old : Cached). Learns old new c.args.name c.args.found) c.self.view_is
    (pushed c.args.name c.args.found c.self.inside.few.items c.push.new.self.items others (is_ok c.push.result) c.push.ensures.items)

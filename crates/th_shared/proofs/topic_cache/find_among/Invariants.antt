use Rattle.std.proofs.Common.{◌≡◌, drop}
use Rattle.th_shared.specs.Cache.{named}
use Rattle.th_shared.proofs.topic_cache.find_among.Given as goal

abbrev pub invariant-loop-known : goal.invariant-loop-known
invariant-loop-known l = named l.name l.topics ≡ named l.name (drop l.known-index l.topics)

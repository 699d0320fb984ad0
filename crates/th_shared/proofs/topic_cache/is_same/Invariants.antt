use Rattle.std.proofs.Common.{◌≡◌, take}
use Rattle.th_shared.proofs.topic_cache.is_same.Given as goal

abbrev pub invariant-loop-at : goal.invariant-loop-at
invariant-loop-at l = take l.at l.one ≡ take l.at l.other

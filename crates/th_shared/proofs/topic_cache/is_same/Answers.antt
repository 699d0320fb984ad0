use Rattle.std.proofs.Common.{sym, arith}
use Rattle.std.proofs.lemmas.Slice.Eq.{bytes_eq-Decides}
use Rattle.th_shared.proofs.Named.{same_front}
use Rattle.th_shared.proofs.topic_cache.is_same.Goals as goal

pub returns : goal.returns
returns c = sym ((bytes_eq-Decides c.args.one.now c.args.other.now).1 (same_front c.loop-at.at c.args.one.now c.args.other.now
    c.loop-at.invariant (omega (arith, c.loop-at-test.false)) (omega (arith, c.loop-at-test.false, c.if-one-other.false))))

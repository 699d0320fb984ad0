use Rattle.std.proofs.Common.{◌≡◌, ◌+◌, take}
use Rattle.std.specs.Prelude.{All}
use Rattle.th_seats.specs.Tally.{count_of}
use Rattle.th_seats.proofs.settlement.is_settled.Given as goal

abbrev pub invariant-loop-share : goal.invariant-loop-share
invariant-loop-share l = record {
  keys : All (λ p. p.key ≡ l.book.key) (take l.share-index l.shares);
  counts : count_of (take l.share-index l.shares) + l.left ≡ l.book.total;
}

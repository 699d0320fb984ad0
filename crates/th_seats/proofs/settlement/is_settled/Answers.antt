use Rattle.std.proofs.Common.{◌≡◌, ◌<◌, length, arith, ap, subst}
use Rattle.std.proofs.lemmas.List.Elements.{All-more}
use Rattle.std.proofs.lemmas.List.Sums.{sum_by_more}
use Rattle.th_seats.specs.Tally.{Part}
use Rattle.th_seats.proofs.settlement.is_settled.Goals as goal

pub loop-share-preserved : goal.loop-share-preserved
loop-share-preserved c =
    let xs = c.args.shares.now in
    let i = c.loop-share.share-index in
    let x = c.share-item.result in
    let lt : i < length xs = c.loop-share-test.true in
    let key : x.key ≡ c.args.book.now.key = cc in
    record {
      keys = All-more (λ (p : Part). p.key ≡ c.args.book.now.key) xs i x lt c.loop-share.invariant.keys
          (subst (λ (p : Part). p.key ≡ c.args.book.now.key) c.share-item.is key);
      counts = let more = sum_by_more (λ (p : Part). p.count) xs i x lt in omega (arith, ap (λ (p : Part). p.count) c.share-item.is, more);
    }

use Rattle.std.proofs.Common.{◌≡◌, length}
use Rattle.th_block.specs.Locked.{HandsOnAll}
use Rattle.th_block.specs.Rows.{EnteredInRow}
use Rattle.th_block.proofs.ready.all_ready.Given as goal

abbrev pub invariant-loop : goal.invariant-loop
invariant-loop g l = record {
  made : length l.receipts.items ≡ l.counter;
  row : EnteredInRow l.fn.account l.account l.call l.fn.held.log.tally.total l.held.log.tally.total l.receipts.items;
  part : HandsOnAll l.fn.held.log.piece l.held.log.piece l.fn.cut l.cut;
  rest : l.held ≡ record l.fn.held { log = l.held.log };
}

use Rattle.std.proofs.Common.{◌≡◌, false, length}
use Rattle.th_block.specs.Locked.{HandsOnAll, KeepsAllWaiting}
use Rattle.th_block.specs.Together.{EnteredOf}
use Rattle.th_block.proofs.ready.each_ready.Given as goal

abbrev pub invariant-loop-next : goal.invariant-loop-next
invariant-loop-next g l = record {
  entered :
      EnteredOf (g.Q.Queued.call l.fn.number) l.fn.account l.account l.fn.held.log.tally.total l.held.log.tally.total
      l.fn.queue.items l.queue.items l.fn.receipts.items l.receipts.items;
  waits :
      l.awaited ≡ false
      → KeepsAllWaiting g.O.Object.machine g.O.Kind.handle_of (g.Q.Queued.call l.fn.number) l.fn.queue.items
      l.fn.held.log.piece.last l.held.log.piece.last;
  part : HandsOnAll l.fn.held.log.piece l.held.log.piece l.fn.cut l.cut;
  rest : l.held ≡ record l.fn.held { log = l.held.log };
}

abbrev pub decreases-loop-next : goal.decreases-loop-next
decreases-loop-next g l = length l.queue.items

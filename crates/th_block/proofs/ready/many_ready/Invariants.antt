use Rattle.std.proofs.Common.{◌≡◌, ◌-◌}
use Rattle.th_block.specs.Locked.{HandsOnAll}
use Rattle.th_block.specs.Rows.{EachBehind, IsAnswerTo}
use Rattle.th_block.specs.Together.{EnteredMany}
use Rattle.th_block.proofs.ready.many_ready.Given as goal

abbrev pub invariant-loop-count : goal.invariant-loop-count
invariant-loop-count g l = record {
  entered :
      EnteredMany g.O.Kind.ends l.fn.account l.account l.fn.call l.fn.limit l.fn.held.log.tally.total l.held.log.tally.total
      l.fn.receipts.items l.receipts.items l.count;
  answered : EachBehind (IsAnswerTo g.O.Object.machine g.O.Object.is_sound l.fn.call) l.fn.receipts.items l.receipts.items;
  part : HandsOnAll l.fn.held.log.piece l.held.log.piece l.fn.cut l.cut;
  rest : l.held ≡ record l.fn.held { log = l.held.log };
}

abbrev pub decreases-loop-count : goal.decreases-loop-count
decreases-loop-count g l = l.limit - l.count

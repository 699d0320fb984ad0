use Rattle.std.proofs.Common.{◌∙◌, arith, subst, sym}
use Rattle.th_block.specs.Rows.{AddsOne, EachBehind, IsAnswerTo}
use Rattle.th_block.proofs.Behind.{more_behind}
use Rattle.th_block.proofs.Many.{more_taken}
use Rattle.th_block.proofs.Parts.{hands_more, rest_on}
use Rattle.th_block.proofs.ready.many_ready.Goals as goal

pub loop-count-preserved : goal.loop-count-preserved
loop-count-preserved g c =
    let at = c.loop-count in
    let new = c.one_more.new in
    let m = g.O.Object.machine in
    let sound = g.O.Object.is_sound in
    record {
      entered = more_taken g.O.Kind.ends c.args.account.now at.account new.account c.args.call c.args.limit
          c.args.held.now.log.tally.total at.held.log.tally new.held.log.tally c.args.receipts.now.items at.receipts.items
          new.receipts.items at.count at.invariant.entered
          (omega (arith, c.loop-count-test.true)) (sym c.ended.ensures ∙ c.if-ended.false)
          (subst (λ call. AddsOne at.account new.account call at.held.log.tally new.held.log.tally at.receipts.items new.receipts.items)
          c.in-Ok.ensures.copy c.in-Made.ensures.made);
      answered = more_behind (IsAnswerTo m sound c.args.call) _ _ _ at.invariant.answered
          (subst (λ call. EachBehind (IsAnswerTo m sound call) at.receipts.items new.receipts.items)
          c.in-Ok.ensures.copy c.one_more.ensures.answered);
      part = hands_more c.args.held.now.log.piece at.held.log.piece new.held.log.piece
          c.args.cut.now at.cut new.cut at.invariant.part c.one_more.ensures.part;
      rest = rest_on c.args.held.now at.held new.held at.invariant.rest c.one_more.ensures.rest;
    }

pub returns-in-Waits-clause-part : goal.returns-in-Waits-clause-part
returns-in-Waits-clause-part g c = hands_more c.args.held.now.log.piece c.loop-count.held.log.piece c.one_more.new.held.log.piece
    c.args.cut.now c.loop-count.cut c.one_more.new.cut c.loop-count.invariant.part c.one_more.ensures.part

pub returns-in-Refused-clause-part : goal.returns-in-Refused-clause-part
returns-in-Refused-clause-part g c = hands_more c.args.held.now.log.piece c.loop-count.held.log.piece c.one_more.new.held.log.piece
    c.args.cut.now c.loop-count.cut c.one_more.new.cut c.loop-count.invariant.part c.one_more.ensures.part

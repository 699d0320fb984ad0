use Rattle.std.proofs.Common.{◌≡◌, ◌∙◌, ◌++◌, false, ap, arith, length, refl, subst, sym}
use Rattle.th_block.specs.Locked.{KeepsWaiting, KeepsAllWaiting}
use Rattle.th_block.specs.Rows.{AddsOne}
use Rattle.th_block.proofs.Many.{back_of, none_of, one_of}
use Rattle.th_block.proofs.Parts.{hands_more, hands_none, rest_on}
use Rattle.th_block.proofs.Waits.{wait_on}
use Rattle.th_block.proofs.ready.each_ready.Goals as goal

pub loop-next-init : goal.loop-next-init
loop-next-init g c = record {
  entered = none_of _ _ _ _ _;
  waits = λ none waiting others before. before;
  part = hands_none c.args.held.now.log.piece c.args.cut.now;
  rest = refl;
}

pub returns-then-not-is_ready-clause-row : goal.returns-then-not-is_ready-clause-row
returns-then-not-is_ready-clause-row g c = c.loop-next.invariant.entered

pub returns-clause-row : goal.returns-clause-row
returns-clause-row g c = c.loop-next.invariant.entered

pub loop-next-smaller : goal.loop-next-smaller
loop-next-smaller g c = omega (arith, ap length c.in-Some-pop_front.ensures.items)

pub loop-next-preserved : goal.loop-next-preserved
loop-next-preserved g c = record {
  entered = one_of _ _ _ _ _ _ _ _ _ c.in-Some-pop_front.item _ _ _ _ c.loop-next.invariant.entered c.in-Some-pop_front.ensures.items
      (subst (λ call. AddsOne c.loop-next.account c.one_moved.new.account call c.loop-next.held.log.tally
      c.one_moved.new.held.log.tally c.loop-next.receipts.items c.one_moved.new.receipts.items)
      c.call.ensures c.in-Ok.ensures.made);
  waits = wait_on g.O.Object.machine g.O.Kind.handle_of (g.Q.Queued.call c.args.number) c.loop-next.invariant.entered.made
      c.in-Some-pop_front.item c.pop_front.new.self.items c.args.queue.now.items c.loop-next.awaited c.in-Ok.is_awaited
      c.args.held.now.log.piece.last c.loop-next.held.log.piece.last c.one_moved.new.held.log.piece.last
      (c.loop-next.invariant.entered.queue_is ∙ ap (λ l. c.loop-next.invariant.entered.made ++ l) c.in-Some-pop_front.ensures.items)
      c.loop-next.invariant.waits
      (subst (λ call. c.in-Ok.is_awaited ≡ false → KeepsWaiting g.O.Object.machine g.O.Kind.handle_of call
      c.loop-next.held.log.piece.last c.one_moved.new.held.log.piece.last) c.call.ensures c.in-Ok.ensures.waits);
  part = hands_more c.args.held.now.log.piece c.loop-next.held.log.piece c.one_moved.new.held.log.piece
      c.args.cut.now c.loop-next.cut c.one_moved.new.cut c.loop-next.invariant.part c.one_moved.ensures.part;
  rest = rest_on c.args.held.now c.loop-next.held c.one_moved.new.held c.loop-next.invariant.rest c.one_moved.ensures.rest;
}

pub returns-in-Err-clause-part : goal.returns-in-Err-clause-part
returns-in-Err-clause-part g c = hands_more c.args.held.now.log.piece c.loop-next.held.log.piece c.one_moved.new.held.log.piece
    c.args.cut.now c.loop-next.cut c.one_moved.new.cut c.loop-next.invariant.part c.one_moved.ensures.part

pub returns-in-Err-clause-rest : goal.returns-in-Err-clause-rest
returns-in-Err-clause-rest g c = rest_on c.args.held.now c.loop-next.held c.one_moved.new.held c.loop-next.invariant.rest c.one_moved.ensures.rest

pub returns-in-Err-clause-row : goal.returns-in-Err-clause-row
returns-in-Err-clause-row g c = (
  c.in-Some-pop_front.item,
  c.in-Err.ensures.back ∙ c.call.ensures,
  back_of _ _ _ _ _ _ _ _ _ _ _ _ _ c.loop-next.invariant.entered c.in-Some-pop_front.ensures.items c.in-Err.ensures.same,
)

pub returns-in-Err-clause-waits : goal.returns-in-Err-clause-waits
returns-in-Err-clause-waits g c = λ none.
    subst (λ (p : g.row.O-State.Denot).
    KeepsAllWaiting g.O.Object.machine g.O.Kind.handle_of (g.Q.Queued.call c.args.number) c.args.queue.now.items
    c.args.held.now.log.piece.last p) (sym c.in-Err.ensures.last) (c.loop-next.invariant.waits none)

use Rattle.std.proofs.Common.{◌∙◌, List, inr, subst}
use Rattle.th_block.specs.Handles.{tx}
use Rattle.th_block.specs.Together.{CallsOf}
use Rattle.th_model.specs.declared.broadcast.BCall.TheVariants as BCalls
use Rattle.th_registry.specs.Receipts.{BroadcastReceipt}
use Rattle.th_shared.proofs.InRow.{few_sent, sent_of}
use Rattle.th_shared.proofs.rows.send.Goals as goal

pub returns-clause-few : goal.returns-clause-few
returns-clause-few g c =
    let sent = sent_of (tx c.args.sender.now) c.args.sender.now c.send_many.new.self c.args.values.now.items c.send_many.new.values.items
    c.reserve.new.self.items c.send_many.new.receipts.items c.send_many.result c.send_many.ensures.sent in
    few_sent (tx c.args.sender.now) c.args.sender.now c.send_many.new.self c.args.values.now.items sent.0 c.reserve.new.self.items
    c.send_many.new.receipts.items (c.reserve.ensures.items ∙ c.clear.ensures.items) sent.1

pub returns-clause-sends : goal.returns-clause-sends
returns-clause-sends g c =
    let sent = sent_of (tx c.args.sender.now) c.args.sender.now c.send_many.new.self c.args.values.now.items c.send_many.new.values.items
    c.reserve.new.self.items c.send_many.new.receipts.items c.send_many.result c.send_many.ensures.sent in
    inr (record {
      on = c.is_on.ensures.on c.if-not-is_on.false;
      over = sent.0;
      row = subst (λ (l : List BroadcastReceipt). CallsOf (λ v. BCalls.Send (tx c.args.sender.now) v) c.args.sender.now c.send_many.new.self
          c.args.values.now.items sent.0 l c.send_many.new.receipts.items) (c.reserve.ensures.items ∙ c.clear.ensures.items) sent.1;
    })

use Rattle.std.proofs.Common.{◌∙◌, ◌∷◌, ◌++◌, [], ap, sym}
use Rattle.th_block.specs.Rows.{IsAnswerTo}
use Rattle.th_block.proofs.Behind.{one_behind}
use Rattle.th_block.proofs.Parts.{hands_added}
use Rattle.th_block.proofs.Waits.{waits_on}
use Rattle.th_block.proofs.ready.one_moved.Goals as goal

pub returns-in-Ok-push-clause-made : goal.returns-in-Ok-push-clause-made
returns-in-Ok-push-clause-made g c = record {
  receipt = c.in-Ok-enter.receipt;
  entered = c.in-Ok-enter.ensures.told;
  place = c.in-Ok-enter.ensures.place;
  ticks = c.in-Ok-enter.ensures.tally;
  behind = c.in-Ok-push.ensures.items ∙ ap (λ l. l ++ c.in-Ok-enter.receipt ∷ []) c.in-Ok.ensures.items;
}

pub returns-in-Ok-push-clause-answered : goal.returns-in-Ok-push-clause-answered
returns-in-Ok-push-clause-answered g c =
    one_behind (IsAnswerTo g.O.Object.machine g.O.Object.is_sound c.args.call) _ _ c.in-Ok-enter.receipt
    (c.in-Ok-push.ensures.items ∙ ap (λ l. l ++ c.in-Ok-enter.receipt ∷ []) c.in-Ok.ensures.items)
    (c.in-Ok-enter.ensures.told.tells.call_is, c.reply-reply.ensures.answered)

pub returns-in-Ok-push-clause-waits : goal.returns-in-Ok-push-clause-waits
returns-in-Ok-push-clause-waits g c = λ none.
    waits_on g.O.Object.machine g.O.Object.is_sound g.O.Kind.handle_of g.O.Kind.is_news g.met.O.Kind.news_ok c.args.call
    c.in-Ok-enter.receipt.call c.in-Ok-enter.receipt.reply _ _ c.in-Ok-enter.ensures.sound
    c.in-Ok-enter.ensures.told.tells.call_is c.in-Ok-enter.ensures.step (sym c.is_awaited-awaited.ensures ∙ none)

pub returns-in-Ok-push-clause-part : goal.returns-in-Ok-push-clause-part
returns-in-Ok-push-clause-part g c = hands_added _ _ _ _ _ _ _ c.in-Ok-enter.ensures.part

use Rattle.std.proofs.Common.{◌≡◌, ◌∙◌, ◌-◌, Some, ap, length, subst, sym}
use Rattle.std.specs.Prelude.{slice_get}
use Rattle.th_block.proofs.Many.{ended_last}
use Rattle.th_block.proofs.ready.ended.Goals as goal

pub returns-in-Some : goal.returns-in-Some
returns-in-Some g c = c.ends.ensures ∙ ap g.O.Kind.ends c.reply.ensures.reply
    ∙ sym (ended_last g.O.Kind.ends c.args.receipts.now.items c.in-Some.receipt.now
    (subst (λ l. slice_get l (length l - 1) ≡ Some c.in-Some.receipt.now) c.deref.ensures.value (sym c.in-Some.ensures.value)))

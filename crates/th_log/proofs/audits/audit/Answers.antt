use Rattle.std.proofs.Common.{Option, sym, subst, ◌∙◌}
use Rattle.std.specs.Prelude.{ℕ}
use Rattle.th_log.specs.Audit.{told_of}
use Rattle.th_log.proofs.Auditing.{Verdicts, audited}
use Rattle.th_log.proofs.audits.audit.Goals as goal

pub returns-in-Ok-None : goal.returns-in-Ok-None
returns-in-Ok-None g c =
    let calls = c.are_exact.ensures.calls in
    let replies = c.are_exact.ensures.replies in
    subst (λ (o : Option ℕ). Verdicts c.args.segment.now g.O.Compared.call_eq g.O.Compared.reply_eq calls replies
    (told_of c.args.diaries.now) o) (sym c.in-Ok-None.ensures ∙ c.in-Ok-None.field-0-is)
    (audited c.args.segment.now g.O.Compared.call_eq g.O.Compared.reply_eq calls replies c.args.diaries.now)

pub returns-in-Ok-Some : goal.returns-in-Ok-Some
returns-in-Ok-Some g c =
    let calls = c.are_exact.ensures.calls in
    let replies = c.are_exact.ensures.replies in
    subst (λ (o : Option ℕ). Verdicts c.args.segment.now g.O.Compared.call_eq g.O.Compared.reply_eq calls replies
    (told_of c.args.diaries.now) o) (sym c.in-Ok-Some.ensures ∙ c.in-Ok-Some.field-0-is)
    (audited c.args.segment.now g.O.Compared.call_eq g.O.Compared.reply_eq calls replies c.args.diaries.now)

use Rattle.std.proofs.Common.{◌≡◌, ◌∙◌, None, Some, Result, subst, sym}
use Rattle.std.proofs.lemmas.Option.{same_Some}
use Rattle.th_lines.specs.Output.{AddsOrFails, output}
use Rattle.th_lines.specs.Replies.{spell}
use Rattle.th_lines.specs.declared.reply.Reply.{Reply}
use Rattle.th_registry.specs.Receipts.{Receipt}
use Rattle.th_registry.specs.declared.outcome.NoEvent.{NoEvent}
use Rattle.th_session.specs.Quiet.{reply_or_none}
use Rattle.th_session.proofs.Unkept.{left-none, left-one}
use Rattle.th_session.proofs.quiet.put_reply.Goals as goal

no-last : {R : Type 0} (reply : R) → None ≡ Some reply → ⊥
no-last reply e = let bad : ⊥ = cc in bad

pub returns-in-Err : goal.returns-in-Err
returns-in-Err g c =
    let before = output g.W.Write.contents c.args.writer.now c.args.out.now in
    let after = output g.W.Write.contents c.append-in-Err.new.writer c.append-in-Err.new.self in
    let result = c.append-in-Err.result in
    let P : Result (Receipt g.row.K-Call.Denot g.row.R.Denot) NoEvent → Type 0 = λ came.
    AddsOrFails (spell (reply_or_none g.R.AsReply.told came)) before after result in
    let kept = c.keep.ensures in
    let none =
    left-none (λ (r : Receipt g.row.K-Call.Denot g.row.R.Denot). r.reply) kept.0 c.keep.result c.in-Err.why _ c.in-Err.is kept.2 in
    let put = subst (λ (reply : Reply). AddsOrFails (spell reply) before after result) c.replied_none.ensures c.append-in-Err.ensures in
    (kept.0, kept.1, subst P (sym none) put)

pub returns-in-Some : goal.returns-in-Some
returns-in-Some g c =
    let before = output g.W.Write.contents c.args.writer.now c.args.out.now in
    let after = output g.W.Write.contents c.append.new.writer c.append.new.out in
    let result = c.append.result in
    let P : Result (Receipt g.row.K-Call.Denot g.row.R.Denot) NoEvent → Type 0 = λ came.
    AddsOrFails (spell (reply_or_none g.R.AsReply.told came)) before after result in
    let kept = c.keep.ensures in
    let one = left-one (λ (r : Receipt g.row.K-Call.Denot g.row.R.Denot). r.reply) kept.0 c.keep.result _ c.in-Ok.is kept.2 in
    let same = same_Some c.in-Some.reply.now one.0.reply (c.in-Some.ensures ∙ one.2) in
    let put = subst (λ (reply : g.row.R.Denot). AddsOrFails (spell (g.R.AsReply.told reply)) before after result) same c.append.ensures in
    (kept.0, kept.1, subst P (sym one.1) put)

pub returns-in-None : goal.returns-in-None
returns-in-None g c =
    let kept = c.keep.ensures in
    let one = left-one (λ (r : Receipt g.row.K-Call.Denot g.row.R.Denot). r.reply) kept.0 c.keep.result _ c.in-Ok.is kept.2 in
    absurd (no-last one.0.reply (c.in-None.ensures ∙ one.2))

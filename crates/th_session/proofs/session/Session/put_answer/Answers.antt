use Rattle.std.proofs.Common.{◌∙◌, List, ℕ, sym, subst}
use Rattle.th_lines.specs.Output.{AddsOrFails, output}
use Rattle.th_session.proofs.Kept.{not_none, some_receipt, told_event, told_last, told_reply}
use Rattle.th_session.proofs.session.Session.put_answer.Goals as goal

pub returns-in-Reply : goal.returns-in-Reply
returns-in-Reply g c = λ answer had t kept.
    let P : List ℕ → Type 0 =
    λ text.
    AddsOrFails text (output g.W.Write.contents c.args.writer.now c.args.out.now)
    (output g.W.Write.contents c.append.new.writer c.append.new.self) c.append.result in
    subst P (sym (told_reply answer c.in-Reply.reply (sym c.in-Reply.is ∙ t))) c.append.ensures

pub returns-in-Some : goal.returns-in-Some
returns-in-Some g c = λ answer had t kept.
    let P : List ℕ → Type 0 =
    λ text.
    AddsOrFails text (output g.W.Write.contents c.args.writer.now c.args.out.now)
    (output g.W.Write.contents c.append_told.new.writer c.append_told.new.out) c.append_told.result in
    subst P
    (sym (told_event answer had c.args.self.now (sym c.in-Event.is ∙ t) kept c.in-Some.receipt.now
    (sym c.in-Some.ensures))) c.append_told.ensures

pub returns-in-None : goal.returns-in-None
returns-in-None g c =
    λ answer had t kept. absurd (some_receipt answer had c.args.self.now (sym c.in-Event.is ∙ t) kept (sym c.in-None.ensures))

pub returns-in-Some-last_segment : goal.returns-in-Some-last_segment
returns-in-Some-last_segment g c = λ answer had t kept.
    let P : List ℕ → Type 0 =
    λ text.
    AddsOrFails text (output g.W.Write.contents c.args.writer.now c.args.out.now)
    (output g.W.Write.contents c.append_trace.new.writer c.append_trace.new.out) c.append_trace.result in
    subst P
    (sym (told_last answer had c.args.self.now (sym c.in-Trace.is ∙ t) kept c.in-Some-last_segment.segment.now
    (sym c.in-Some-last_segment.ensures))) c.append_trace.ensures

pub returns-in-None-last_segment : goal.returns-in-None-last_segment
returns-in-None-last_segment g c =
    λ answer had t kept. absurd (not_none answer had c.args.self.now (sym c.in-Trace.is ∙ t) kept (sym c.in-None-last_segment.ensures))

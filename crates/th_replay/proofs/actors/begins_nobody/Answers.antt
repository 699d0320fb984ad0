use Rattle.std.proofs.Common.{◌≡◌, ◌∙◌, Bool, true, false, ap, refl, sym}
use Rattle.std.specs.Prelude.{◌||◌}
use Rattle.th_session.specs.Script.{Answer, has_quit}
use Rattle.th_replay.specs.Schedule.{is_short}
use Rattle.th_replay.proofs.Steps.{told_reply, told_event, told_trace}
use Rattle.th_replay.proofs.actors.begins_nobody.Goals as goal

pub returns-then-is_short : goal.returns-then-is_short
returns-then-is_short c = λ given t.
    let short : is_short given ≡ true =
    ap is_short (told_reply given _ (sym c.in-Reply.is ∙ t)) ∙ sym c.is_short.ensures ∙ c.if-is_short.true in
    c.if-is_short.true ∙ sym (ap (λ (b : Bool). b || has_quit given) short)

pub returns-else-is_short : goal.returns-else-is_short
returns-else-is_short c = λ given t.
    let reply = told_reply given _ (sym c.in-Reply.is ∙ t) in
    let other : is_short given ≡ false = ap is_short reply ∙ sym c.is_short.ensures ∙ c.if-is_short.false in
    c.has_quit.ensures ∙ ap has_quit (sym reply) ∙ sym (ap (λ (b : Bool). b || has_quit given) other)

pub returns-in-Event : goal.returns-in-Event
returns-in-Event c = λ given t. sym (told_event (λ (a : Answer). is_short a || has_quit a) given (λ n r. refl) (sym c.in-Event.is ∙ t))

pub returns-in-Trace : goal.returns-in-Trace
returns-in-Trace c = λ given t. sym (told_trace (λ (a : Answer). is_short a || has_quit a) given (λ n s. refl) (sym c.in-Trace.is ∙ t))

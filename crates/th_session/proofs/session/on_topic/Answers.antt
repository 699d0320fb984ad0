use Rattle.std.proofs.Common.{Bool, cond, Some, None, refl, sym, subst, ◌∙◌}
use Rattle.th_lines.specs.declared.reply.Code.TheVariants as Codes
use Rattle.th_lines.specs.declared.reply.Reply.TheVariants.{Refused}
use Rattle.th_session.specs.Held.{held}
use Rattle.th_session.specs.Script.{Plays, Replied, Say, acting}
use Rattle.th_session.proofs.session.on_topic.Goals as goal

pub returns-in_default : goal.returns-in_default
returns-in_default g c = (Replied (Refused Codes.NoTopic), refl, ((None, c.args.desk.now, c.in_default.ensures, (refl, refl, refl)), refl))

pub returns-then-not-is_for : goal.returns-then-not-is_for
returns-then-not-is_for g c =
    let h = held g.D.Desk.tx g.D.Desk.rx c.args.handles.now.entries in
    let refused = Replied (Refused Codes.WrongKind) in
    let P : Bool → Type 0 = λ right. Plays g.D.Desk.says (cond right (acting c.args.action c.in-Some.found.topic.0 h)
    (Say (Refused Codes.WrongKind) h)) c.args.desk.now refused h c.args.desk.now in
    let wrong = sym c.is_for.ensures ∙ c.if-not-is_for.true in
    (refused, refl, ((Some c.in-Some.found, c.args.desk.now, c.in-Some.ensures, subst P (sym wrong) (refl, refl, refl)), refl))

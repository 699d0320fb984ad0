use Rattle.std.proofs.Common.{List, [], ℕ, refl, sym, subst}
use Rattle.std.specs.Prelude.{Option}
use Rattle.std.specs.Borrow.{Bor}
use Rattle.th_lines.specs.Commands.{command_of}
use Rattle.th_lines.specs.Intake.{line_given}
use Rattle.th_lines.specs.Output.{Adds, Output, output}
use Rattle.th_lines.specs.declared.reply.Code.TheVariants as Codes
use Rattle.th_lines.specs.declared.reply.Reply.TheVariants.{Refused}
use Rattle.th_lines.proofs.OutputLemmas.{adds_none}
use Rattle.th_session.specs.Answer.{refused}
use Rattle.th_session.specs.Run.{IsAnswered, Unwritten}
use Rattle.th_session.specs.Script.{Answer, Replied}
use Rattle.th_session.proofs.Kept.{refused_line}
use Rattle.th_session.proofs.run.answer_in_time.Goals as goal

pub returns-in_default-clause-answers : goal.returns-in_default-clause-answers
returns-in_default-clause-answers g c =
    let answer : Answer = Replied (Refused Codes.LongLine) in
    let P : Option (Bor (List ℕ)) → Type 0 =
    λ line.
    IsAnswered g.D.Desk.says (line_given line) (c.args.session.now, c.args.desk.now) answer (c.args.session.now, c.args.desk.now) in
    ((answer, refl, subst P (sym c.in_default.is) (refl, refl)), adds_none _)

pub returns-in-Err-clause-answers : goal.returns-in-Err-clause-answers
returns-in-Err-clause-answers g c =
    let answer : Answer = refused c.in-Err.fault in
    let P : Option (Bor (List ℕ)) → Type 0 =
    λ line.
    IsAnswered g.D.Desk.says (line_given line) (c.args.session.now, c.args.desk.now) answer (c.args.session.now, c.args.desk.now) in
    let bad =
    refused_line g.D.Desk.says c.args.session.now c.args.desk.now
    (command_of c.in-Some.bytes.now) c.in-Err.fault c.in-Err.ensures.exact in
    ((answer, c.refused.ensures, subst P (sym c.in-Some.is) bad), adds_none _)

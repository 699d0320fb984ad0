use Rattle.th_lines.specs.Commands.{command_of}
use Rattle.th_session.specs.Answer.{refused}
use Rattle.th_session.proofs.Kept.{refused_line}
use Rattle.th_session.proofs.session.Session.answer_to.Goals as goal

pub returns-in-Err : goal.returns-in-Err
returns-in-Err g c = (
  refused c.in-Err.fault,
  c.refused.ensures,
  refused_line g.D.Desk.says c.args.self.now c.args.desk.now (command_of c.args.line.now) c.in-Err.fault c.in-Err.ensures.exact,
)

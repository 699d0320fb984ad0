use Rattle.th_lines.specs.Commands.{command_of}
use Rattle.th_session.proofs.Kept.{keeps_as}
use Rattle.th_session.proofs.session.Session.answer.Goals as goal

pub returns : goal.returns
returns g c =
    let given = c.answer_to-answer.ensures in
    let kept =
    keeps_as g.D.Desk.says c.args.self.now c.args.desk.now c.answer_to-answer.new.self c.answer_to-answer.new.desk given.0
    (command_of c.args.line.now) given.2 in
    (given.0, given.2, c.put_answer.ensures given.0 c.args.self.now given.1 kept)

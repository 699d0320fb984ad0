use Rattle.std.proofs.Common.{◌≡◌, arith, subst, sym}
use Rattle.std.proofs.Common.{ap, ◌∙◌}
use Rattle.th_lines.specs.Output.{Output, output}
use Rattle.th_registry.specs.Hub.{Query}
use Rattle.th_session.specs.Kept.{Kept}
use Rattle.th_session.proofs.RowTaken.{none_carried, row_broken, row_put}
use Rattle.th_session.proofs.run.serve_row.Goals as goal

pub returns-in-Ok-clause-serves : goal.returns-in-Ok-clause-serves
returns-in-Ok-clause-serves g c =
    let contents = g.W.Write.contents in
    let before : Output = output contents c.args.writer.now c.args.replies.now.text in
    let after : Output = output contents c.put_row-put.new.writer c.put_row-put.new.replies.text in
    rw (c.let_go.ensures.desk, c.in-Ok.ensures.desk) (row_put g.D.Desk.says c.args.keeping c.args.intake.now c.args.most
    (c.args.session.now, c.args.desk.now) (c.carry_out-count.new.session, c.carry_out-count.new.desk) c.let_go.new.self
    c.carry_out-count.result before after c.if-count-gt0.true c.let_go.ensures.session c.carry_out-count.ensures.row c.in-Ok.ensures.told)

pub returns-in-Err-clause-serves : goal.returns-in-Err-clause-serves
returns-in-Err-clause-serves g c =
    let contents = g.W.Write.contents in
    let before : Output = output contents c.args.writer.now c.args.replies.now.text in
    let after : Output = output contents c.put_row-put.new.writer c.put_row-put.new.replies.text in
    rw (c.let_go.ensures.desk, c.in-Err.ensures.desk) (row_broken g.D.Desk.says c.args.keeping c.args.intake.now c.args.most
    (c.args.session.now, c.args.desk.now) (c.carry_out-count.new.session, c.carry_out-count.new.desk) c.let_go.new.self
    c.carry_out-count.result before after c.if-count-gt0.true c.let_go.ensures.session c.carry_out-count.ensures.row c.in-Err.ensures.told)

use Rattle.std.proofs.Common.{append_assoc}
use Rattle.std.specs.List.{concat}
use Rattle.th_lines.specs.Output.{output}
use Rattle.th_lines.specs.Replies.{spell}
use Rattle.th_lines.specs.declared.reply.Reply.TheVariants.{Count}
use Rattle.th_lines.proofs.OutputLemmas.{adds_others, front_as, front_more}
use Rattle.th_session.proofs.trace.append_counted.Goals as goal

pub returns-in-Ok : goal.returns-in-Ok
returns-in-Ok g c = adds_others (output g.W.Write.contents c.args.writer.now c.args.out.now)
    (output g.W.Write.contents c.append.new.writer c.append.new.self)
    (output g.W.Write.contents c.append_lines.new.writer c.append_lines.new.self)
    (spell (Count c.args.count)) (concat (g.L.Lines.to_come c.args.lines.now)) c.append_lines.result c.in-Ok.ensures c.append_lines.ensures

pub returns : goal.returns
returns g c =
    let text = spell (Count c.args.count) in
    let more = concat (g.L.Lines.to_come c.args.lines.now) in
    front_as (append_assoc c.args.out.now text more) (front_more more c.in-Err.ensures)

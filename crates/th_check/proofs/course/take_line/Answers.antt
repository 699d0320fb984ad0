use Rattle.th_check.specs.Judging.{seen, taken}
use Rattle.th_check.specs.Stages.{words_of}
use Rattle.th_check.proofs.Turning.{at_reply}
use Rattle.th_check.proofs.course.take_line.Goals as goal

pub returns-in-Reply : goal.returns-in-Reply
returns-in-Reply g c =
    let kind = g.K.Object in
    let words = words_of g.C.EntryLines.grammar g.C.JudgedCall.told c.args.form in
    let course = c.args.course.now in
    at_reply kind.machine kind.is_proper words (kind.shows course.channel) course.count course.due c.in-Reply.call
    (let told = c.in-Reply.ensures.value in cc)
    c.args.line.now (taken c.take_reply.result (seen kind.shows c.take_reply.new.course)) (c.take_reply.ensures c.args.form)

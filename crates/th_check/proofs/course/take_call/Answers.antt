use Rattle.std.proofs.Common.{arith, refl}
use Rattle.th_check.specs.Judging.{seen}
use Rattle.th_check.specs.Stages.{words_of}
use Rattle.th_check.proofs.Turning.{reads_bad, says_call, says_no_call}
use Rattle.th_check.proofs.course.take_call.Goals as goal

pub returns-in-Err-BadLine : goal.returns-in-Err-BadLine
returns-in-Err-BadLine g c = λ state shown.
    let kind = g.K.Object in
    let words = words_of g.C.EntryLines.grammar g.C.JudgedCall.told c.args.form in
    let course = c.args.course.now in
    says_no_call kind.machine kind.is_proper words state course.count c.args.line.now (seen kind.shows course) shown refl c.requires
    c.take_end.result
    (reads_bad _ _ _ c.in-Err-BadLine.field-0-is c.in-Err-BadLine.ensures) c.take_end.ensures

pub returns : goal.returns
returns g c = λ state shown.
    let kind = g.K.Object in
    let words = words_of g.C.EntryLines.grammar g.C.JudgedCall.told c.args.form in
    let course = c.args.course.now in
    says_call kind.machine kind.is_proper words state course.count c.args.line.now (kind.shows course.channel) c.in-Ok.call _ shown
    c.in-Ok.ensures
    (omega (arith, c.if-course-ge-MOST_ENTRIES.false)) refl refl refl

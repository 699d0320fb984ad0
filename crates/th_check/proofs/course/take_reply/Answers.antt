use Rattle.std.proofs.Common.{◌≡◌, true, refl, sym, subst}
use Rattle.th_traces.specs.Grammars.{reply_of}
use Rattle.th_check.specs.declared.fault.Expected.{Expected}
use Rattle.th_check.specs.Judging.{IsOther}
use Rattle.th_check.specs.Stages.{words_of}
use Rattle.th_check.proofs.Turning.{says_reply, says_too_early}
use Rattle.th_check.proofs.course.take_reply.Goals as goal

pub returns-then-not-ready : goal.returns-then-not-ready
returns-then-not-ready g c = λ form state before shown counted.
    let kind = g.K.Object in
    let grammar = g.C.EntryLines.grammar in
    let line = c.args.line.now in
    let other = subst (λ (own : Expected). IsOther (reply_of grammar c.args.call line) own c.another.result) c.tell_none.ensures
    (c.another.ensures c.args.call (sym c.gives_value-gives.ensures)) in
    says_too_early kind.machine kind.is_proper (words_of grammar g.C.JudgedCall.told form) g.met.K.Object.step_ok g.met.K.Object.answer_ok
    state (kind.shows c.args.course.now.channel) shown before
    c.args.call line c.another.result other (let early = c.if-not-ready.true in let told = c.ready.ensures in cc)

pub returns : goal.returns
returns g c = λ form state before shown counted.
    let kind = g.K.Object in
    let call = c.args.call in
    let late : kind.machine.ready (kind.shows c.args.course.now.channel) call ≡ true =
    let no = c.if-not-ready.false in let told = c.ready.ensures in cc in
    says_reply kind.machine kind.is_proper (words_of g.C.EntryLines.grammar g.C.JudgedCall.told form) g.met.K.Object.step_ok
    g.met.K.Object.answer_ok state (kind.shows c.args.course.now.channel) shown before call c.args.line.now
    (kind.shows c.apply.new.self) c.in-Ok.reply c.in-Ok.ensures.step _
    (λ own. c.in_ok-judge_reply.ensures call (sym c.gives_value-gives.ensures)
    (subst (λ (r : g.row.C-Reply.Denot). g.C.JudgedCall.answers call r) (sym own) (c.requires.known state call)))
    late refl counted refl

use Rattle.std.proofs.Common.{sym, ◌∙◌}
use Rattle.std.proofs.lemmas.Bool.{false≢true}
use Rattle.th_check.proofs.PrintedBroadcast.{broadcast_says}
use Rattle.th_check.proofs.judged.BCallValueJudgedCall.judge_reply.Goals as goal

pub returns-then-said : goal.returns-then-said
returns-then-said c = λ call same own.
    (broadcast_says c.args.line.now c.args.reply c.spells_reply-said.result c.spells_reply-said.ensures c.is_reply.ensures call own).0
    c.if-said.true

pub returns : goal.returns
returns c = λ call same own.
    let said = broadcast_says c.args.line.now c.args.reply c.spells_reply-said.result c.spells_reply-said.ensures c.is_reply.ensures call
    own in
    (c.another.ensures call same, λ e. false≢true (sym c.if-said.false ∙ said.1 e))

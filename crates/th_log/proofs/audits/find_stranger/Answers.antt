use Rattle.std.proofs.Common.{sym, ◌∙◌}
use Rattle.th_log.specs.Outcome.{Told}
use Rattle.th_log.specs.Walk.{stands}
use Rattle.th_log.proofs.Walks.{stranger_here, stranger_later}
use Rattle.th_log.proofs.audits.find_stranger.Goals as goal

pub returns-in-Some : goal.returns-in-Some
returns-in-Some g c =
    let fits =
    λ (t : Told g.row.O-Call.Denot g.row.O-Reply.Denot). stands g.O.Compared.call_eq g.O.Compared.reply_eq c.args.segment.now t in
    sym (sym c.loop-diary.invariant.strange
    ∙ stranger_here fits c.args.segment.now.first c.loop-diary.named.items c.args.diaries.now c.loop-diary.diary-index c.diary-item.result
    c.in-Some.place c.loop-diary-test.true c.diary-item.is
    (rw c.receipts.ensures at c.in-Some.ensures.stranger))

pub loop-diary-preserved : goal.loop-diary-preserved
loop-diary-preserved g c =
    let fits =
    λ (t : Told g.row.O-Call.Denot g.row.O-Reply.Denot). stands g.O.Compared.call_eq g.O.Compared.reply_eq c.args.segment.now t in
    let later =
    stranger_later fits c.args.segment.now.first c.loop-diary.named.items c.args.diaries.now c.loop-diary.diary-index c.diary-item.result
    c.loop-diary-test.true c.diary-item.is
    (rw c.receipts.ensures at c.in-None.ensures.stranger) in
    let named = rw c.receipts.ensures at c.in-None.ensures.named in
    record {
      strange = rw named (sym later ∙ c.loop-diary.invariant.strange);
      len = c.in-None.ensures.len ∙ c.loop-diary.invariant.len;
    }

use Rattle.std.proofs.Common.{◌≡◌, length, drop, replicate, false}
use Rattle.std.specs.Vec.{vec_len}
use Rattle.th_log.specs.Outcome.{Told}
use Rattle.th_log.specs.Walk.{stands, stranger}
use Rattle.th_log.proofs.audits.find_stranger.Given as goal

abbrev pub invariant-loop-diary : goal.invariant-loop-diary
invariant-loop-diary g l =
    let fits = λ (t : Told g.row.O-Call.Denot g.row.O-Reply.Denot). stands g.O.Compared.call_eq g.O.Compared.reply_eq l.segment t in
    record {
      strange : stranger fits l.segment.first l.named.items (drop l.diary-index l.diaries)
          ≡ stranger fits l.segment.first (replicate (length l.segment.entries) false) l.diaries;
      len : vec_len l.named ≡ length l.segment.entries;
    }

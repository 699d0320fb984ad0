use Rattle.std.proofs.Common.{◌≡◌, length, drop}
use Rattle.std.specs.Vec.{vec_len}
use Rattle.th_log.specs.Outcome.{Told}
use Rattle.th_log.specs.Walk.{stands, stranger_in, named_after}
use Rattle.th_log.proofs.audits.stranger_in.Given as goal

abbrev pub invariant-loop-receipt : goal.invariant-loop-receipt
invariant-loop-receipt g l =
    let fits = λ (t : Told g.row.O-Call.Denot g.row.O-Reply.Denot). stands g.O.Compared.call_eq g.O.Compared.reply_eq l.segment t in
    record {
      first : l.first ≡ l.segment.first;
      told : stranger_in fits l.segment.first l.floor l.named.items (drop l.receipt-index l.receipts)
          ≡ stranger_in fits l.segment.first 0 l.fn.named.items l.receipts;
      named : named_after l.segment.first l.named.items (drop l.receipt-index l.receipts)
          ≡ named_after l.segment.first l.fn.named.items l.receipts;
      len : vec_len l.named ≡ length l.segment.entries;
    }

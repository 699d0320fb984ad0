use Rattle.std.proofs.Common.{subst}
use Rattle.th_lines.specs.Feeding.{Feeding, HandsOut}
use Rattle.th_lines.proofs.FeedingLemmas.{handed_out}
use Rattle.th_lines.proofs.feeder.Feeder.hand_out.Goals as goal

pub returns : goal.returns
returns c =
    let i = c.self.inside in
    let mid = c.next_line.new.self in
    let o : Feeding = record { line = i.intake.line; came = i.intake.came; taken = i.taken; limit = i.limit; ended = i.ended } in
    subst (λ (k : Feeding). HandsOut k c.next_line.result (record o { line = mid.line; came = mid.came })) c.self.view_is
    (handed_out c.next_line.result o mid c.next_line.ensures c.if-self.false)

use Rattle.std.proofs.Common.{refl}
use Rattle.th_block.proofs.Word.{posted_next}
use Rattle.th_block.proofs.posted.Posted.cut.Goals as goal

pub invariant_of-self-2 : goal.invariant_of-self-2
invariant_of-self-2 g c =
    let old = c.self.inside in
    posted_next g.O.Object.machine g.O.Object.is_sound record { log = old.log; pen = old.pen }
    record { log = c.cut.new.self; pen = old.pen } c.self.invariant c.len-entries.ensures.kept refl
    c.in_ok-segment.ensures.next c.in_ok-segment.ensures.tally

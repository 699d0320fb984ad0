use Rattle.std.proofs.Common.{List, ℕ, subst, sym, slice_range}
use Rattle.th_lines.specs.Intake.{IsSameLine}
use Rattle.th_lines.proofs.LineLemmas.{range_front}
use Rattle.th_lines.proofs.intake.refill.Goals as goal

pub returns-clause-kept : goal.returns-clause-kept
returns-clause-kept g c =
    let kept = c.keep_begun-begun.new.buffer in
    let now = c.read_behind-moved.new.buffer in
    let from = c.keep_begun-begun.result in
    let same = range_front kept now from 4097 c.keep_begun-begun.ensures.from c.read_behind-moved.ensures.kept in
    subst (λ (l : List ℕ). IsSameLine l (slice_range c.args.buffer.now c.args.begun c.args.end)) (sym same) c.keep_begun-begun.ensures.kept

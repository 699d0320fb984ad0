use Rattle.std.proofs.Common.{arith, ℕ, List, ◌+◌, subst, true, false, slice_range}
use Rattle.th_lines.specs.Intake.{Reading, Finds}
use Rattle.th_lines.proofs.LineLemmas.{finds_line, finds_none, lf_at, no_lf-all}
use Rattle.th_lines.proofs.intake.Intake.next_line.Goals as goal

pub returns-in_default : goal.returns-in_default
returns-in_default c =
    let i = c.self.inside in
    let buffer : List ℕ = i.buffer.items in
    let new : Reading = record {
      line = slice_range buffer i.line_from i.line_to;
      came = record { begun = slice_range buffer i.begun i.ahead_to; ahead = slice_range buffer i.ahead_to i.ahead_to };
    } in
    subst (λ (old : Reading). Finds old.came false new) c.self.view_is
    (finds_none buffer c.deref.result.now i.begun i.ahead_from i.ahead_to c.self.invariant.next c.self.invariant.ahead c.deref.ensures.value
    new.line (no_lf-all _ (λ j lt e. c.in_default.ensures j (omega arith) lt e)))

pub returns : goal.returns
returns c =
    let i = c.self.inside in
    let buffer : List ℕ = i.buffer.items in
    let end : ℕ = i.ahead_from + c.in-Some.count in
    let new : Reading = record {
      line = slice_range buffer i.begun end;
      came = record { begun = slice_range buffer (end + 1) (end + 1); ahead = slice_range buffer (end + 1) i.ahead_to };
    } in
    subst (λ (old : Reading). Finds old.came true new) c.self.view_is
    (finds_line buffer c.deref.result.now i.begun i.ahead_from i.ahead_to c.self.invariant.next c.self.invariant.ahead c.deref.ensures.value
    c.in-Some.count (lf_at _ c.in-Some.count c.in-Some.ensures.0.high c.in-Some.ensures.1
    (λ j lt e. c.in-Some.ensures.0.before j (omega arith) lt e)))

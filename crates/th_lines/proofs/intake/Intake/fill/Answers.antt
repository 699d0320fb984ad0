use Rattle.std.proofs.Common.{◌≡◌, ◌<◌, ◌+◌, ◌-◌, ◌++◌, ℕ, List, ap, arith, drop, length, length-drop, length-take, slice_range, subst, sym, take}
use Rattle.std.specs.Prelude.{Option}
use Rattle.th_lines.specs.Intake.{Came, Fills, IsSameLine, Reading}
use Rattle.th_lines.proofs.LineLemmas.{fills, lent_back, moved_within}
use Rattle.th_lines.proofs.intake.Intake.fill.Goals as goal

pub overflow_add-self : goal.overflow_add-self
overflow_add-self g c =
    let moved = moved_within _ _ c.refill-begun.result.1 (drop 4097 c.refill-begun.new.buffer) c.refill-begun.ensures.moved in
    let behind = length-drop 4097 c.refill-begun.new.buffer in
    omega (arith, moved, behind, c.bytes_moved.ensures, c.as_mut_slice.ensures.len, c.refill-begun.auto.buffer)

pub invariant_of-self : goal.invariant_of-self
invariant_of-self g c =
    let i = c.self.inside in
    let now : List ℕ = c.refill-begun.new.buffer in
    let moved = moved_within _ _ c.refill-begun.result.1 (drop 4097 now) c.refill-begun.ensures.moved in
    let same : take i.buffer.len (now ++ drop (length now) i.buffer.items) ≡ now =
    lent_back i.buffer.len now i.buffer.items (omega (arith, c.refill-begun.auto.buffer, c.as_mut_slice.ensures.len)) in
    let all = ap length same in
    record {
      line = omega arith;
      line_end = omega arith;
      next = omega (arith, c.refill-begun.ensures.begun);
      ahead = omega arith;
      ahead_end = omega (arith, moved, all, length-drop 4097 now, c.bytes_moved.ensures);
      size = omega (arith, all, c.self.invariant.size, c.refill-begun.auto.buffer, ap length c.as_mut_slice.ensures.value);
    }

pub returns-clause-filled : goal.returns-clause-filled
returns-clause-filled g c =
    let i = c.self.inside in
    let r : Option (List ℕ) = g.R.Read.remaining c.args.reader.now.device in
    let r' : Option (List ℕ) = g.R.Read.remaining c.refill-begun.new.reader.device in
    let now : List ℕ = c.refill-begun.new.buffer in
    let begun : ℕ = c.refill-begun.result.0 in
    let same : take i.buffer.len (now ++ drop (length now) i.buffer.items) ≡ now =
    lent_back i.buffer.len now i.buffer.items (omega (arith, c.refill-begun.auto.buffer, c.as_mut_slice.ensures.len)) in
    let moved = c.refill-begun.result.1 in
    let old : Came = record {
      begun = slice_range i.buffer.items i.begun i.ahead_from;
      ahead = slice_range i.buffer.items i.ahead_from i.ahead_to;
    } in
    let kept : IsSameLine (slice_range now begun 4097) old.begun =
    subst (λ (l : List ℕ). IsSameLine (slice_range now begun 4097)
    (slice_range l i.begun i.ahead_from)) c.as_mut_slice.ensures.value c.refill-begun.ensures.kept in
    let room : 4097 < length now =
    omega (arith, c.self.invariant.size, c.refill-begun.auto.buffer, ap length c.as_mut_slice.ensures.value) in
    let bytes : List ℕ = take i.buffer.len (now ++ drop (length now) i.buffer.items) in
    let new : Came = record { begun = slice_range bytes begun 4097; ahead = slice_range bytes 4097 (4097 + c.bytes_moved.result) } in
    subst (λ (was : Reading). Fills r r' moved was.came new) c.self.view_is
    (subst (λ (l : List ℕ). Fills r r' moved old
    (record { begun = slice_range l begun 4097; ahead = slice_range l 4097 (4097 + c.bytes_moved.result) })) (sym same)
    (subst (λ (n : ℕ). Fills r r' moved old
    (record { begun = slice_range now begun 4097; ahead = slice_range now 4097 (4097 + n) })) (sym c.bytes_moved.ensures)
    (fills r r' moved now begun old room c.refill-begun.ensures.moved kept)))

pub returns-clause-most : goal.returns-clause-most
returns-clause-most g c =
    let i = c.self.inside in
    let now : List ℕ = c.refill-begun.new.buffer in
    let bytes : List ℕ = take i.buffer.len (now ++ drop (length now) i.buffer.items) in
    let same : bytes ≡ now = lent_back i.buffer.len now i.buffer.items
    (omega (arith, c.refill-begun.auto.buffer, c.as_mut_slice.ensures.len)) in
    let count : ℕ = 4097 + c.bytes_moved.result - 4097 in
    let taken = length-take count (drop 4097 bytes) in
    let behind = length-drop 4097 bytes in
    let lent = ap length c.as_mut_slice.ensures.value in
    omega (arith, taken, behind, ap length same, c.self.invariant.size, c.refill-begun.auto.buffer, lent)

use Rattle.std.proofs.Common.{◌≡◌, ◌∙◌, ◌++◌, [], Bool, true, false, ℕ, List, Ok, ap, append_assoc, append-nil, arith, sym, subst, take}
use Rattle.std.proofs.lemmas.List.{take-take, take_all}
use Rattle.std.specs.List.{concat}
use Rattle.th_lines.specs.Output.{Adds, Output, output}
use Rattle.th_lines.specs.Printing.{PrintsNext}
use Rattle.th_lines.proofs.OutputLemmas.{adds_both, adds_first, front_after, front_all, front_as}
use Rattle.th_lines.proofs.write_buffer.append_pieces.Goals as goal

-- some of the bytes came behind what waited, and these are still to come
abbrev SoFar : (all come : List ℕ) → Output → Output → Type 0
SoFar all come old new = (text : List ℕ) × (all ≡ text ++ come) × Adds text old new

-- by what the piece's printer answered
module _ (come after : List (List ℕ)) (o b n : Output) (all new now : List ℕ) (same : now ≡ new)
    (so_far : SoFar all (concat come) o b) (added : Adds [] b n) where
  one_more : (more : Bool) → more ≡ true → PrintsNext {E = Unit {0}} come after n.waiting new (Ok more)
      → SoFar all (concat after) o (record n { waiting = now })
  one_more more is printed =
      let next = subst (λ (m : Bool). PrintsNext {E = Unit {0}} come after n.waiting new (Ok m)) is printed in (
        so_far.0 ++ next.0,
        so_far.1 ∙ ap (λ (l : List (List ℕ)). so_far.0 ++ concat l) next.1 ∙ sym (append_assoc so_far.0 next.0 (concat after)),
        adds_both so_far.2 (adds_first b n next.0 now added (same ∙ next.2)),
      )

  no_more : (more : Bool) → more ≡ false → PrintsNext {E = Unit {0}} come after n.waiting new (Ok more)
      → Adds all o (record n { waiting = now })
  no_more more is printed =
      let none = subst (λ (m : Bool). PrintsNext {E = Unit {0}} come after n.waiting new (Ok m)) is printed in
      let whole : all ≡ so_far.0 ++ [] = so_far.1 ∙ ap (λ (l : List (List ℕ)). so_far.0 ++ concat l) none.0 in
      let last = adds_first b n [] now added (same ∙ none.2 ∙ sym (append-nil n.waiting)) in
      subst (λ (t : List ℕ). Adds t o (record n { waiting = now })) (sym whole) (adds_both so_far.2 last)

pub returns-in-Err-clause-added : goal.returns-in-Err-clause-added
returns-in-Err-clause-added g c =
    let so_far = c.loop-e.invariant.so_far in
    let rest : List ℕ = concat (g.L.Lines.to_come c.loop-e.lines) in
    let contents = g.W.Write.contents in
    let o : Output = output contents c.args.writer.now (take c.args.filled.now c.args.bytes.now.items) in
    let b : Output = output contents c.loop-e.writer (take c.loop-e.filled c.loop-e.bytes.items) in
    let n : Output = output contents c.write_if_full.new.writer (take c.write_if_full.new.filled c.loop-e.bytes.items) in
    front_as {o = o} {n = n} (ap (λ (t : List ℕ). o.waiting ++ t) (sym so_far.1))
    (front_after {a = o} {b = b} {c = n} rest so_far.2 (front_all b n rest c.in-Err.ensures.added))

pub loop-e-preserved : goal.loop-e-preserved
loop-e-preserved g c =
    let contents = g.W.Write.contents in
    let come = g.L.Lines.to_come c.loop-e.lines in
    let after = g.L.Lines.to_come c.print_next.new.self in
    let all : List ℕ = concat (g.L.Lines.to_come c.args.lines.now) in
    let o : Output = output contents c.args.writer.now (take c.args.filled.now c.args.bytes.now.items) in
    let b : Output = output contents c.loop-e.writer (take c.loop-e.filled c.loop-e.bytes.items) in
    let n : Output = output contents c.write_if_full.new.writer (take c.write_if_full.new.filled c.loop-e.bytes.items) in
    let new : List ℕ = c.print_next.new.out.items in
    let now : List ℕ = take c.len.result new in
    let same : now ≡ new = take_all c.len.result new (omega (arith, c.len.ensures)) in
    let more = c.in-Ok-true.field-0 in
    let printed = subst (λ (l : List ℕ). PrintsNext {E = Unit {0}} come after l new (Ok more)) c.truncate.ensures.items
    c.in-Ok-true.ensures.printed in
    record {
      so_far = one_more come after o b n all new now same c.loop-e.invariant.so_far c.in-Ok.ensures.added more
          c.in-Ok-true.field-0-test printed;
      within = omega (arith, c.len.ensures);
      room = omega (arith, c.loop-e.invariant.room, c.truncate.ensures.capacity, c.in-Ok-true.ensures.room);
    }

pub returns-in-Ok-false-clause-added : goal.returns-in-Ok-false-clause-added
returns-in-Ok-false-clause-added g c =
    let contents = g.W.Write.contents in
    let come = g.L.Lines.to_come c.loop-e.lines in
    let after = g.L.Lines.to_come c.print_next.new.self in
    let all : List ℕ = concat (g.L.Lines.to_come c.args.lines.now) in
    let o : Output = output contents c.args.writer.now (take c.args.filled.now c.args.bytes.now.items) in
    let b : Output = output contents c.loop-e.writer (take c.loop-e.filled c.loop-e.bytes.items) in
    let filled : ℕ = c.write_if_full.new.filled in
    let n : Output = output contents c.write_if_full.new.writer (take filled c.loop-e.bytes.items) in
    let new : List ℕ = c.print_next.new.out.items in
    let more = c.in-Ok-false.field-0 in
    let printed = subst (λ (l : List ℕ). PrintsNext {E = Unit {0}} come after l new (Ok more)) c.truncate.ensures.items
    c.in-Ok-false.ensures.printed in
    let none = subst (λ (m : Bool). PrintsNext {E = Unit {0}} come after n.waiting new (Ok m)) c.in-Ok-false.field-0-test printed in
    let same : take filled new ≡ new =
    ap (λ (l : List ℕ). take filled l) none.2 ∙ take-take filled filled c.loop-e.bytes.items (omega arith) ∙ sym none.2 in
    no_more come after o b n all new (take filled new) same c.loop-e.invariant.so_far c.in-Ok.ensures.added more
    c.in-Ok-false.field-0-test printed

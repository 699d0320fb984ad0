use Rattle.std.proofs.Common.{◌≡◌, ◌-◌, ◌+◌, ◌≤◌, ◌∷◌, [], ◌++◌, ℕ, List, take, Some, sym, ap, ◌∙◌, arith}
use Rattle.th_shelf.proofs.Copying.{take-next, kept-at}
use Rattle.th_shelf.proofs.window_copy.copy_kept.Goals as goal

pub loop-position-preserved : goal.loop-position-preserved
loop-position-preserved g c =
    let w = g.S.Shelf.window c.args.shelf.now in
    let k = c.loop-position.position - w.low in
    let same : c.in_ok-clone.field-0 ≡ c.in-Some.value.now = c.requires _ _ c.in_ok-clone.ensures.cases in
    let above : w.low ≤ c.loop-position.position = omega arith in
    let next : c.loop-position.position + 1 - w.low ≡ k + 1 = omega arith in
    c.in_ok-push_back.ensures.items
    ∙ (ap (λ (l : List g.row.T.Denot). l ++ c.in_ok-clone.field-0 ∷ []) c.loop-position.invariant
    ∙ (ap (λ (v : g.row.T.Denot). take k w.kept ++ v ∷ []) same
    ∙ (sym (take-next w.kept k c.in-Some.value.now (kept-at w c.loop-position.position (Some c.in-Some.value.now) above c.in-Some.ensures))
    ∙ ap (λ (n : ℕ). take n w.kept) (sym next))))

use Rattle.std.proofs.Common.{◌≡◌, ℕ, ◌+◌, ◌-◌, ◌++◌, [], ◌∷◌, ap, arith, eqb, true, false, length, length-append, refl, subst, sym, ◌∙◌}
use Rattle.std.proofs.lemmas.Bool.{eqb-true, eqb-false}
use Rattle.th_orders.specs.Waiting.{IsDue}
use Rattle.th_orders.proofs.Waking.{due-before, due-last}
use Rattle.th_orders.proofs.search.downward.Goals as goal

pub loop-number-preserved : goal.loop-number-preserved
loop-number-preserved c =
    let old = c.loop-number.all.items in
    let last : ℕ = c.args.count - 1 - c.loop-number.number in
    let is = c.in_ok-push.ensures.items in
    record {
      len = ap length is ∙ length-append old (last ∷ []) ∙ ap (λ (n : ℕ). n + 1) c.loop-number.invariant.len;
      within = omega (arith, c.loop-number-test.true);
      all = λ k lt past. subst (λ l. IsDue l k) (sym is) (elim (eqb k last) as (λ b. eqb k last ≡ b → IsDue (old ++ last ∷ []) k) [
        | true ↦ λ e. subst (λ (j : ℕ). IsDue (old ++ last ∷ []) j) (sym (eqb-true k last e)) (due-last old last)
        | false ↦ λ e. due-before old last k (c.loop-number.invariant.all k lt
            (omega (arith, lt, past, eqb-false k last e, c.loop-number-test.true)))
      ] refl);
    }

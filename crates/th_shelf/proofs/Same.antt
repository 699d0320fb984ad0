-- Windows that compare equal part by part are one.
use Rattle.std.proofs.Common.{◌≡◌, ◌↔◌, ℕ, Bool, ◌&&◌, List, ap, sym, ◌∙◌}
use Rattle.std.specs.Prelude.{IsTrue, eqb}
use Rattle.std.specs.Cmp.Lexicographic.{pointwise}
use Rattle.std.proofs.lemmas.Bool.{eqb-true, eq-eqb}
use Rattle.th_model.specs.Places.{Places}
use Rattle.th_model.specs.Window.{Window}
use Rattle.th_model.specs.WatchMachine.{IsExact}
use Rattle.th_model.proofs.Exact.{and-left, and-right, both}
use Rattle.th_model.proofs.ExactLists.{exact_list, same_place, exact_place}
use Rattle.th_shelf.specs.Plain.{queue_window}

pub same_window : {T : Type 0} (eq : T → T → Bool) → IsExact eq → (c d t u : ℕ) (ks ls : List T) (ps qs : Places) (bp bk : Bool)
    → bp ≡ pointwise same_place ps qs → bk ≡ pointwise eq ks ls
    → IsTrue (((eqb c d && eqb t u) && bp) && bk) ↔ (queue_window c t ks ps ≡ queue_window d u ls qs)
same_window {T = T} eq exact c d t u ks ls ps qs bp bk js es = (
  λ h.
      let h1 = and-left _ _ h in
      let h2 = and-left _ _ h1 in
      let ec : c ≡ d = eqb-true c d (and-left _ _ h2) in
      let et : t ≡ u = eqb-true t u (and-right _ _ h2) in
      let eps : ps ≡ qs = (exact_list same_place exact_place ps qs).0 (sym js ∙ and-right _ _ h1) in
      let eks : ks ≡ ls = (exact_list eq exact ks ls).0 (sym es ∙ and-right _ _ h) in
      ap (λ x. queue_window x t ks ps) ec
      ∙ (ap (λ x. queue_window d x ks ps) et ∙ (ap (λ x. queue_window d u x ps) eks ∙ ap (λ x. queue_window d u ls x) eps)),
  λ e.
      both (both (both (eq-eqb c d (ap (λ (w : Window T). w.capacity) e)) (eq-eqb t u (ap (λ (w : Window T). w.tail) e)))
      (js ∙ (exact_list same_place exact_place ps qs).1 (ap (λ (w : Window T). w.places) e)))
      (es ∙ (exact_list eq exact ks ls).1 (ap (λ (w : Window T). w.kept) e)),
)

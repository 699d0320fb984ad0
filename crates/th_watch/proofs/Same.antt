-- Pictures that compare equal part by part are one.
use Rattle.std.proofs.Common.{◌≡◌, ◌↔◌, ℕ, Bool, ◌&&◌, List, ap, sym, ◌∙◌}
use Rattle.std.specs.Prelude.{IsTrue, eqb}
use Rattle.std.specs.Cmp.Lexicographic.{pointwise}
use Rattle.std.proofs.lemmas.Bool.{eqb-true, eq-eqb}
use Rattle.th_model.specs.WatchMachine.{Kept, IsExact}
use Rattle.th_model.specs.WatchPicture.{Picture}
use Rattle.th_model.proofs.Exact.{and-left, and-right, both}
use Rattle.th_model.proofs.ExactLists.{exact_list, exact_number, same_reader, exact_reader}
use Rattle.th_watch.specs.Held.{shown_picture}

pub same_picture : {T : Type 0} (eq : T → T → Bool) → IsExact eq →
    (v w n m : ℕ) (ss rs : List ℕ) (ps qs : Kept Bool) (x y : T) (bs bq bx : Bool)
    → bs ≡ pointwise eqb ss rs → bq ≡ pointwise same_reader ps qs → bx ≡ eq x y
    → IsTrue ((((eqb v w && eqb n m) && bs) && bq) && bx) ↔ (shown_picture v x ps ss n ≡ shown_picture w y qs rs m)
same_picture {T = T} eq exact v w n m ss rs ps qs x y bs bq bx is js es = (
  λ h.
      let h1 = and-left _ _ h in
      let h2 = and-left _ _ h1 in
      let h3 = and-left _ _ h2 in
      let ev : v ≡ w = eqb-true v w (and-left _ _ h3) in
      let en : n ≡ m = eqb-true n m (and-right _ _ h3) in
      let ess : ss ≡ rs = (exact_list eqb exact_number ss rs).0 (sym is ∙ and-right _ _ h2) in
      let eps : ps ≡ qs = (exact_list same_reader exact_reader ps qs).0 (sym js ∙ and-right _ _ h1) in
      let ex : x ≡ y = (exact x y).0 (sym es ∙ and-right _ _ h) in
      ap (λ z. shown_picture z x ps ss n) ev
      ∙ (ap (λ z. shown_picture w z ps ss n) ex
      ∙ (ap (λ z. shown_picture w y z ss n) eps ∙ (ap (λ z. shown_picture w y qs z n) ess ∙ ap (λ z. shown_picture w y qs rs z) en))),
  λ e.
      both (both (both (both (eq-eqb v w (ap (λ (p : Picture T). p.version) e)) (eq-eqb n m (ap (λ (p : Picture T). p.next) e)))
      (is ∙ (exact_list eqb exact_number ss rs).1 (ap (λ (p : Picture T). p.senders) e)))
      (js ∙ (exact_list same_reader exact_reader ps qs).1 (ap (λ (p : Picture T). p.readers) e)))
      (es ∙ (exact x y).1 (ap (λ (p : Picture T). p.last) e)),
)
